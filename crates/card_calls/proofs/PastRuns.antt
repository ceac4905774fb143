-- In an exchange the card's end runs the command at most once: after it ran, neither end goes back to it.
use Rattle.std.specs.Prelude.{◌⊎◌, ◌≡◌, ◌≢◌, ◌≤◌, ◌+◌, ◌==◌, ◌||◌, ℕ, Bool, true, false, not, if◌then◌else◌}
use Rattle.std.specs.Prelude.{List, [], ◌++◌}
use Rattle.std.specs.Prelude.{length, nat_lt, Option, None, Some, Result, Ok, Err, refl}
use Rattle.std.proofs.Common.{inl, inr, ⊎_elim, arith, ap, sym, subst, ◌∙◌, true≢false}
use Rattle.std.proofs.lemmas.Bool.Decides.{eqb_tells}
use Rattle.t1_link.specs.declared.block.ErrorKind.{ErrorKind}
use Rattle.t1_link.specs.declared.block.ErrorKind.TheVariants.{ErrorFree, OtherError}
use Rattle.t1_link.specs.declared.block.Fault.{Fault}
use Rattle.t1_link.specs.declared.block.Fault.TheVariants.{WrongCheck}
use Rattle.t1_link.specs.declared.reader_end.Failure.TheVariants.{BadAnswer, LinkLost}
use Rattle.t1_link.specs.declared.reader_end.Phase.TheVariants.{Idle}
use Rattle.t1_link.specs.declared.sequence_number.SequenceNumber.{SequenceNumber}
use Rattle.t1_link.specs.Blocks.{Block, frame, heard, information, receive_ready, resynch_request, resynch_response}
use Rattle.t1_link.specs.Blocks.{ifs_request, ifs_response, told_as}
use Rattle.t1_link.specs.BlockLaws.{heard-frame}
use Rattle.t1_link.specs.SequenceNumbers.{other_number, same}
use Rattle.t1_link.specs.laws.ReaderBusy.{is_block}
use Rattle.t1_link.specs.laws.SequenceNumbers.{other-other, same-other}
use Rattle.t1_link.specs.CardTable.{Link, Taken, card_takes, fresh, link_step, refusing, replies, replying, runs}
use Rattle.t1_link.specs.CardTable.{sending, sent_block, sent_more, sent_number}
use Rattle.t1_link.specs.CardRows.{card_takes-joins, card_takes-runs}
use Rattle.t1_link.specs.Garbled.{last_bit_turned}
use Rattle.t1_link.specs.ReaderTable.{CommandReport, Reader, Turned, advancing, asking, failing, fails, gives, has_more}
use Rattle.t1_link.specs.ReaderTable.{last_block, reader_takes, reader_times_out, requesting, requesting_again, sends}
use Rattle.t1_link.specs.ReaderTable.{trying, turns_answer, turns_block, turns_information, turns_receive_ready}
use Rattle.t1_link.specs.ReaderTable.{turns_resynch, unknown}
use Rattle.t1_link.specs.TreeMachine.{Served, tree_machine}
use Rattle.t1_link.specs.Worlds.{World, quiet, toward_card, toward_reader}
use Rattle.t1_link.specs.WorldRepairs.{Counts}
use Rattle.t1_link.proofs.SoundBlocks.{IsSound}
use Rattle.t1_link.proofs.SoundWorlds.{IsSoundLine}
use Rattle.t1_link.proofs.WorldPhases.{At, CommandOffered, Good, Stage, ToCard, ToReader, answer_offered}
use Rattle.t1_link.proofs.WorldPhases.{answer_taken, at_rest, command_offered}
use Rattle.t1_link.proofs.WorldPhases.{command_taken, core, exchange, given_up, requesting_now}
use Rattle.t1_link.proofs.WorldSteps.{none_left, same_as}
use Rattle.card_model.specs.laws.ProperLaws.{either-if}
use Rattle.card_bench.specs.Exchanges.{NextBlock, ReaderTurns, bytes_under_way, following}
use Rattle.card_bench.specs.Exchanges as ways
use Rattle.card_bench.specs.Lines as lines
use Rattle.card_bench.specs.Lines.{is_due}
use Rattle.card_bench.specs.declared.line.Line.{Line}
use Rattle.card_bench.proofs.BlocksOnLine.{heard-garbled}
use Rattle.card_bench.proofs.ExchangeSteps.{IsReached, IsWay, goes_there}

-- The command is behind both ends. None of it is left to send, and the card's end expects the next number; or RESYNCH
-- was requested.
abbrev pub IsPast : SequenceNumber → Reader → Type 0
IsPast number r = ((r.rest ≡ []) × (number ≡ r.ns)) ⊎ (1 ≤ r.resynchs)

-- it stays so, or the reader's end sends no block
abbrev StaysPast : SequenceNumber → Turned → Type 0
StaysPast number t = IsPast number t.reader ⊎ (is_block t.outcome ≡ false)

module _ (number : SequenceNumber) where
  past-if : (test : Bool) (one other : Turned) → StaysPast number one → StaysPast number other
      → StaysPast number (if test then one else other)
  past-if test one other = either-if (StaysPast number) test one other

  -- after a request for RESYNCH
  past-again : (r : Reader) → StaysPast number (requesting_again r)
  past-again r = past-if (nat_lt r.resynchs 3) (requesting r) (failing r LinkLost) (inl (inr (omega arith))) (inr refl)

  past-resynch : (r : Reader) (h : Result Block Fault) → StaysPast number (turns_resynch r h)
  unfolding turns_resynch
  past-resynch r (Ok resynch_response) = inr refl
  past-resynch r (Ok resynch_request) = past-again r
  past-resynch r (Ok (ifs_request size)) = past-again r
  past-resynch r (Ok (ifs_response size)) = past-again r
  past-resynch r (Ok (receive_ready n error)) = past-again r
  past-resynch r (Ok (information n more field)) = past-again r
  past-resynch r (Err fault) = past-again r

  module _ (r : Reader) (sent : r.rest ≡ []) (is : number ≡ r.ns) where
    past-trying : (b : Block) → StaysPast number (trying r b)
    past-trying b = past-if (nat_lt r.tries 3)
        (record { reader = record r { tries = r.tries + 1 }; outcome = sends b }) (requesting r) (inl (inl (sent, is)))
        (inl (inr (omega arith)))

    past-asking : (error : ErrorKind) → StaysPast number (asking r error)
    past-asking error = past-trying (receive_ready r.nr error)

    -- no block of the command follows
    past-ready : (n : SequenceNumber) → StaysPast number (turns_receive_ready r n)
    past-ready n =
        let none : has_more r ≡ false = ap (λ (xs : List ℕ). not (length xs == 0)) sent in
        past-if (same n (other_number r.ns)) (trying r (last_block r))
        (if has_more r then advancing r r.rest else asking r OtherError) (past-trying (last_block r))
        (subst (λ (more : Bool). StaysPast number (if more then advancing r r.rest else asking r OtherError)) (sym none)
        (past-asking OtherError))

    past-answer : (more : Bool) (bytes : List ℕ) → StaysPast number (turns_answer r more bytes)
    past-answer more bytes =
        let joined : Turned = record {
          reader = record r { nr = other_number r.nr; tries = 0; answer = bytes };
          outcome = sends (receive_ready (other_number r.nr) ErrorFree);
        } in
        let done : Turned = record {
          reader = record r { nr = other_number r.nr; answer = bytes; phase = Idle };
          outcome = gives bytes;
        } in
        let whole : Turned = if nat_lt (length bytes) 2 then failing r BadAnswer else done in
        past-if (nat_lt 258 (length bytes)) (failing r BadAnswer) (if more then joined else whole) (inr refl)
        (past-if more joined whole (inl (inl (sent, is)))
        (past-if (nat_lt (length bytes) 2) (failing r BadAnswer) done (inr refl) (inr refl)))

    past-information : (n : SequenceNumber) (more : Bool) (field : List ℕ)
        → StaysPast number (turns_information r n more field)
    past-information n more field =
        past-if (has_more r || not (same n r.nr)) (asking r OtherError) (turns_answer r more (r.answer ++ field))
        (past-asking OtherError) (past-answer more (r.answer ++ field))

    past-block : (h : Result Block Fault) → StaysPast number (turns_block r h)
    unfolding turns_block
    past-block (Err fault) = past-asking (told_as fault)
    past-block (Ok resynch_request) = past-asking OtherError
    past-block (Ok resynch_response) = past-asking OtherError
    past-block (Ok (ifs_request size)) = past-asking OtherError
    past-block (Ok (ifs_response size)) = past-asking OtherError
    past-block (Ok (receive_ready n error)) = past-ready n
    past-block (Ok (information n more field)) = past-information n more field

  -- whichever reaction it is, where RESYNCH was requested it is the second
  past-either : (r : Reader) (awaits resynchs : Turned) → IsPast number r
      → ((r.rest ≡ []) × (number ≡ r.ns) → StaysPast number awaits) → StaysPast number resynchs
      → StaysPast number (if r.resynchs == 0 then awaits else resynchs)
  past-either r awaits resynchs (inl here) one other = past-if (r.resynchs == 0) awaits resynchs (one here) other
  past-either r awaits resynchs (inr some) one other = elim (eqb_tells r.resynchs 0) [
    | inl none ↦ absurd (omega (arith, some, none.1))
    | inr differs ↦ subst (λ (test : Bool). StaysPast number (if test then awaits else resynchs)) (sym differs.0) other
  ]

  -- the reader's end, whatever comes
  pub past-takes : (r : Reader) (h : Result Block Fault) → IsPast number r → StaysPast number (reader_takes r h)
  past-takes r h past =
      past-either r (turns_block r h) (turns_resynch r h) past (λ here. past-block r here.0 here.1 h) (past-resynch r h)

  pub past-times_out : (r : Reader) → IsPast number r → StaysPast number (reader_times_out r)
  past-times_out r past =
      past-either r (asking r OtherError) (requesting_again r) past (λ here. past-asking r here.0 here.1 OtherError)
      (past-again r)

  sends-block : (o : CommandReport) (next : NextBlock) → Ok next ≡ following o → is_block o ≡ true
  sends-block (sends b) next e = refl
  sends-block (gives answer) next e = absurd cc
  sends-block unknown next e = absurd cc
  sends-block (fails failure) next e = absurd cc

  -- where a block follows
  pub past-turned : (t : Turned) (r : Reader) (next : NextBlock) → StaysPast number t → ReaderTurns t r (Ok next)
      → IsPast number r
  past-turned t r next (inl past) turns = subst (IsPast number) (sym turns.reader_is) past
  past-turned t r next (inr none) turns =
      absurd (true≢false (sym (sends-block t.outcome next turns.follows_so) ∙ none))

-- no command runs, and the number that the card's end expects stays
abbrev IsQuiet : Link → Taken → Type 0
IsQuiet l t = ((command : List ℕ) → t.reaction ≡ runs command → ⊥) × (t.link.nr ≡ l.nr)

replies-none : (b : Block) (command : List ℕ) → replies b ≡ runs command → ⊥
replies-none b command e = absurd cc

quiet-ready : (l : Link) (number : SequenceNumber) (error : ErrorKind)
    → IsQuiet l (card_takes l (Ok (receive_ready number error)))
unfolding card_takes
quiet-ready l number error =
    either-if (IsQuiet l) (sent_number l number) (replying l (sent_block l)) (if sent_more l then sending l l.rest else
    refusing l ErrorFree) (replies-none _, refl)
    (either-if (IsQuiet l) (sent_more l) (sending l l.rest) (refusing l ErrorFree) (replies-none _, refl)
    (replies-none _, refl))

pub quiet-fault : (l : Link) (fault : Fault) → IsQuiet l (card_takes l (Err fault))
unfolding card_takes
quiet-fault l fault = (replies-none _, refl)

none-resynch : (l : Link) (command : List ℕ) → (card_takes l (Ok resynch_request)).reaction ≡ runs command → ⊥
unfolding card_takes
none-resynch l = replies-none _

same-block : (a b : Block) → toward_card a ≡ toward_card b → a ≡ b
same-block a b e = cc

no-block : (b : Block) → quiet ≡ toward_card b → ⊥
no-block b e = absurd cc

other-way : (a b : Block) → toward_reader a ≡ toward_card b → ⊥
other-way a b e = absurd cc

-- What the card's end makes of a block, by whether the command is behind both ends: then nothing runs, and it stays
-- there. If it runs, it is behind them.
abbrev pub StaysBehind : World Served → Taken → Type 0
StaysBehind w t = IsPast w.card.nr w.reader
    → ((command : List ℕ) → t.reaction ≡ runs command → ⊥) × IsPast t.link.nr w.reader

abbrev pub GoesBehind : World Served → Taken → Type 0
GoesBehind w t = (command : List ℕ) → t.reaction ≡ runs command → IsPast t.link.nr w.reader

pub record PassesBy (w : World Served) (t : Taken) : Type 0 where
  pub stays : StaysBehind w t
  pub goes : GoesBehind w t

quiet-passes : (w : World Served) (t : Taken) → IsQuiet w.card t → PassesBy w t
quiet-passes w t calm = record {
  stays = λ past. (calm.0, subst (λ (n : SequenceNumber). IsPast n w.reader) (sym calm.1) past);
  goes = λ command e. absurd (calm.0 command e);
}

module _ (start : Served) (w : World Served) where
  -- the command's own block is not behind
  offered-ahead : CommandOffered tree_machine start (core w) → w.reader.resynchs ≡ 0 → IsPast w.card.nr w.reader → ⊥
  offered-ahead at none (inl here) =
      let twice : other_number w.reader.ns ≡ w.reader.ns = sym at.number ∙ here.1 in
      true≢false (sym (same_as w.reader.ns (other_number w.reader.ns) (sym twice)) ∙ same-other w.reader.ns)
  offered-ahead at none (inr some) = absurd (omega (arith, none, some))

  -- the last block of the command, or one of which more follow
  offered-passes : (more : Bool) → not (length w.reader.rest == 0) ≡ more → CommandOffered tree_machine start (core w)
      → w.reader.resynchs ≡ 0
      → PassesBy w (card_takes w.card (Ok (information (other_number w.reader.ns) more w.reader.field)))
  offered-passes true more at none =
      let expected : same (other_number w.reader.ns) w.card.nr ≡ true =
      same_as (other_number w.reader.ns) w.card.nr (sym at.number) in
      let row = card_takes-joins w.card (other_number w.reader.ns) w.reader.field
      (ap (λ (xs : List ℕ). not (length xs == 0)) at.unsent) expected in
      record {
        stays = λ past. absurd (offered-ahead at none past);
        goes = λ command e. absurd (replies-none _ command (sym (ap (λ (t : Taken). t.reaction) row) ∙ e));
      }
  offered-passes false more at none =
      let expected : same (other_number w.reader.ns) w.card.nr ≡ true =
      same_as (other_number w.reader.ns) w.card.nr (sym at.number) in
      let row = card_takes-runs w.card (other_number w.reader.ns) w.reader.field
      (ap (λ (xs : List ℕ). not (length xs == 0)) at.unsent) expected in
      record {
        stays = λ past. absurd (offered-ahead at none past);
        goes = λ command e. inl (
          none_left w.reader.rest more,
          ap (λ (t : Taken). t.link.nr) row ∙ ap other_number at.number ∙ other-other w.reader.ns,
        );
      }

  toward-passes : (stage : Stage) (b : Block) → At tree_machine start stage (core w) → ToCard stage (core w) b
      → w.reader.resynchs ≡ 0 → PassesBy w (card_takes w.card (Ok b))
  toward-passes stage b at (inl (error, is)) none =
      subst (λ (x : Block). PassesBy w (card_takes w.card (Ok x))) (sym is)
      (quiet-passes w _ (quiet-ready w.card w.reader.nr error))
  toward-passes command_offered b at (inr is) none =
      subst (λ (x : Block). PassesBy w (card_takes w.card (Ok x))) (sym is)
      (offered-passes (not (length w.reader.rest == 0)) refl at none)
  toward-passes command_taken b at (inr is) none = absurd is
  toward-passes answer_offered b at (inr is) none = absurd is
  toward-passes answer_taken b at (inr is) none = absurd is

  -- any block on its way to the card's end
  block-passes : (c : Counts) (b : Block) → Good tree_machine start c w → w.line ≡ toward_card b
      → PassesBy w (card_takes w.card (Ok b))
  block-passes c b (at_rest r repaired) line = absurd (no-block b (sym r.line ∙ line))
  block-passes c b (given_up g repaired failed) line = absurd (no-block b (sym g.line ∙ line))
  block-passes c b (exchange x budget) line = ⊎_elim
      (λ (there : (a : Block) × (w.line ≡ toward_card a) × ToCard x.stage (core w) a).
      let is : there.0 ≡ b = same-block there.0 b (sym there.1 ∙ line) in
      toward-passes x.stage b x.at (subst (λ (a : Block). ToCard x.stage (core w) a) is there.2) x.awaits.resynchs)
      (λ (back : (a : Block) × (w.line ≡ toward_reader a) × ToReader x.stage (core w) a).
      absurd (other-way back.0 b (sym back.1 ∙ line))) x.way
  block-passes c b (requesting_now r often) line = ⊎_elim
      (λ (there : w.line ≡ toward_card resynch_request).
      let is : resynch_request ≡ b = same-block resynch_request b (sym there ∙ line) in
      subst (λ (a : Block). PassesBy w (card_takes w.card (Ok a))) is (record {
        stays = λ past. (none-resynch w.card, inr r.some);
        goes = λ command e. inr r.some;
      }))
      (λ (back : ((w.line ≡ toward_reader resynch_response) × (w.card ≡ fresh)) ⊎
      ((a : Block) × (w.line ≡ toward_reader a) × (heard (frame a) ≢ Ok resynch_response))). ⊎_elim
      (λ (set_back : (w.line ≡ toward_reader resynch_response) × (w.card ≡ fresh)). absurd (other-way resynch_response b
      (sym set_back.0 ∙ line))) (λ (other : (a : Block) × (w.line ≡ toward_reader a)
      × (heard (frame a) ≢ Ok resynch_response)). absurd (other-way other.0 b (sym other.1 ∙ line))) back)
      r.way

  -- of what arrives there
  abbrev pub ArrivesBy : Option (List ℕ) → Type 0
  ArrivesBy None = Unit {0}
  ArrivesBy (Some got) = PassesBy w (link_step w.card got)

  arrives-by : (b : Block) (lost garbled : Bool) → IsReached start w → IsSound b → w.line ≡ toward_card b
      → ArrivesBy (if lost then None else if garbled then Some (last_bit_turned (frame b)) else Some (frame b))
  arrives-by b true garbled reached s line = tt
  arrives-by b false true reached s line =
      subst (λ (h : Result Block Fault). PassesBy w (card_takes w.card h))
      (sym (heard-garbled (frame b) b (heard-frame b s.spellable)))
      (quiet-passes w _ (quiet-fault w.card WrongCheck))
  arrives-by b false false reached s line =
      subst (λ (h : Result Block Fault). PassesBy w (card_takes w.card h)) (sym (heard-frame b s.spellable))
      (block-passes reached.counts b reached.good line)

  pub passes-by : (way : NextBlock) (pending : Line) → IsReached start w → IsWay way w.line → goes_there way ≡ true
      → ArrivesBy (lines.arriving pending 0 (bytes_under_way way))
  passes-by (ways.toward_card bytes) pending reached is there =
      subst (λ (x : List ℕ). ArrivesBy (lines.arriving pending 0 x)) (sym is.2)
      (arrives-by is.0 (is_due pending.lose 0) (is_due pending.garble 0) reached
      (subst IsSoundLine is.1 reached.sound.line) is.1)
  passes-by (ways.toward_reader bytes) pending reached is there = absurd (cc there)
