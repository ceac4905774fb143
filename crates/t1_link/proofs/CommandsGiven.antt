-- The card's end runs no command but the one that was given to the reader's end last.
use Rattle.std.specs.Prelude.{◌⊎◌, ◌≡◌, ◌≢◌, ◌≤◌, ℕ, Bool, true, false, not, ◌==◌, if◌then◌else◌, List, [], ◌++◌}
use Rattle.std.specs.Prelude.{length, Ok, Err, refl}
use Rattle.std.proofs.Common.{inl, inr, ⊎_elim, arith, ap, sym, subst, ◌∙◌}
use Rattle.std.proofs.lemmas.List.{append-nil, take_all}
use Rattle.t1_link.specs.declared.block.ErrorKind.{ErrorKind}
use Rattle.t1_link.specs.declared.block.ErrorKind.TheVariants.{ErrorFree}
use Rattle.t1_link.specs.declared.block.Fault.{Fault}
use Rattle.t1_link.specs.declared.sequence_number.SequenceNumber.{SequenceNumber}
use Rattle.t1_link.specs.Blocks.{Block, frame, heard, information, receive_ready, resynch_request, resynch_response}
use Rattle.t1_link.specs.SequenceNumbers.{other_number, same}
use Rattle.t1_link.specs.CardTable.{Link, Taken, card_takes, fresh, joined, refusing, replies, replying, runs, sending}
use Rattle.t1_link.specs.CardTable.{sent_block, sent_more, sent_number}
use Rattle.t1_link.specs.CardRows.{card_takes-fault, card_takes-joins, card_takes-resynch, card_takes-runs}
use Rattle.t1_link.specs.Worlds.{Machine, World, quiet, toward_card, toward_reader}
use Rattle.t1_link.specs.WorldRepairs.{Counts, newest}
use Rattle.t1_link.proofs.WorldPhases.{At, CommandOffered, Good, Stage, ToCard, ToReader, answer_offered}
use Rattle.t1_link.proofs.WorldPhases.{answer_taken, at_rest, command_offered}
use Rattle.t1_link.proofs.WorldPhases.{command_taken, core, exchange, given_up, requesting_now}
use Rattle.t1_link.proofs.WorldSteps.{command_size, none_left, same_as}
use Rattle.card_model.specs.laws.ProperLaws.{either-if}

-- a reaction that runs no command
abbrev pub RunsNone : Taken → Type 0
RunsNone t = (command : List ℕ) → t.reaction ≡ runs command → ⊥

replies-none : (b : Block) (command : List ℕ) → replies b ≡ runs command → ⊥
replies-none b command e = absurd cc

none-ready : (l : Link) (number : SequenceNumber) (error : ErrorKind)
    → RunsNone (card_takes l (Ok (receive_ready number error)))
unfolding card_takes
none-ready l number error =
    either-if RunsNone (sent_number l number) (replying l (sent_block l)) (if sent_more l then sending l l.rest else
    refusing l ErrorFree) (λ command e. replies-none _ command e) (either-if RunsNone (sent_more l) (sending l l.rest)
    (refusing l ErrorFree) (λ command e. replies-none _ command e) (λ command e. replies-none _ command e))

pub none-fault : (l : Link) (fault : Fault) → RunsNone (card_takes l (Err fault))
none-fault l fault command e =
    let row = ap (λ (t : Taken). t.reaction) (card_takes-fault l fault) in
    replies-none _ command (sym row ∙ e)

none-resynch : (l : Link) → RunsNone (card_takes l (Ok resynch_request))
none-resynch l command e =
    let row = ap (λ (t : Taken). t.reaction) (card_takes-resynch l) in
    replies-none _ command (sym row ∙ e)

same-block : (a b : Block) → toward_card a ≡ toward_card b → a ≡ b
same-block a b e = cc

no-block : (b : Block) → quiet ≡ toward_card b → ⊥
no-block b e = absurd cc

other-way : (a b : Block) → toward_reader a ≡ toward_card b → ⊥
other-way a b e = absurd cc

runs-same : (a b : List ℕ) → runs a ≡ runs b → a ≡ b
runs-same a b e = cc

module _ {M : Type 0} (machine : Machine M) (start : M) where
  -- the last block of the command, or one of which more follow
  offered-given : (w : World M) (more : Bool) (command : List ℕ)
      → not (length w.reader.rest == 0) ≡ more → CommandOffered machine start (core w)
      → (card_takes w.card (Ok (information (other_number w.reader.ns) more w.reader.field))).reaction ≡ runs command
      → command ≡ newest w.sent
  offered-given w true command more at e =
      let expected : same (other_number w.reader.ns) w.card.nr ≡ true =
      same_as (other_number w.reader.ns) w.card.nr (sym at.number) in
      let row = ap (λ (t : Taken). t.reaction)
      (card_takes-joins w.card (other_number w.reader.ns) w.reader.field
      (ap (λ (xs : List ℕ). not (length xs == 0)) at.unsent) expected) in
      absurd (replies-none _ command (sym row ∙ e))
  offered-given w false command more at e =
      let expected : same (other_number w.reader.ns) w.card.nr ≡ true =
      same_as (other_number w.reader.ns) w.card.nr (sym at.number) in
      let row = ap (λ (t : Taken). t.reaction)
      (card_takes-runs w.card (other_number w.reader.ns) w.reader.field
      (ap (λ (xs : List ℕ). not (length xs == 0)) at.unsent) expected) in
      let all : w.reader.rest ≡ [] = none_left w.reader.rest more in
      let split : w.card.held ++ w.reader.field ≡ at.command = ap (λ (xs : List ℕ). w.card.held ++ xs)
      (sym (append-nil w.reader.field) ∙ ap (λ (xs : List ℕ). w.reader.field ++ xs) (sym all)) ∙ at.whole in
      let size : length (w.card.held ++ w.reader.field) ≤ 262 = let l = ap length split in
      let most = (command_size at.command at.sound).1 in
      omega (arith, l, most) in
      let kept : joined w.card w.reader.field ≡ at.command =
      take_all 262 (w.card.held ++ w.reader.field) size ∙ split in
      runs-same command (joined w.card w.reader.field) (sym e ∙ row) ∙ kept ∙ ap newest (sym at.history.sent)

  toward-given : (stage : Stage) (w : World M) (b : Block) (command : List ℕ) → At machine start stage (core w)
      → ToCard stage (core w) b → (card_takes w.card (Ok b)).reaction ≡ runs command → command ≡ newest w.sent
  toward-given stage w b command at (inl (error, is)) e =
      absurd (none-ready w.card w.reader.nr error command
      (ap (λ (x : Block). (card_takes w.card (Ok x)).reaction) (sym is) ∙ e))
  toward-given command_offered w b command at (inr is) e =
      offered-given w (not (length w.reader.rest == 0)) command refl at
      (ap (λ (x : Block). (card_takes w.card (Ok x)).reaction) (sym is) ∙ e)
  toward-given command_taken w b command at (inr is) e = absurd is
  toward-given answer_offered w b command at (inr is) e = absurd is
  toward-given answer_taken w b command at (inr is) e = absurd is

  pub runs-given : (c : Counts) (w : World M) (b : Block) (command : List ℕ) → Good machine start c w
      → w.line ≡ toward_card b → (card_takes w.card (Ok b)).reaction ≡ runs command → command ≡ newest w.sent
  runs-given c w b command (at_rest r repaired) line e = absurd (no-block b (sym r.line ∙ line))
  runs-given c w b command (given_up g repaired failed) line e = absurd (no-block b (sym g.line ∙ line))
  runs-given c w b command (exchange x budget) line e = ⊎_elim
      (λ (there : (a : Block) × (w.line ≡ toward_card a) × ToCard x.stage (core w) a).
      let is : there.0 ≡ b = same-block there.0 b (sym there.1 ∙ line) in
      toward-given x.stage w b command x.at (subst (λ (a : Block). ToCard x.stage (core w) a) is there.2) e)
      (λ (back : (a : Block) × (w.line ≡ toward_reader a) × ToReader x.stage (core w) a).
      absurd (other-way back.0 b (sym back.1 ∙ line))) x.way
  runs-given c w b command (requesting_now r often) line e = ⊎_elim
      (λ (there : w.line ≡ toward_card resynch_request).
      let is : resynch_request ≡ b = same-block resynch_request b (sym there ∙ line) in
      absurd (none-resynch w.card command (ap (λ (x : Block). (card_takes w.card (Ok x)).reaction) is ∙ e)))
      (λ (back : ((w.line ≡ toward_reader resynch_response) × (w.card ≡ fresh)) ⊎
      ((a : Block) × (w.line ≡ toward_reader a) × (heard (frame a) ≢ Ok resynch_response))). ⊎_elim
      (λ (set_back : (w.line ≡ toward_reader resynch_response) × (w.card ≡ fresh)). absurd (other-way resynch_response b
      (sym set_back.0 ∙ line))) (λ (other : (a : Block) × (w.line ≡ toward_reader a)
      × (heard (frame a) ≢ Ok resynch_response)). absurd (other-way other.0 b (sym other.1 ∙ line))) back)
      r.way
