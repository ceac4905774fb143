-- Each event leads from one phase to another.
use Rattle.std.specs.Prelude.{◌⊎◌, ◌≡◌, ◌≢◌, ◌≤◌, ◌<◌, ◌+◌, ◌*◌, ◌-◌, ℕ, Bool, true, false, not, ◌==◌, ◌&&◌, nat_lt}
use Rattle.std.specs.Prelude.{nat_le, if◌then◌else◌, List, [], ◌∷◌, ◌++◌}
use Rattle.std.specs.Prelude.{length, take, drop, Option, is_some, unwrap_or, Result, Ok, Err, refl}
use Rattle.std.proofs.Common.{inl, inr, ⊎_elim, sym, ◌∙◌, ap, subst, arith}
use Rattle.std.proofs.lemmas.Bool.{leb-true, ltb-true, ltb-false, eqb-true, not-false, and_from, and_parts, and_right}
use Rattle.std.proofs.lemmas.Bool.{not-true}
use Rattle.std.proofs.lemmas.List.{append_assoc, append-nil, length-append, length-drop, length-take}
use Rattle.std.proofs.lemmas.List.{take_all, take-append-drop}
use Rattle.t1_link.specs.declared.block.ErrorKind.{ErrorKind}
use Rattle.t1_link.specs.declared.block.ErrorKind.TheVariants.{ErrorFree, OtherError}
use Rattle.t1_link.specs.declared.block.Fault.{Fault}
use Rattle.t1_link.specs.declared.reader_end.Phase.TheVariants.{Busy}
use Rattle.t1_link.specs.declared.reader_end.Failure.TheVariants.{LinkLost}
use Rattle.t1_link.specs.declared.sequence_number.SequenceNumber.{SequenceNumber}
use Rattle.t1_link.specs.Blocks.{Block, IsSpellable, frame, heard, information, receive_ready, resynch_request}
use Rattle.t1_link.specs.Blocks.{resynch_response, told_as}
use Rattle.t1_link.specs.SequenceNumbers.{other_number, same}
use Rattle.t1_link.specs.BlockLaws.{heard-frame}
use Rattle.t1_link.specs.laws.SequenceNumbers.{other-other, same-other, same-refl}
use Rattle.t1_link.specs.CardTable.{Link, Taken, card_takes, fresh, joined, refusing, sending, sent_block, sent_more}
use Rattle.t1_link.specs.CardRows.{card_takes-again, card_takes-fault, card_takes-joins}
use Rattle.t1_link.specs.CardRows.{card_takes-next, card_takes-nothing, card_takes-resynch, card_takes-runs}
use Rattle.t1_link.specs.ReaderTable.{is_busy, Reader, reader_step, Turned, advancing, asking, failing, last_block}
use Rattle.t1_link.specs.ReaderTable.{requesting, requesting_again, sends, trying}
use Rattle.t1_link.specs.ReaderTable.{turns_block, turns_resynch, fresh_reader, unknown}
use Rattle.t1_link.specs.ReaderRows.{reader_sends-dead, reader_sends-idle, reader_takes-awaits}
use Rattle.t1_link.specs.ReaderRows.{reader_takes-resynch, reader_times_out-asks}
use Rattle.t1_link.specs.ReaderRows.{reader_times_out-resynch, turns_answer-done, turns_answer-more, turns_block-again}
use Rattle.t1_link.specs.ReaderRows.{turns_block-fault, turns_block-joins}
use Rattle.t1_link.specs.ReaderRows.{turns_block-next, turns_block-nothing, turns_resynch-answered, turns_resynch-else}
use Rattle.t1_link.specs.Worlds.{Answers, Arrival, Carried, Done, Event, Failed, Line, Machine, Report}
use Rattle.t1_link.specs.Worlds.{Unknown, World, arrival, after_arrival, at_card, at_reader}
use Rattle.t1_link.specs.Worlds.{carrying, garble, giving, are_bytes, in_vain, is_command, is_garbled}
use Rattle.t1_link.specs.Worlds.{lose, may_arrive, may_send, nothing, pass, powered, quiet}
use Rattle.t1_link.specs.Worlds.{running, send, taking, toward_card, toward_reader, turning, world_step}
use Rattle.t1_link.specs.WorldRepairs.{Counts, Watched, answer_blocks, command_blocks, counted, counts_after}
use Rattle.t1_link.specs.WorldRepairs.{faulted, newest, no_counts, passed, watch}
use Rattle.t1_link.specs.WorldLaw.{Kept, OnlyRequestsFollow, requests}
use Rattle.t1_link.proofs.WorldPhases.{Budget, Exchange, UnderWay, Kind, Straight, asks_card, asks_reader}
use Rattle.t1_link.proofs.WorldPhases.{kind_back}
use Rattle.t1_link.proofs.WorldPhases.{kind_there, many, need, newest_answer}
use Rattle.t1_link.proofs.WorldPhases.{none_yet, offers_card, offers_reader, once, After, AnswerOffered, At}
use Rattle.t1_link.proofs.WorldPhases.{Awaits, Before, CommandOffered, Core, Good, History}
use Rattle.t1_link.proofs.WorldPhases.{Requesting, Stage, ToCard, ToReader, answer_offered, answer_taken}
use Rattle.t1_link.proofs.WorldPhases.{at_rest, kind_of, command_offered, command_taken, core}
use Rattle.t1_link.proofs.WorldPhases.{exchange, given_up, requesting_now}

pub none_left : (xs : List ℕ) → not (length xs == 0) ≡ false → xs ≡ []
none_left [] e = refl
none_left (x ∷ xs) e = let n : length (x ∷ xs) ≡ 0 = eqb-true (length (x ∷ xs)) 0 (not-false _ e) in
    absurd (omega (arith, n))

-- numbers, by an equation between them
pub same_as : (a b : SequenceNumber) → a ≡ b → same a b ≡ true
same_as a b e = subst (λ (c : SequenceNumber). same a c ≡ true) e (same-refl a)

other_than : (a b : SequenceNumber) → a ≡ b → same a (other_number b) ≡ false
other_than a b e = subst (λ (c : SequenceNumber). same a (other_number c) ≡ false) e (same-other a)

turned_back : (a b : SequenceNumber) → a ≡ other_number b → other_number a ≡ b
turned_back a b e = ap other_number e ∙ other-other b

-- no command is given where one is in hand
busy_refuses : (r : Reader) (command : List ℕ) → r.phase ≡ Busy → may_send r command ≡ true → ⊥
busy_refuses r command e may =
    let busy : is_busy r.phase ≡ true = ap is_busy e in
    let free : is_busy r.phase ≡ false =
    not-true (is_busy r.phase) (and_parts (not (is_busy r.phase)) (is_command command) may).0 in
    absurd (cc (busy, free))

-- a command has 1 to 261 bytes
pub command_size : (command : List ℕ) → is_command command ≡ true → (1 ≤ length command) × (length command ≤ 261)
command_size command sound =
    let size = and_parts (nat_le 1 (length command)) (nat_le (length command) 261)
    (and_parts (are_bytes command) (nat_le 1 (length command) && nat_le (length command) 261) sound).1 in
    (leb-true 1 (length command) size.0, leb-true (length command) 261 size.1)

-- what the line makes of a block is a fault
fault_of : (h : Result Block Fault) → is_garbled h ≡ true → (fault : Fault) × (h ≡ Err fault)
fault_of (Err fault) e = (fault, refl)
fault_of (Ok b) e = absurd cc

garbled_fault : (bytes : List ℕ) → may_arrive bytes ≡ true → (fault : Fault) × (heard bytes ≡ Err fault)
garbled_fault bytes may = fault_of (heard bytes) (and_parts (are_bytes bytes) (is_garbled (heard bytes)) may).1

-- a try, or a request in its place
abbrev trying_so : Bool → Reader → Block → Turned
trying_so left r b = if left
    then record { reader = record r { tries = r.tries + 1 }; outcome = sends b } else requesting r

abbrev again_so : Bool → Reader → Turned
again_so left r = if left then requesting r else failing r LinkLost

pub some_left : (bytes : List ℕ) → not (length bytes == 0) ≡ true → 1 ≤ length bytes
some_left [] e = absurd cc
some_left (x ∷ bytes) e = omega arith

-- the blocks that are left when one of them is sent
one_block_fewer : (bytes : List ℕ) → 1 ≤ length bytes → command_blocks bytes ≡ 1 + command_blocks (drop 254 bytes)
one_block_fewer bytes some =
    let d : length (drop 254 bytes) ≡ length bytes - 254 = length-drop 254 bytes in
    omega (arith, some, d)

one_block_less : (bytes : List ℕ) → not (length bytes == 0) ≡ true
    → command_blocks bytes ≡ 1 + command_blocks (drop 254 bytes)
one_block_less bytes e = one_block_fewer bytes (some_left bytes e)

one_answer_block_less : (bytes : List ℕ) (size : ℕ) → size ≡ 32 → 1 ≤ length bytes
    → answer_blocks bytes ≡ 1 + answer_blocks (drop size bytes)
one_answer_block_less bytes size e some =
    let d : length (drop size bytes) ≡ length bytes - 32 = length-drop size bytes
    ∙ ap (λ (n : ℕ). length bytes - n) e in
    omega (arith, some, d)

need_small : (stage : Stage) (kind : Kind) → need stage kind ≤ 1
need_small command_offered asks_card = omega arith
need_small command_offered asks_reader = omega arith
need_small answer_offered asks_reader = omega arith
need_small answer_taken asks_reader = omega arith
need_small stage kind = omega arith

-- a block arrived
passes_on : {M : Type 0} {c : Counts} {stage : Stage} {kind : Kind} {k : Core M} {tries : ℕ}
    → Budget c stage kind k tries → (stage' : Stage) (kind' : Kind) (k' : Core M) (tries' : ℕ)
    → tries' + need stage' kind' ≤ tries + need stage kind
    → (tries ≡ 0 → Straight c.passes stage kind k → (tries' ≡ 0) × Straight (c.passes + 1) stage' kind' k')
    → Budget (passed c) stage' kind' k' tries'
passes_on (many m) stage' kind' k' tries' fewer straight = many m
passes_on (once f n) stage' kind' k' tries' fewer straight = once f (omega (arith, n, fewer))
passes_on (none_yet f t s) stage' kind' k' tries' fewer straight = let both = straight t s in none_yet f both.0 both.1

-- a block was lost or garbled
faults_on : {M : Type 0} {c : Counts} {stage : Stage} {kind : Kind} {k : Core M} {tries : ℕ}
    → Budget c stage kind k tries → (stage' : Stage) (kind' : Kind) (k' : Core M) (tries' : ℕ) → tries' ≤ tries + 1
    → Budget (faulted c) stage' kind' k' tries'
faults_on (many m) stage' kind' k' tries' one_more = many (omega (arith, m))
faults_on (once f n) stage' kind' k' tries' one_more = many (omega (arith, f))
faults_on (none_yet f t s) stage' kind' k' tries' one_more =
    once (omega (arith, f)) (let n = need_small stage' kind' in omega (arith, n, t, one_more))

-- three tries are spent after many faults only
spent : {M : Type 0} {c : Counts} {stage : Stage} {kind : Kind} {k : Core M} (tries : ℕ)
    → Budget c stage kind k (tries + 1) → 3 ≤ tries → 2 ≤ c.faults
spent tries (many m) three = m
spent tries (once f n) three = absurd (omega (arith, n, three))
spent tries (none_yet f t s) three = absurd (omega (arith, t))

module _ {M : Type 0} (machine : Machine M) (start : M) (Invariant : M → Type 0) (fits : Answers machine Invariant)
    (begins : Invariant start) where
  -- the invariant holds of the state that the machine is in
  kept-invariant : (sent : List (List ℕ)) (carried : List Carried) (reports : List Report) (m : M)
      → Kept machine start sent carried reports m → Invariant m
  kept-invariant [] carried [] m h = subst Invariant (sym h.1) begins
  kept-invariant [] carried (report ∷ reports) m h = absurd h
  kept-invariant (command ∷ sent) carried [] m h = absurd h
  kept-invariant (command ∷ sent) carried (report ∷ reports) m (inl h) =
      subst Invariant (sym h.3) (fits.keeps h.0 command (kept-invariant sent h.1 reports h.0 h.6) h.4)
  kept-invariant (command ∷ sent) carried (report ∷ reports) m (inr h) = kept-invariant sent carried reports m h.1

  before-invariant : (h : History M) (command : List ℕ) → Before machine start h command → Invariant h.machine
  before-invariant h command b = kept-invariant b.earlier h.carried h.reports h.machine b.kept

  before-open : (h : History M) (command : List ℕ) → Before machine start h command
      → Kept machine start h.sent h.carried (Unknown ∷ h.reports) h.machine
  before-open h command b = subst (λ (s : List (List ℕ)). Kept machine start s h.carried (Unknown ∷ h.reports)
      h.machine) (sym b.sent) (inr (inl refl, b.kept))

  after-open : (h : History M) (answer : List ℕ) → After machine start h answer
      → Kept machine start h.sent h.carried (Unknown ∷ h.reports) h.machine
  after-open h answer a = subst (λ (s : List (List ℕ)). Kept machine start s h.carried (Unknown ∷ h.reports) h.machine)
      (sym a.sent) (inl (a.was, a.before, a.carried, a.machine_is, a.sound, inr (inl refl), a.kept))

  after-done : (h : History M) (answer : List ℕ) → After machine start h answer
      → Kept machine start h.sent h.carried (Done answer ∷ h.reports) h.machine
  after-done h answer a =
      subst (λ (s : List (List ℕ)). Kept machine start s h.carried (Done answer ∷ h.reports) h.machine) (sym a.sent)
      (inl (a.was, a.before, a.carried, a.machine_is, a.sound, inl (ap Done (sym a.answer_is)), a.kept))

  pub at-open : (stage : Stage) (k : Core M) → At machine start stage k
      → Kept machine start k.past.sent k.past.carried (Unknown ∷ k.past.reports) k.past.machine
  at-open command_offered k at = before-open k.past at.command at.history
  at-open command_taken k at = before-open k.past at.command at.history
  at-open answer_offered k at = after-open k.past at.answer at.history
  at-open answer_taken k at = after-open k.past at.answer at.history

  kept-failed : (sent : List (List ℕ)) (carried : List Carried) (reports : List Report) (m : M)
      → Kept machine start sent carried (Unknown ∷ reports) m
      → Kept machine start sent carried (Failed LinkLost ∷ reports) m
  kept-failed [] carried reports m h = absurd h
  kept-failed (command ∷ sent) carried reports m (inl h) = inl (h.0, h.1, h.2, h.3, h.4, inr (inr refl), h.6)
  kept-failed (command ∷ sent) carried reports m (inr h) = inr (inr refl, h.1)

  -- a request for RESYNCH goes on the line
  requested : (c : Counts) (w : World M) → 2 ≤ c.faults → w.reader.phase ≡ Busy → w.reader.resynchs ≤ 2
      → requests w.offered ≡ w.reader.resynchs
      → OnlyRequestsFollow w.offered
      → Kept machine start w.sent w.carried (Unknown ∷ w.reports) w.machine
      → Good machine start c (turning w (requesting w.reader))
  requested c w often phase most count only kept = requesting_now (record {
    phase = phase;
    some = omega arith;
    most = omega arith;
    count = omega (arith, count);
    only = (λ some. refl, only);
    kept = kept;
    way = inl refl;
  }) often

  -- whatever made the reader's end try: the same stage with the block, or a request for RESYNCH
  try_so : (c : Counts) (left : Bool) (stage : Stage) (w : World M) (b : Block) → nat_lt w.reader.tries 3 ≡ left
      → At machine start stage (core w) → Awaits w
      → (toward : ToCard stage (core w) b)
      → requests (b ∷ w.offered) ≡ 0 → Budget c stage (kind_there toward) (core w) (w.reader.tries + 1)
      → Good machine start c (turning w (trying_so left w.reader b))
  try_so c true stage w b e at awaits toward requested_none budget = exchange (record {
    stage = stage;
    at = at;
    awaits = record {
      phase = awaits.phase;
      resynchs = awaits.resynchs;
      only = (λ some. absurd (omega (arith, some, awaits.requested)), awaits.only);
      requested =
          requested_none;
    };
    way = inl (b, refl, toward);
  }) budget
  try_so c false stage w b e at awaits toward requested_none budget =
      requested c w (spent w.reader.tries budget (ltb-false w.reader.tries 3 e)) awaits.phase
      (omega (arith, awaits.resynchs)) (awaits.requested ∙ sym awaits.resynchs) awaits.only (at-open stage (core w) at)

  try : (c : Counts) (stage : Stage) (w : World M) (b : Block)
      → At machine start stage (core w) → Awaits w → (toward : ToCard stage (core w) b)
      → requests (b ∷ w.offered) ≡ 0 → Budget c stage (kind_there toward) (core w) (w.reader.tries + 1)
      → Good machine start c (turning w (trying w.reader b))
  try c stage w b = try_so c (nat_lt w.reader.tries 3) stage w b refl

  ask : (c : Counts) (stage : Stage) (w : World M) (error : ErrorKind) → At machine start stage (core w) → Awaits w
      → Budget c stage asks_card (core w) (w.reader.tries + 1)
      → Good machine start c (turning w (asking w.reader error))
  ask c stage w error at awaits budget = try c stage w (receive_ready w.reader.nr error) at awaits
      (inl (error, refl)) awaits.requested budget

  -- the card's end is the same, and says which number it expects
  keeps : (c : Counts) (stage : Stage) (w : World M) (error : ErrorKind) → At machine start stage (core w) → Awaits w
      → Budget c stage asks_reader (core w) w.reader.tries
      → Good machine start c (taking machine w (refusing w.card error))
  keeps c stage w error at awaits budget = exchange (record {
    stage = stage;
    at = at;
    awaits =
        record { phase = awaits.phase; resynchs = awaits.resynchs; only = awaits.only; requested = awaits.requested };
    way = inr (receive_ready w.card.nr error, refl, inl (error, refl));
  }) budget

  -- a block that arrives is heard as itself
  card-gets : (c : Counts) (w : World M) (b : Block) (taken : Taken) → IsSpellable b → card_takes w.card (Ok b) ≡ taken
      → Good machine start c (taking machine w taken)
      → Good machine start c (after_arrival machine w (at_card (frame b)))
  card-gets c w b taken spellable row good =
      let step : card_takes w.card (heard (frame b)) ≡ taken = ap (card_takes w.card) (heard-frame b spellable) ∙ row in
      subst (λ (t : Taken). Good machine start c (taking machine w t)) (sym step) good

  reader-gets : (c : Counts) (w : World M) (b : Block) (turned : Turned)
      → IsSpellable b → w.reader.resynchs ≡ 0 → turns_block w.reader (Ok b) ≡ turned
      → Good machine start c (turning w turned) → Good machine start c (after_arrival machine w (at_reader (frame b)))
  reader-gets c w b turned spellable none row good =
      let step : reader_step w.reader (frame b) ≡ turned = reader_takes-awaits w.reader (heard (frame b)) none
      ∙ ap (turns_block w.reader) (heard-frame b spellable)
      ∙ row in
      subst (λ (t : Turned). Good machine start c (turning w t)) (sym step) good

  -- the card's end offers the first of these bytes of the answer
  offers : (c : Counts) (w : World M) (bytes answer : List ℕ) → 2 ≤ length answer → length answer ≤ 258
      → After machine start (core w).past answer → Awaits w → w.card.nr ≡ w.reader.ns → w.card.ns ≡ w.reader.nr
      → w.card.held ≡ [] → w.reader.rest ≡ [] → w.card.ifsd ≡ 32 → w.reader.answer ++ bytes ≡ answer
      → Budget c answer_offered offers_reader (core (taking machine w (sending w.card bytes))) w.reader.tries
      → Good machine start c (taking machine w (sending w.card bytes))
  offers c w bytes answer low high history awaits number answered held sent_all size whole budget =
      let n : length (take w.card.ifsd bytes) ≤ 254 = let l = length-take w.card.ifsd bytes in omega (arith, l, size) in
      exchange (record {
        stage = answer_offered;
        at = record {
          answer = answer;
          at_least = low;
          at_most = high;
          history = history;
          number = number;
          answered = ap other_number answered;
          held = held;
          sent_all = sent_all;
          size = size;
          field = take w.card.ifsd bytes;
          last = refl;
          fits = n;
          whole = ap (λ (xs : List ℕ). w.reader.answer ++ xs) (take-append-drop w.card.ifsd bytes) ∙ whole;
        };
        awaits = record {
          phase = awaits.phase;
          resynchs = awaits.resynchs;
          only = awaits.only;
          requested = awaits.requested;
        };
        way = inr (
          _,
          refl,
          inr (λ i. information (sym (other-other w.card.ns) i)
              (not (length (drop w.card.ifsd bytes) == 0)) (take w.card.ifsd bytes)),
        );
      }) budget

  -- the reader's end offers the first of these bytes of the command
  advances : (c : Counts) (w : World M) (bytes command : List ℕ) → is_command command ≡ true
      → Before machine start (core w).past command
      → w.reader.phase ≡ Busy → w.reader.resynchs ≡ 0 → OnlyRequestsFollow w.offered → requests w.offered ≡ 0
      → w.card.nr ≡ w.reader.ns → w.card.ns ≡ w.reader.nr → w.reader.answer ≡ []
      → w.card.rest ≡ [] → w.card.ifsd ≡ 32 → w.card.held ++ bytes ≡ command
      → Budget c command_offered offers_card (core (turning w (advancing w.reader bytes))) 0
      → Good machine start c (turning w (advancing w.reader bytes))
  advances c w bytes command sound history phase resynchs only requested_none number answered empty
      unsent size whole budget =
      let n : length (take 254 bytes) ≤ 254 = let l = length-take 254 bytes in omega (arith, l) in
      exchange (record {
        stage = command_offered;
        at = record {
          command = command;
          sound = sound;
          history = history;
          number = number ∙ sym (other-other w.reader.ns);
          answered = answered;
          empty = empty;
          unsent = unsent;
          size = size;
          field = n;
          whole = ap (λ (xs : List ℕ). w.card.held ++ xs) (take-append-drop 254 bytes) ∙ whole;
        };
        awaits = record {
          phase = phase;
          resynchs = resynchs;
          only = (λ some. absurd (omega (arith, some, requested_none)), only);
          requested = requested_none;
        };
        way = inl (
          _,
          refl,
          inr (λ i. information (sym (other-other w.reader.ns) i)
              (not (length (drop 254 bytes) == 0)) (take 254 bytes)),
        );
      }) budget

  -- the machine's answer begins where the command ends
  run_straight : (w : World M) (command : List ℕ) → is_command command ≡ true → Invariant w.machine → w.reader.rest ≡ []
      → w.card.ifsd ≡ 32 → (passes : ℕ)
      → Straight passes command_offered offers_card (core w)
      → passes + 1 + 3 + 2 * answer_blocks (drop w.card.ifsd (machine.answer w.machine command)) ≡ 2 *
      (command_blocks (newest w.sent) + answer_blocks (machine.answer w.machine command))
  run_straight w command sound holds all size passes s =
      let low = fits.at_least w.machine command holds sound in
      let less = one_answer_block_less (machine.answer w.machine command) w.card.ifsd size (omega (arith, low)) in
      let last : command_blocks w.reader.rest ≡ 0 = ap command_blocks all in
      omega (arith, s, less, last)

  -- the answer ends after its last piece
  in_pieces : (c : Counts) (w : World M) (at : AnswerOffered machine start (core w))
      → w.card.rest ≡ [] → w.reader.answer ++ at.field ≡ at.answer
      → Budget c answer_offered offers_reader (core w) w.reader.tries → c.faults ≡ 0
      → c.passes + 1 + 2 ≡ 2 * (command_blocks (newest w.sent) + answer_blocks (w.reader.answer ++ at.field))
  in_pieces c w at all split (many m) zero = absurd (omega (arith, m, zero))
  in_pieces c w at all split (once f n) zero = absurd (omega (arith, f, zero))
  in_pieces c w at all split (none_yet f t s) zero =
      let last : answer_blocks w.card.rest ≡ 0 = ap answer_blocks all in
      let whole : newest_answer w.carried ≡ w.reader.answer ++ at.field = ap newest_answer at.history.carried
      ∙ at.history.answer_is ∙ sym split in
      let blocks : answer_blocks (newest_answer w.carried) ≡ answer_blocks (w.reader.answer ++ at.field) =
      ap answer_blocks whole in
      omega (arith, s, last, blocks)

  -- the card's end is asked for the block that the reader's end expects
  asked : (c : Counts) (stage : Stage) (w : World M) (error : ErrorKind) → At machine start stage (core w) → Awaits w
      → Budget c stage asks_card (core w) w.reader.tries
      → Good machine start (passed c) (after_arrival machine w (at_card (frame (receive_ready w.reader.nr error))))
  asked c command_offered w error at awaits budget =
      card-gets (passed c) w (receive_ready w.reader.nr error) _ tt
      (card_takes-nothing w.card w.reader.nr error (and_right (is_some w.card.sent)
      _ (other_than w.reader.nr w.card.ns (sym at.answered))) (ap (λ (xs : List ℕ). not (length xs == 0)) at.unsent))
      (keeps (passed c) command_offered w ErrorFree at awaits
      (passes_on budget command_offered asks_reader (core w) w.reader.tries (omega arith) (λ t s. absurd s)))
  asked c command_taken w error at awaits budget =
      card-gets (passed c) w (receive_ready w.reader.nr error) _ tt
      (card_takes-nothing w.card w.reader.nr error (and_right (is_some w.card.sent)
      _ (other_than w.reader.nr w.card.ns (sym at.answered))) (ap (λ (xs : List ℕ). not (length xs == 0)) at.unsent))
      (keeps (passed c) command_taken w ErrorFree at awaits
      (passes_on budget command_taken asks_reader (core w) w.reader.tries (omega arith) (λ t s. absurd s)))
  asked c answer_offered w error at awaits budget =
      card-gets (passed c) w (receive_ready w.reader.nr error) _ tt
      (card_takes-again w.card w.reader.nr error
      (and_from (is_some w.card.sent) _ (ap is_some at.last)
      (same_as w.reader.nr (other_number w.card.ns) (sym (turned_back w.card.ns w.reader.nr at.answered)))))
      (exchange (record {
        stage = answer_offered;
        at = at;
        awaits = record {
          phase = awaits.phase;
          resynchs = awaits.resynchs;
          only = awaits.only;
          requested = awaits.requested;
        };
        way = inr (_, refl, inr refl);
      }) (passes_on budget answer_offered offers_reader (core w) w.reader.tries (omega arith) (λ t s. absurd s)))
  asked c answer_taken w error at awaits budget =
      card-gets (passed c) w (receive_ready w.reader.nr error) _ tt
      (card_takes-next w.card w.reader.nr
      error (and_right (is_some w.card.sent) _ (other_than w.reader.nr w.card.ns (sym at.answered))) at.more)
      (offers (passed c) w w.card.rest at.answer at.at_least at.at_most at.history awaits at.number at.answered at.held
      at.sent_all at.size at.whole (passes_on budget answer_offered offers_reader _ w.reader.tries (omega arith)
      (λ t s. let less = one_answer_block_less w.card.rest w.card.ifsd at.size (some_left w.card.rest at.more) in
      (t, omega (arith, s, less)))))

  -- the machine runs the command
  runs-it : (c : Counts) (w : World M) (command : List ℕ) → is_command command ≡ true
      → Before machine start (core w).past command → Awaits w → w.card.nr ≡ w.reader.ns → w.card.ns ≡ w.reader.nr
      → w.card.held ≡ [] → w.reader.rest ≡ [] → w.card.ifsd ≡ 32 → w.reader.answer ≡ []
      → Budget c answer_offered offers_reader (core (running machine w command)) w.reader.tries
      → Good machine start c (running machine w command)
  runs-it c w command sound history awaits number answered held sent_all size empty budget =
      let ran : World M =
      record w { machine = machine.next w.machine command; carried = carrying machine w.machine command ∷ w.carried } in
      offers c ran (machine.answer w.machine command) (machine.answer w.machine command)
      (fits.at_least w.machine command (before-invariant (core w).past command history) sound)
      (fits.at_most w.machine command (before-invariant (core w).past command history) sound)
      (record {
        command = command;
        sound = sound;
        earlier = history.earlier;
        sent = history.sent;
        was = w.machine;
        before = w.carried;
        carried = refl;
        machine_is = refl;
        answer_is = refl;
        kept = history.kept;
      })
      (record { phase = awaits.phase; resynchs = awaits.resynchs; only = awaits.only; requested = awaits.requested })
      number answered held sent_all size (ap (λ (xs : List ℕ). xs ++ machine.answer w.machine command) empty) budget

  -- the card's end gets the block of the command that is offered, of which more follows or not
  offered : (c : Counts) (more : Bool) (w : World M) → not (length w.reader.rest == 0) ≡ more
      → CommandOffered machine start (core w) → Awaits w → Budget c command_offered offers_card (core w) w.reader.tries
      → Good machine start (passed c)
      (after_arrival machine w (at_card (frame (information (other_number w.reader.ns) more w.reader.field))))
  offered c true w more at awaits budget =
      let expected : same (other_number w.reader.ns) w.card.nr ≡ true =
      same_as (other_number w.reader.ns) w.card.nr (sym at.number) in
      let split : w.card.held ++ w.reader.field ++ w.reader.rest ≡ at.command =
      append_assoc w.card.held w.reader.field w.reader.rest ∙ at.whole in
      let size : length (w.card.held ++ w.reader.field) ≤ 262 =
      let n = length-append (w.card.held ++ w.reader.field) w.reader.rest in let l = ap length split in
      let most = (command_size at.command at.sound).1 in omega (arith, n, l, most) in
      let kept : joined w.card w.reader.field ≡ w.card.held ++ w.reader.field =
      take_all 262 (w.card.held ++ w.reader.field) size in
      card-gets (passed c) w (information (other_number w.reader.ns) true w.reader.field) _ at.field
      (card_takes-joins w.card (other_number w.reader.ns) w.reader.field
      (ap (λ (xs : List ℕ). not (length xs == 0)) at.unsent) expected) (exchange (record {
        stage = command_taken;
        at = record {
          command = at.command;
          sound = at.sound;
          history = at.history;
          number = turned_back w.card.nr w.reader.ns at.number;
          answered = at.answered;
          empty = at.empty;
          unsent = at.unsent;
          size = at.size;
          more = more;
          whole = ap (λ (xs : List ℕ). xs ++ w.reader.rest) kept ∙ split;
        };
        awaits = record {
          phase = awaits.phase;
          resynchs = awaits.resynchs;
          only = awaits.only;
          requested = awaits.requested;
        };
        way = inr (_, refl, inl (ErrorFree, refl));
      }) (passes_on budget command_taken asks_reader _ w.reader.tries (omega arith) (λ t s. (t, omega (arith, s)))))
  offered c false w more at awaits budget =
      let expected : same (other_number w.reader.ns) w.card.nr ≡ true =
      same_as (other_number w.reader.ns) w.card.nr (sym at.number) in
      let all : w.reader.rest ≡ [] = none_left w.reader.rest more in
      let split : w.card.held ++ w.reader.field ≡ at.command = ap (λ (xs : List ℕ). w.card.held ++ xs)
      (sym (append-nil w.reader.field) ∙ ap (λ (xs : List ℕ). w.reader.field ++ xs) (sym all)) ∙ at.whole in
      let size : length (w.card.held ++ w.reader.field) ≤ 262 = let l = ap length split in
      let most = (command_size at.command at.sound).1 in
      omega (arith, l, most) in
      let kept : joined w.card w.reader.field ≡ at.command =
      take_all 262 (w.card.held ++ w.reader.field) size ∙ split in
      let taken : World M = record w { card = record w.card { nr = other_number w.card.nr; held = [] } } in
      card-gets (passed c) w (information (other_number w.reader.ns) false w.reader.field) _ at.field
      (card_takes-runs w.card (other_number w.reader.ns) w.reader.field
      (ap (λ (xs : List ℕ). not (length xs == 0)) at.unsent) expected) (subst (λ (x : List ℕ). Good machine start
      (passed c) (running machine taken x)) (sym kept) (runs-it (passed c) taken at.command at.sound
      at.history
      (record { phase = awaits.phase; resynchs = awaits.resynchs; only = awaits.only; requested = awaits.requested })
      (turned_back w.card.nr w.reader.ns at.number) at.answered refl all at.size at.empty
      (passes_on budget answer_offered offers_reader _ w.reader.tries (omega arith)
      (λ t s. (
        t,
        run_straight w at.command at.sound (before-invariant (core w).past at.command at.history)
            all at.size c.passes s,
      )))))

  -- the reader's end is asked for the block that the card's end expects
  asked_back : (c : Counts) (stage : Stage) (w : World M) (error : ErrorKind)
      → At machine start stage (core w) → Awaits w
      → Budget c stage asks_reader (core w) w.reader.tries
      → Good machine start (passed c) (after_arrival machine w (at_reader (frame (receive_ready w.card.nr error))))
  asked_back c command_offered w error at awaits budget =
      reader-gets (passed c) w (receive_ready w.card.nr error) _ tt awaits.resynchs
      (turns_block-again w.reader w.card.nr error (same_as w.card.nr (other_number w.reader.ns) at.number))
      (try (passed c) command_offered w (last_block w.reader) at awaits (inr refl) awaits.requested
      (passes_on budget command_offered offers_card (core w) (w.reader.tries + 1) (omega arith) (λ t s. absurd s)))
  asked_back c command_taken w error at awaits budget =
      reader-gets (passed c) w (receive_ready w.card.nr error) _ tt awaits.resynchs
      (turns_block-next w.reader w.card.nr error (other_than w.card.nr w.reader.ns at.number) at.more)
      (advances (passed c) w w.reader.rest at.command at.sound at.history awaits.phase awaits.resynchs
      awaits.only awaits.requested at.number at.answered at.empty
      at.unsent at.size at.whole
      (passes_on budget command_offered offers_card _ 0 (omega arith)
      (λ t s. let less = one_block_less w.reader.rest at.more in (refl, omega (arith, s, less)))))
  asked_back c answer_offered w error at awaits budget =
      reader-gets (passed c) w (receive_ready w.card.nr error) _ tt awaits.resynchs
      (turns_block-nothing w.reader w.card.nr error (other_than w.card.nr w.reader.ns at.number)
      (ap (λ (xs : List ℕ). not (length xs == 0)) at.sent_all)) (ask (passed c) answer_offered w OtherError at awaits
      (passes_on budget answer_offered asks_card (core w) (w.reader.tries + 1) (omega arith) (λ t s. absurd s)))
  asked_back c answer_taken w error at awaits budget =
      reader-gets (passed c) w (receive_ready w.card.nr error) _ tt awaits.resynchs
      (turns_block-nothing w.reader w.card.nr error (other_than w.card.nr w.reader.ns at.number)
      (ap (λ (xs : List ℕ). not (length xs == 0)) at.sent_all)) (ask (passed c) answer_taken w OtherError at awaits
      (passes_on budget answer_taken asks_card (core w) (w.reader.tries + 1) (omega arith) (λ t s. absurd s)))

  -- the reader's end gets the block of the answer that is offered, of which more follows or not
  answered_so : (c : Counts) (more : Bool) (w : World M)
      → sent_more w.card ≡ more → (at : AnswerOffered machine start (core w)) → Awaits w
      → Budget c answer_offered offers_reader (core w) w.reader.tries
      → Good machine start (passed c)
      (after_arrival machine w (at_reader (frame (information w.reader.nr more at.field))))
  answered_so c true w more at awaits budget =
      let split : w.reader.answer ++ at.field ++ w.card.rest ≡ at.answer =
      append_assoc w.reader.answer at.field w.card.rest ∙ at.whole in
      let size : length (w.reader.answer ++ at.field) ≤ 258 = let n =
      length-append (w.reader.answer ++ at.field) w.card.rest in let l = ap length split in
      omega (arith, n, l, at.at_most) in
      reader-gets (passed c) w (information w.reader.nr true at.field) _ at.fits awaits.resynchs
      (turns_block-joins w.reader w.reader.nr true at.field
      (ap (λ (xs : List ℕ). not (length xs == 0)) at.sent_all) (same-refl w.reader.nr)
      ∙ turns_answer-more w.reader (w.reader.answer ++ at.field) size)
      (exchange (record {
        stage = answer_taken;
        at = record {
          answer = at.answer;
          at_least = at.at_least;
          at_most = at.at_most;
          history = at.history;
          number = at.number;
          answered = at.answered;
          held = at.held;
          sent_all = at.sent_all;
          size = at.size;
          more = more;
          whole = split;
        };
        awaits = record {
          phase = awaits.phase;
          resynchs = awaits.resynchs;
          only = (λ some. absurd (omega (arith, some, awaits.requested)), awaits.only);
          requested =
              awaits.requested;
        };
        way = inl (_, refl, inl (ErrorFree, refl));
      }) (passes_on budget answer_taken asks_card _ 0 (omega arith) (λ t s. (refl, omega (arith, s)))))
  answered_so c false w more at awaits budget =
      let all : w.card.rest ≡ [] = none_left w.card.rest more in
      let split : w.reader.answer ++ at.field ≡ at.answer = ap (λ (xs : List ℕ). w.reader.answer ++ xs)
      (sym (append-nil at.field) ∙ ap (λ (xs : List ℕ). at.field ++ xs) (sym all)) ∙ at.whole in
      let n = ap length split in
      let low : 2 ≤ length (w.reader.answer ++ at.field) = omega (arith, n, at.at_least) in
      let high : length (w.reader.answer ++ at.field) ≤ 258 = omega (arith, n, at.at_most) in
      reader-gets (passed c) w (information w.reader.nr false at.field) _ at.fits awaits.resynchs
      (turns_block-joins w.reader w.reader.nr false at.field
      (ap (λ (xs : List ℕ). not (length xs == 0)) at.sent_all) (same-refl w.reader.nr)
      ∙ turns_answer-done w.reader (w.reader.answer ++ at.field) low high)
      (at_rest (record {
        phase = refl;
        resynchs = awaits.resynchs;
        number = at.number;
        answered = at.answered;
        held = at.held;
        unsent = all;
        size = at.size;
        line = refl;
        kept = subst (λ (a : List ℕ). Kept machine start w.sent w.carried (Done a ∷ w.reports) w.machine) (sym split)
            (after-done (core w).past at.answer at.history);
        only = awaits.only;
        most = omega (arith, awaits.requested);
        fits = awaits.requested;
      }) (λ few none. (w.reader.answer ++ at.field, refl, λ zero. in_pieces c w at all split budget zero)))

  answered : (c : Counts) (w : World M)
      → AnswerOffered machine start (core w) → Awaits w → Budget c answer_offered offers_reader (core w) w.reader.tries
      → Good machine start (passed c) (after_arrival machine w (at_reader (frame (sent_block w.card))))
  answered c w at awaits budget =
      let number : other_number w.card.ns ≡ w.reader.nr = turned_back w.card.ns w.reader.nr at.answered in
      let field : unwrap_or w.card.sent [] ≡ at.field = ap (λ (s : Option (List ℕ)). unwrap_or s []) at.last in
      subst (λ (b : Block). Good machine start (passed c) (after_arrival machine w (at_reader (frame b))))
      (λ i. information (sym number i) (sent_more w.card) (sym field i))
      (answered_so c (sent_more w.card) w refl at awaits budget)

  -- a block under way arrives
  arrives_there : (c : Counts) (stage : Stage) (w : World M) (b : Block) → At machine start stage (core w)
      → Awaits w → (toward : ToCard stage (core w) b) → Budget c stage (kind_there toward) (core w) w.reader.tries
      → Good machine start (passed c) (after_arrival machine w (at_card (frame b)))
  arrives_there c stage w b at awaits (inl asks) budget =
      subst (λ (x : Block). Good machine start (passed c) (after_arrival machine w (at_card (frame x)))) (sym asks.1)
      (asked c stage w asks.0 at awaits budget)
  arrives_there c command_offered w b at awaits (inr same_block) budget =
      subst (λ (x : Block). Good machine start (passed c) (after_arrival machine w (at_card (frame x))))
      (sym same_block) (offered c (not (length w.reader.rest == 0)) w refl at awaits budget)
  arrives_there c command_taken w b at awaits (inr nothing_so) budget = absurd nothing_so
  arrives_there c answer_offered w b at awaits (inr nothing_so) budget = absurd nothing_so
  arrives_there c answer_taken w b at awaits (inr nothing_so) budget = absurd nothing_so

  arrives_back : (c : Counts) (stage : Stage) (w : World M) (b : Block) → At machine start stage (core w) → Awaits w
      → (toward : ToReader stage (core w) b) → Budget c stage (kind_back toward) (core w) w.reader.tries
      → Good machine start (passed c) (after_arrival machine w (at_reader (frame b)))
  arrives_back c stage w b at awaits (inl asks) budget =
      subst (λ (x : Block). Good machine start (passed c) (after_arrival machine w (at_reader (frame x)))) (sym asks.1)
      (asked_back c stage w asks.0 at awaits budget)
  arrives_back c command_offered w b at awaits (inr nothing_so) budget = absurd nothing_so
  arrives_back c command_taken w b at awaits (inr nothing_so) budget = absurd nothing_so
  arrives_back c answer_offered w b at awaits (inr same_block) budget =
      subst (λ (x : Block). Good machine start (passed c) (after_arrival machine w (at_reader (frame x))))
      (sym same_block) (answered c w at awaits budget)
  arrives_back c answer_taken w b at awaits (inr nothing_so) budget = absurd nothing_so

  -- bytes that are no block arrive
  garbled_there : (c : Counts) (stage : Stage) (w : World M) (bytes : List ℕ) (fault : Fault) (kind : Kind)
      → At machine start stage (core w) → Awaits w
      → Budget c stage kind (core w) w.reader.tries → heard bytes ≡ Err fault
      → Good machine start (faulted c) (after_arrival machine w (at_card bytes))
  garbled_there c stage w bytes fault kind at awaits budget e =
      let row : card_takes w.card (heard bytes) ≡ refusing w.card (told_as fault) = ap (card_takes w.card) e
      ∙ card_takes-fault w.card fault in
      subst (λ (t : Taken). Good machine start (faulted c) (taking machine w t)) (sym row)
      (keeps (faulted c) stage w (told_as fault) at awaits
      (faults_on budget stage asks_reader (core w) w.reader.tries (omega arith)))

  garbled_back : (c : Counts) (stage : Stage) (w : World M) (bytes : List ℕ) (fault : Fault) (kind : Kind)
      → At machine start stage (core w) → Awaits w
      → Budget c stage kind (core w) w.reader.tries → heard bytes ≡ Err fault
      → Good machine start (faulted c) (after_arrival machine w (at_reader bytes))
  garbled_back c stage w bytes fault kind at awaits budget e =
      let row : reader_step w.reader bytes ≡ asking w.reader (told_as fault) =
      reader_takes-awaits w.reader (heard bytes) awaits.resynchs
      ∙ ap (turns_block w.reader) e ∙ turns_block-fault w.reader fault in
      subst (λ (t : Turned). Good machine start (faulted c) (turning w t)) (sym row)
      (ask (faulted c) stage w (told_as fault) at awaits
      (faults_on budget stage asks_card (core w) (w.reader.tries + 1) (omega arith)))

  waited : (c : Counts) (stage : Stage) (w : World M) (kind : Kind) → At machine start stage (core w) → Awaits w
      → Budget c stage kind (core w) w.reader.tries → Good machine start (faulted c) (after_arrival machine w in_vain)
  waited c stage w kind at awaits budget = subst (λ (t : Turned). Good machine start (faulted c) (turning w t))
      (sym (reader_times_out-asks w.reader awaits.resynchs))
      (ask (faulted c) stage w OtherError at awaits
      (faults_on budget stage asks_card (core w) (w.reader.tries + 1) (omega arith)))

  -- the response to the request for RESYNCH didn't come
  again : (c : Counts) → 2 ≤ c.faults → (left : Bool) (w : World M) → nat_lt w.reader.resynchs 3 ≡ left
      → Requesting machine start w → Good machine start c (turning w (again_so left w.reader))
  again c often true w e r = let few : w.reader.resynchs < 3 = ltb-true w.reader.resynchs 3 e in
      requested c w often r.phase (omega (arith, few)) r.count r.only r.kept
  again c often false w e r =
      let none_left_so : 3 ≤ w.reader.resynchs = ltb-false w.reader.resynchs 3 e in
      given_up (record {
        phase = refl;
        line = refl;
        kept = kept-failed w.sent w.carried w.reports w.machine r.kept;
        only = r.only;
        most = omega (arith, r.count, r.most);
        fits = inl (omega (arith, r.count, r.most, none_left_so));
      }) (λ few none. absurd (omega (arith, few, often))) (λ none. none)

  requests_again : (c : Counts) → 2 ≤ c.faults → (w : World M) → Requesting machine start w
      → Good machine start c (turning w (requesting_again w.reader))
  requests_again c often w r = again c often (nat_lt w.reader.resynchs 3) w refl r

  hears_else : (c : Counts) → 2 ≤ c.faults → (w : World M) (bytes : List ℕ) → Requesting machine start w
      → heard bytes ≢ Ok resynch_response → Good machine start c (after_arrival machine w (at_reader bytes))
  hears_else c often w bytes r other =
      let row : reader_step w.reader bytes ≡ requesting_again w.reader =
      reader_takes-resynch w.reader (heard bytes) r.some
      ∙ turns_resynch-else w.reader (heard bytes) other in
      subst (λ (t : Turned). Good machine start c (turning w t)) (sym row) (requests_again c often w r)

  waits_again : (c : Counts) → 2 ≤ c.faults → (w : World M) → Requesting machine start w
      → Good machine start c (after_arrival machine w in_vain)
  waits_again c often w r = subst (λ (t : Turned). Good machine start c (turning w t))
      (sym (reader_times_out-resynch w.reader r.some)) (requests_again c often w r)

  -- the card's end gets the request
  requested_there : (c : Counts) → 2 ≤ c.faults → (w : World M) → Requesting machine start w
      → Good machine start c (after_arrival machine w (at_card (frame resynch_request)))
  requested_there c often w r = card-gets c w resynch_request _ tt (card_takes-resynch w.card)
      (requesting_now (record {
        phase = r.phase;
        some = r.some;
        most = r.most;
        count = r.count;
        only = r.only;
        kept = r.kept;
        way = inr (inl (refl, refl));
      }) often)

  -- the card's end gets bytes that are no block
  garbled_request : (c : Counts) → 2 ≤ c.faults
      → (w : World M) (bytes : List ℕ) (fault : Fault) → Requesting machine start w → heard bytes ≡ Err fault
      → Good machine start c (after_arrival machine w (at_card bytes))
  garbled_request c often w bytes fault r e =
      let row : card_takes w.card (heard bytes) ≡ refusing w.card (told_as fault) = ap (card_takes w.card) e
      ∙ card_takes-fault w.card fault in
      subst (λ (t : Taken). Good machine start c (taking machine w t)) (sym row)
      (requesting_now (record {
        phase = r.phase;
        some = r.some;
        most = r.most;
        count = r.count;
        only = r.only;
        kept = r.kept;
        way = inr (inr (
          receive_ready w.card.nr (told_as fault),
          refl,
          λ response. let ready = heard-frame (receive_ready w.card.nr (told_as fault)) tt in
              absurd (cc (ready, response)),
        ));
      }) often)

  -- the reader's end gets the response
  responded : (c : Counts) → 2 ≤ c.faults → (w : World M) → Requesting machine start w → w.card ≡ fresh
      → Good machine start c (after_arrival machine w (at_reader (frame resynch_response)))
  responded c often w r set_back =
      let row : reader_step w.reader (frame resynch_response) ≡ record { reader = fresh_reader; outcome = unknown } =
      reader_takes-resynch w.reader (heard (frame resynch_response)) r.some
      ∙ ap (turns_resynch w.reader) (heard-frame resynch_response tt)
      ∙ turns_resynch-answered w.reader in
      subst (λ (t : Turned). Good machine start c (turning w t)) (sym row) (at_rest (record {
        phase = refl;
        resynchs = refl;
        number = ap (λ (l : Link). l.nr) set_back;
        answered = ap (λ (l : Link). l.ns) set_back;
        held = ap (λ (l : Link). l.held) set_back;
        unsent = ap (λ (l : Link). l.rest) set_back;
        size = ap (λ (l : Link). l.ifsd) set_back;
        line = refl;
        kept = r.kept;
        only = r.only;
        most = omega (arith, r.count, r.most);
        fits = omega (arith, r.count, r.some);
      }) (λ few none. absurd (omega (arith, few, often))))

  -- what arrives, by what is under way
  by_line : (c : Counts) (w : World M) (line : Line) (event : Event) → w.line ≡ line
      → Good machine start (counted c event (arrival line event)) (after_arrival machine w (arrival line event))
      → Good machine start (counted c event (arrival w.line event)) (after_arrival machine w (arrival w.line event))
  by_line c w line event e good =
      subst (λ (l : Line). Good machine start (counted c event (arrival l event))
      (after_arrival machine w (arrival l event))) (sym e) good

  -- the line garbles only into bytes that are no block
  garble_so : (c : Counts) (garbles : Bool) (w : World M) (bytes : List ℕ) (came : Arrival)
      → may_arrive bytes ≡ garbles → Good machine start c w → ((fault : Fault) → heard bytes ≡ Err fault
      → Good machine start (counted c (garble bytes) came) (after_arrival machine w came))
      → Good machine start (counted c (garble bytes) (if garbles then came else nothing))
      (after_arrival machine w (if garbles then came else nothing))
  garble_so c true w bytes came e good each = let f = garbled_fault bytes e in each f.0 f.1
  garble_so c false w bytes came e good each = good

  toward_card-event : (c : Counts) (stage : Stage) (w : World M) (b : Block) → At machine start stage (core w)
      → Awaits w → (toward : ToCard stage (core w) b) → Budget c stage (kind_there toward) (core w) w.reader.tries
      → Good machine start c w
      → (event : Event) → Good machine start (counted c event (arrival (toward_card b) event))
      (after_arrival machine w (arrival (toward_card b) event))
  toward_card-event c stage w b at awaits toward budget good (send command) = good
  toward_card-event c stage w b at awaits toward budget good pass = arrives_there c stage w b at awaits toward budget
  toward_card-event c stage w b at awaits toward budget good lose =
      waited c stage w (kind_there toward) at awaits budget
  toward_card-event c stage w b at awaits toward budget good (garble bytes) =
      garble_so c (may_arrive bytes) w bytes (at_card bytes) refl good
      (λ fault e. garbled_there c stage w bytes fault (kind_there toward) at awaits budget e)

  toward_reader-event : (c : Counts) (stage : Stage) (w : World M) (b : Block) → At machine start stage (core w)
      → Awaits w → (toward : ToReader stage (core w) b)
      → Budget c stage (kind_back toward) (core w) w.reader.tries → Good machine start c w
      → (event : Event) → Good machine start (counted c event (arrival (toward_reader b) event))
      (after_arrival machine w (arrival (toward_reader b) event))
  toward_reader-event c stage w b at awaits toward budget good (send command) = good
  toward_reader-event c stage w b at awaits toward budget good pass = arrives_back c stage w b at awaits toward budget
  toward_reader-event c stage w b at awaits toward budget good lose =
      waited c stage w (kind_back toward) at awaits budget
  toward_reader-event c stage w b at awaits toward budget good (garble bytes) =
      garble_so c (may_arrive bytes) w bytes (at_reader bytes) refl good
      (λ fault e. garbled_back c stage w bytes fault (kind_back toward) at awaits budget e)

  request-event : (c : Counts) → 2 ≤ c.faults → (w : World M) → Requesting machine start w
      → (event : Event) → Good machine start (counted c event (arrival (toward_card resynch_request) event))
      (after_arrival machine w (arrival (toward_card resynch_request) event))
  request-event c often w r (send command) = requesting_now r often
  request-event c often w r pass = requested_there (passed c) often w r
  request-event c often w r lose = waits_again (faulted c) (omega (arith, often)) w r
  request-event c often w r (garble bytes) =
      garble_so c (may_arrive bytes) w bytes (at_card bytes) refl (requesting_now r often)
      (λ fault e. garbled_request (faulted c) (omega (arith, often)) w bytes fault r e)

  -- whatever goes back to the reader's end after the request
  reply-event : (c : Counts) → 2 ≤ c.faults → (w : World M) (b : Block) → Requesting machine start w
      → Good machine start (passed c) (after_arrival machine w (at_reader (frame b)))
      → (event : Event) → Good machine start (counted c event (arrival (toward_reader b) event))
      (after_arrival machine w (arrival (toward_reader b) event))
  reply-event c often w b r good (send command) = requesting_now r often
  reply-event c often w b r good pass = good
  reply-event c often w b r good lose = waits_again (faulted c) (omega (arith, often)) w r
  reply-event c often w b r good (garble bytes) =
      garble_so c (may_arrive bytes) w bytes (at_reader bytes) refl (requesting_now r often)
      (λ fault e. hears_else (faulted c) (omega (arith, often)) w bytes r (λ response. absurd (cc (e, response))))

  exchange-event : (c : Counts)
      (w : World M) (event : Event) (x : Exchange machine start w) (way : UnderWay x.stage (core w) w.line)
      → Budget c x.stage (kind_of x.stage (core w) w.line way) (core w) w.reader.tries → Good machine start c w
      → Good machine start (counted c event (arrival w.line event)) (after_arrival machine w (arrival w.line event))
  exchange-event c w event x (inl there) budget good = by_line c w (toward_card there.0) event there.1
      (toward_card-event c x.stage w there.0 x.at x.awaits there.2 budget good event)
  exchange-event c w event x (inr back) budget good = by_line c w (toward_reader back.0) event back.1
      (toward_reader-event c x.stage w back.0 x.at x.awaits back.2 budget good event)

  arrives : (c : Counts) (w : World M) (event : Event) → Good machine start c w
      → Good machine start (counted c event (arrival w.line event)) (after_arrival machine w (arrival w.line event))
  arrives c w event (at_rest r repaired) = by_line c w quiet event r.line (at_rest r repaired)
  arrives c w event (given_up g repaired failed) = by_line c w quiet event g.line (given_up g repaired failed)
  arrives c w event (exchange x budget) = exchange-event c w event x x.way budget (exchange x budget)
  arrives c w event (requesting_now r often) = ⊎_elim
      (λ (there : w.line ≡ toward_card resynch_request). by_line c w (toward_card resynch_request) event
      there (request-event c often w r event)) (λ (back : ((w.line ≡ toward_reader resynch_response) × (w.card ≡ fresh))
      ⊎ ((b : Block) × (w.line ≡ toward_reader b) × (heard (frame b) ≢ Ok resynch_response))). ⊎_elim
      (λ (set_back : (w.line ≡ toward_reader resynch_response) × (w.card ≡ fresh)).
      by_line c w (toward_reader resynch_response) event set_back.0 (reply-event c often w resynch_response
      r (responded (passed c) often w r set_back.1) event)) (λ (other : (b : Block) × (w.line ≡ toward_reader b)
      × (heard (frame b) ≢ Ok resynch_response)). by_line c w (toward_reader other.0) event other.1
      (reply-event c often w other.0 r (hears_else (passed c) often w (frame other.0) r other.2) event))
      back)
      r.way

  -- a command is given
  given : (c : Counts) (w : World M) (command : List ℕ) → may_send w.reader command ≡ true
      → Good machine start c w → Good machine start no_counts (giving w command)
  given c w command may (at_rest r repaired) =
      let ready : World M =
      record w { reader = record w.reader { answer = []; phase = Busy }; sent = command ∷ w.sent; offered = [] } in
      let sound = (and_parts (not (is_busy w.reader.phase)) (is_command command) may).1 in
      let some : 1 ≤ length command = (command_size command sound).0 in
      let less : command_blocks command ≡ 1 + command_blocks (drop 254 command) = one_block_fewer command some in
      subst (λ (t : Turned). Good machine start no_counts (turning (record w { sent = command ∷ w.sent; offered = [] })
      t)) (sym (reader_sends-idle w.reader command r.phase)) (advances no_counts ready command command sound
      (record { earlier = w.sent; sent = refl; kept = r.kept }) refl r.resynchs tt refl r.number r.answered refl
      r.unsent r.size (ap (λ (xs : List ℕ). xs ++ command) r.held)
      (none_yet refl refl (omega (arith, less))))
  given c w command may (exchange x budget) = absurd (busy_refuses w.reader command x.awaits.phase may)
  given c w command may (requesting_now r often) = absurd (busy_refuses w.reader command r.phase may)
  given c w command may (given_up g repaired failed) =
      subst (λ (t : Turned). Good machine start no_counts (turning (record w { sent = command ∷ w.sent; offered = [] })
      t)) (sym (reader_sends-dead w.reader command g.phase)) (given_up (record {
        phase = g.phase;
        line = refl;
        kept = inr (inr refl, g.kept);
        only = tt;
        most = omega arith;
        fits = inr refl;
      }) (λ few none. absurd (failed none)) (λ none. none))

  given_so : (c : Counts) (may : Bool) (w : World M) (command : List ℕ) → may_send w.reader command ≡ may
      → Good machine start c w → Good machine start (if may then no_counts else c) (if may then giving w command else w)
  given_so c true w command e good = given c w command e good
  given_so c false w command e good = good

  pub good-step : (v : Watched M) (event : Event) → Good machine start v.counts v.world
      → Good machine start (counts_after v event) (world_step machine v.world event)
  unfolding world_step
  good-step v (send command) good = given_so v.counts (may_send v.world.reader command) v.world command refl good
  good-step v pass good = arrives v.counts v.world pass good
  good-step v lose good = arrives v.counts v.world lose good
  good-step v (garble bytes) good = arrives v.counts v.world (garble bytes) good

  pub good-watch : (events : List Event) (v : Watched M) → Good machine start v.counts v.world
      → Good machine start (watch machine v events).counts (watch machine v events).world
  unfolding watch
  good-watch [] v good = good
  good-watch (event ∷ events) v good = good-watch events
      (record { world = world_step machine v.world event; counts = counts_after v event }) (good-step v event good)

  pub good-powered : Good machine start no_counts (powered start)
  good-powered = at_rest (record {
    phase = refl;
    resynchs = refl;
    number = refl;
    answered = refl;
    held = refl;
    unsent = refl;
    size = refl;
    line = refl;
    kept = (refl, refl);
    only = tt;
    most = omega arith;
    fits = tt;
  }) tt
