-- An attempt, by the kinds of its exits: a charge that stopped; no try that is left; a comparison that stopped, or what
-- became of the PIN; and what was shown wrong, or right.
use Rattle.std.proofs.Common.{◌≡◌, ◌≢◌, ◌⊎◌, ◌<◌, ◌≤◌, ◌+◌, ◌-◌, ◌==◌, ◌&&◌, not, ℕ, Bool, true, false, List, [], ◌∷◌}
use Rattle.std.proofs.Common.{length, Contains}
use Rattle.std.proofs.Common.{slice_index, slice_set, Option, Some, None, Ok, Err, if◌then◌else◌, refl, sym, ◌∙◌, ap}
use Rattle.std.proofs.Common.{subst, arith, inl, inr}
use Rattle.std.proofs.lemmas.Bool.{eq-eqb, false_from_ne_true}
use Rattle.std.proofs.Math.ListN.{length-set}
use Rattle.std.specs.Cmp.Lexicographic.{bytes_decides, pointwise}
use Rattle.std.specs.Prelude.{nat_eq, take, IfOk, IsSome, Result}
use Rattle.std.specs.Result.{result_err, IsErrAnd}
use Rattle.std.specs.FinSet.{FinSet}
use Rattle.std.specs.Ordering.{nat_cmp}
use Rattle.nvm_board.specs.Facts.{IsMemory}
use Rattle.nvm_board.specs.History.{Log, Run, and_runs, replayed, written}
use Rattle.nvm_board.specs.laws.Sizes.{memory_same}
use Rattle.nvm_board.specs.Facts.{raised}
use Rattle.card_model.specs.declared.status.Sw.{Sw}
use Rattle.card_model.specs.declared.status.TheConstants.Sw.{DONE, METHOD_BLOCKED}
use Rattle.card_model.specs.Pins.{IsPinNumber, with_pin, without_pin}
use Rattle.undo_journal.specs.declared.error.StoreErr.{StoreErr}
use Rattle.undo_journal.specs.StoreCalls.{OnlyReads, Reads}
use Rattle.undo_journal.specs.Commits.{CommitsByGate, CommitsLast, StaysCommitted, StaysShut, TurnsTo}
use Rattle.undo_journal.specs.Undo.{data_words, gate, undo}
use Rattle.undo_journal.specs.laws.Undo.{sound_shut}
use Rattle.undo_journal.specs.laws.Calls.{advances_by, advances_then}
use Rattle.undo_journal.specs.laws.LastWrites.{committed_same}
use Rattle.undo_journal.specs.Memory.{Memory, committed, IsReady, Reports}
use Rattle.undo_journal.specs.Spending.{WritesAtMost}
use Rattle.undo_journal.specs.laws.Memory.{reports_then}
use Rattle.file_tree.specs.declared.entry.Entry.{Entry}
use Rattle.card_model.specs.declared.requests.RequirementChange.{RequirementChange}
use Rattle.card_model.specs.Requests.{Request, change_reference_data, change_requirement, reset_retry_counter, verify}
use Rattle.pin_store.specs.declared.errors.Outcome.{Outcome as AttemptEnd}
use Rattle.pin_store.specs.declared.errors.Outcome.TheVariants.{Matched, Wrong}
use Rattle.pin_store.specs.Pages.{pin_at, ArePinPages, IsApart, IsMark, SetsPin}
use Rattle.card_model.specs.Secrets.{charged_pin, kept, owner, tries_left, Pin}
use Rattle.pin_store.specs.Trials.{pin_in, Charges, ComparesOnce, EndsByOutcome, IsWrong, KeepsPinLaw, SetsByMatch}
use Rattle.pin_store.specs.laws.Tries.{charge_keeps_law, charged_left, end_keeps_law, IsEnd}
use Rattle.file_tree.specs.laws.Indexed.{places_same}
use Rattle.command_base.specs.declared.current.Current.{Current}
use Rattle.card_model.specs.Cards.{Card}
use Rattle.card_model.specs.Steps.{attempt_of, commits_alone, commits_gated, IsDoing, commits, commits_unless, effect}
use Rattle.card_model.specs.Steps.{commits_served, last_of, refusals_of, served}
use Rattle.command_base.specs.Comparing.{comparisons, ChargesFirst, ComparesBy, ComparesCharged, ComparesShown}
use Rattle.command_base.specs.Comparing.{CostsATry}
use Rattle.command_base.specs.Counting.{CountsAttempt, CountsServed, CountsShown}
use Rattle.card_model.specs.Behaviours.{Refusal, first_applying, no_refusals, refused, refused_by, outcome, Attempt}
use Rattle.card_model.specs.Behaviours.{attempt_commits, charged_card, is_right, pin_of, settled_card, tries_of}
use Rattle.card_model.specs.Behaviours.{tries_commits, value_commits, unblocking_of, value_of, with_pin_of}
use Rattle.card_model.specs.PinCommands.{attempt_refusals, attempted, attempted_as, changing, marking, resetting}
use Rattle.card_model.specs.PinCommands.{told_tries, tries_status, unverified, verifying}
use Rattle.command_base.specs.CommitWords.{StandsByWord, StandsServed, TurnsServed, early_writes}
use Rattle.command_base.specs.Finding.{Finds}
use Rattle.command_base.specs.Served.{Executes}
use Rattle.card_model.specs.Sessions.{Session, marked}
use Rattle.command_base.specs.CommandWrites.{most_writes}
use Rattle.command_base.specs.Standing.{card_of, IsCard}
use Rattle.command_base.specs.Working.{card_in, session_in, session_of, table_in, IsCurrent}
use Rattle.command_base.specs.CurrentFiles.{tried_from}
use Rattle.pin_commands.specs.PinParts.{end_of_attempt}
use Rattle.pin_commands.proofs.Comparisons.{costs-told}
use Rattle.card_model.specs.laws.Guarding.{served-done, served-refused}
use Rattle.pin_commands.proofs.PinCards.{pin-is, pin-set, pin-stands, pin-table}
use Rattle.command_base.specs.laws.Executes.{compared-none, counts-none, declined, stopped, torn}
use Rattle.command_base.specs.laws.Executes as exits
use Rattle.command_base.specs.laws.Stopping.{err-is}
use Rattle.command_base.specs.declared.stop.Stop.{Stop}
use Rattle.command_base.specs.declared.stop.Stop.TheVariants.{Refused, Failed}
use Rattle.command_base.specs.Stops.{failure_of, reply, IfRefused}
use Rattle.command_base.specs.laws.Words.{Went, stands-alone, stands-gated, went-reads}
use Rattle.command_base.specs.laws.Verified.{marked-with, marked-without}

-- what the end of an attempt leaves of the gate: where a new value is set it alone commits, else it stays shut
abbrev pub EndsByWord : Bool → Memory → Memory → Type 0
EndsByWord true b e = CommitsByGate b e
EndsByWord false b e = StaysShut b e

-- once the gate has turned, the PIN of secret k is set after a match
abbrev Settles : Attempt → ℕ → Memory → Memory → Type 0
Settles a k b e =
    a.renews ≡ true → TurnsTo (λ after. SetsByMatch k a.shown (a.becomes (pin_in b k)) b e) b e

-- a request that shows a secret of a PIN, and what comes of it
pub record IsAttempt (request : Request) (a : Attempt) : Type 0 where
  pub refuses : (c : Card) (s : Session) → refusals_of c s request ≡ attempt_refusals c a
  pub does : (c : Card) (s : Session) → effect c s request ≡ attempted c s a
  pub passes : (c : Card) (s : Session) → commits c s request ≡ attempt_commits c a
  pub shows : attempt_of request ≡ Some a
  pub number : IsPinNumber a.pin
  pub owned : owner a.secret ≡ a.pin - 1
  pub early : early_writes request ≡ 1
  pub alone : a.renews ≡ false → most_writes request ≡ 2

-- what refuses an attempt, by its PIN: no try is left, or it is enabled, or disabled
abbrev pub refused_at : Attempt → Pin → Option Sw
refused_at a pin =
    first_applying (record { applies = tries_left a.secret pin == 0; status = METHOD_BLOCKED } ∷ a.unusable pin)

-- the same by what refuses it, under whichever name
abbrev refused_with : (Pin → List Refusal) → ℕ → Pin → Option Sw
refused_with unusable secret pin =
    first_applying (record { applies = tries_left secret pin == 0; status = METHOD_BLOCKED } ∷ unusable pin)

pub kept-by : (secret : ℕ) (one other : Pin → List Refusal) → one ≡ other → (was : Pin) (old b : Memory)
    → (IsSome (refused_with one secret was) → OnlyReads old b)
    → IsSome (refused_with other secret was) → OnlyReads old b
kept-by secret one other is was old b kept =
    subst (λ (unusable : Pin → List Refusal). IsSome (refused_with unusable secret was) → OnlyReads old b) is kept

pub taken-by : (secret : ℕ) (one other : Pin → List Refusal) → one ≡ other → (was : Pin) (old b : Memory) (k : ℕ)
    → (k ≡ secret) × Charges secret old b × (refused_with one secret was ≡ None)
    → (k ≡ secret) × Charges secret old b × (refused_with other secret was ≡ None)
taken-by secret one other is was old b k taken =
    subst (λ (unusable : Pin → List Refusal). (k ≡ secret) × Charges secret old b
    × (refused_with unusable secret was ≡ None)) is taken

pub refused-by : (secret : ℕ) (one other : Pin → List Refusal) → one ≡ other → (was : Pin) (b : Memory) (stop : Stop)
    → IfRefused stop (λ refusal. (refused_with one secret was ≡ Some refusal) × IsReady b)
    → IfRefused stop (λ refusal. (refused_with other secret was ≡ Some refusal) × IsReady b)
refused-by secret one other is was b stop said =
    subst (λ (unusable : Pin → List Refusal). IfRefused stop
    (λ refusal. (refused_with unusable secret was ≡ Some refusal)
    × IsReady b)) is said

-- whether what is shown is right
right-is : (xs ys : List ℕ) → xs ≡ ys → pointwise nat_eq xs ys ≡ true
right-is xs ys same = (bytes_decides xs ys).1 same

wrong-is : (xs ys : List ℕ) → ¬ (xs ≡ ys) → pointwise nat_eq xs ys ≡ false
wrong-is xs ys other = false_from_ne_true (pointwise nat_eq xs ys) (λ is. other ((bytes_decides xs ys).0 is))

module _ (request : Request) (a : Attempt) (asks : IsAttempt request a) (old : Memory) (x : Current)
    (sized : IsMemory (committed old)) (card : IsCard (committed old)) (current : IsCurrent (table_in old) x) where
  abbrev c : Card
  c = card_in old

  abbrev s : Session
  s = session_in old x

  abbrev k : ℕ
  k = a.pin - 1

  abbrev was : Pin
  was = pin_in old a.secret

  pin-in : (m : Memory) → IsCard (committed m) → pin_in m a.secret ≡ pin_of (card_in m) a.pin
  pin-in m is = ap (pin_at (committed m)) asks.owned ∙ sym (pin-is (committed m) a.pin is asks.number)

  refusal-is : refused_by (refusals_of c s request) ≡ refused_at a was
  refusal-is = ap refused_by (asks.refuses c s) ∙ ap (refused_at a) (sym (pin-in old card))

  none-refused : tries_left a.secret was ≡ 0 → refused_at a was ≡ Some METHOD_BLOCKED
  none-refused none =
      ap (λ (t : Bool). if t then Some METHOD_BLOCKED else first_applying (a.unusable was))
      (eq-eqb (tries_left a.secret was) 0 none)

  some-refused : tries_left a.secret was ≡ 0 → IsSome (refused_at a was)
  some-refused none = subst (λ (o : Option Sw). IsSome o) (sym (none-refused none)) refl

  unrefused : refused_at a was ≡ None → refused_by (refusals_of c s request) ≡ None
  unrefused free = refusal-is ∙ free

  -- where it is refused, there is nothing to count
  counts-refused : (new : Memory) (status : Sw) → refused_at a was ≡ Some status
      → CountsServed c s request old.facts new.facts
  counts-refused new status is free = let never : Some status ≡ None = sym (refusal-is ∙ is) ∙ free in cc

  -- it is refused
  pub exit-refused : (new : Memory) (status : Sw) → refused_at a was ≡ Some status → OnlyReads old new → IsReady new
      → Executes request old x new x [] (Ok status)
  exit-refused new status is reads ready =
      declined request old x new (counts-refused new status is) card status reads ready current
      (served-refused c s request status (refusal-is ∙ is))

  -- a PIN that is set, by its number
  set-by : (m n : Memory) (now : Pin → Pin) → IsCard (committed m)
      → SetsPin (committed m) (owner a.secret) (now (pin_in m a.secret)) (committed n)
      → SetsPin (committed m) k (now (pin_of (card_in m) a.pin)) (committed n)
  set-by m n now is sets =
      subst (λ (j : ℕ). SetsPin (committed m) j (now (pin_of (card_in m) a.pin)) (committed n)) asks.owned
      (subst (λ (p : Pin). SetsPin (committed m) (owner a.secret) (now p) (committed n)) (pin-in m is) sets)

  -- What the PIN law tells of the card: at any exit.
  module _ (new : Memory) (size : length (committed new) ≡ length (committed old)) (pages : ArePinPages (committed new))
      (law : KeepsPinLaw a.secret a.shown old new) where
    sets-any : SetsPin (committed old) k (pin_at (committed new) k) (committed new)
    sets-any = record {
      size = size;
      elsewhere = subst (λ (j : ℕ). (w : ℕ) → IsApart j w
          → slice_index (committed new) w ≡ slice_index (committed old) w) asks.owned law.elsewhere;
      becomes = refl;
      mark = subst (λ (j : ℕ). IsMark (committed old) j → IsMark (committed new) j) asks.owned law.mark;
    }

    card-any : card_in new ≡ with_pin_of c a.pin (pin_at (committed new) k)
    card-any = pin-set (committed old) (committed new) sized card a.pin asks.number _ sets-any

    pub exit-card : IsCard (committed new)
    exit-card = pin-stands (committed old) (committed new) sized card a.pin asks.number _ sets-any pages

    pub exit-table : table_in new ≡ table_in old
    exit-table = pin-table (committed old) (committed new) sized card a.pin asks.number _ sets-any

    exit-compares : (tries_left a.secret was ≡ 0
        → (committed new ≡ committed old) × (comparisons new.facts ≡ comparisons old.facts))
        → ComparesCharged a c old.facts new.facts → ComparesBy request c old.facts (card_in new) new.facts
    exit-compares blocked charged =
        subst (λ (o : Option Attempt). ComparesShown o c old.facts (card_in new) new.facts) (sym asks.shows) (
          record {
            costs = subst (λ (p : Pin). CostsATry a.secret a.shown p (pin_of (card_in new) a.pin)
                (comparisons old.facts) (comparisons new.facts)) (pin-in old card)
                (subst (λ (p : Pin). CostsATry a.secret a.shown was p (comparisons old.facts) (comparisons new.facts))
                (pin-in new exit-card) (costs-told a.secret a.shown old new law (λ none.
                (ap (λ (l : List ℕ). pin_at l (owner a.secret)) (blocked none).0, (blocked none).1))));
            others = ap (λ (d : Card). d.pins) card-any
                ∙ ap (slice_set c.pins k) (sym (pin-is (committed new) a.pin exit-card asks.number));
          },
          charged,
        )

  -- the cards that the request passes
  passed : (d : Card) → Contains (c ∷ attempt_commits c a) d → Contains (c ∷ commits c s request) d
  passed d among = subst (λ (cards : List Card). Contains (c ∷ cards) d) (sym (asks.passes c s)) among

  lasting : commits c s request ≢ []
  lasting none =
      let long : length (attempt_commits c a) ≡ 0 = ap length (sym (asks.passes c s) ∙ none) in
      let z : ⊥ = omega (arith, long) in z

  doing : (d : Card) → refused_at a was ≡ None → Contains (c ∷ attempt_commits c a) d → IsDoing c s request d
  doing d free among = record { unrefused = unrefused free; lasts = lasting; card = passed d among }

  -- the charge
  charged-card : (b : Memory) → Charges a.secret old b → card_in b ≡ charged_card c a
  charged-card b charges =
      pin-set (committed old) (committed b) sized card a.pin asks.number _
      (set-by old b (charged_pin a.secret) card charges.charged)

  charged-size : (b : Memory) → (committed b ≡ committed old) ⊎ Charges a.secret old b
      → length (committed b) ≡ length (committed old)
  charged-size b (inl same) = ap length same
  charged-size b (inr charges) = charges.charged.size

  charged-stage : (b : Memory) → (committed b ≡ committed old) ⊎ Charges a.secret old b
      → Contains (c ∷ attempt_commits c a) (card_in b)
  charged-stage b (inl same) = (0, omega arith, sym (ap card_of same))
  charged-stage b (inr charges) = (1, omega arith, sym (charged-card b charges))

  -- the write of a charge, whatever follows it
  module _ (b : Memory) (charges : Charges a.secret old b) (card-b : IsCard (committed b)) (ready : IsReady b)
      (reports : Reports old b) (costs : WritesAtMost 1 old.facts b.facts)
      (made : b.facts.writes ≡ old.facts.writes + 1) where
    -- the charge changes the card that is found
    changed : ¬ (committed b ≡ committed old)
    changed same =
        let stays : pin_in b a.secret ≡ was = ap (λ (l : List ℕ). pin_at l (owner a.secret)) same in
        let fewer : tries_left a.secret was ≡ tries_left a.secret was - 1 =
        ap (tries_left a.secret) (sym stays ∙ charges.charged.becomes) ∙ charged_left a.secret was in
        let some = charges.left in absurd (omega (arith, fewer, some))

    -- so it made a write, and no more than one
    one-run : (runs : List Run) → b.facts.words ≡ replayed old.facts.words runs → length runs ≤ 1
        → (run : Run) × (runs ≡ run ∷ [])
    one-run [] words few = absurd (changed (ap (λ (m : List ℕ). data_words (undo m)) words))
    one-run (run ∷ []) words few = (run, refl)
    one-run (run ∷ more ∷ runs) words few = absurd (omega (arith, few))

    few-runs : length costs.cut.wrote.runs ≤ 1
    few-runs =
        let light = (reports.works ready.usable.works).1 in
        let counted = costs.cut.wrote.counted in
        omega (arith, counted, made, light.faults, light.cuts)

    -- the charged card is found wherever the words are committed that the charge left
    charged-found : (m : List ℕ) → StaysCommitted b.facts.words m → Finds m (charged_card c a)
    charged-found m stays = record {
      has_card = record {
        journal = stays.sound (sound_shut b.facts.words ready.shut);
        words = inl (subst (λ (l : List ℕ). IsCard l) (sym stays.words) card-b);
      };
      card = ap card_of stays.words ∙ charged-card b charges;
    }

    -- what is written after it stands behind it, and only the last write may find another card
    pub charge-first : (e : Memory) → CommitsLast b.facts e.facts → ChargesFirst a c old.facts e.facts
    charge-first e after =
        let one = one-run costs.cut.wrote.runs costs.cut.wrote.words few-runs in
        let words : b.facts.words ≡ written old.facts.words one.0.at one.0.words =
        costs.cut.wrote.words ∙ ap (λ (runs : List Run). replayed old.facts.words runs) one.1 in
        record {
          left = subst (λ (p : Pin). 0 < tries_left a.secret p) (pin-in old card) charges.left;
          wrote = record {
            runs = one.0 ∷ after.wrote.runs;
            words = after.wrote.words ∙ ap (λ (m : List ℕ). replayed m after.wrote.runs) words;
            log = after.wrote.log ∙ ap (λ (l : Option Log). and_runs l after.wrote.runs)
                (costs.cut.wrote.log ∙ ap (λ (runs : List Run). and_runs old.facts.log runs) one.1);
            counted =
                let size = ap (λ (runs : List Run). length runs) one.1 in
                let before = costs.cut.wrote.counted in
                let behind = after.wrote.counted in
                omega (arith, size, before, behind);
          };
          charge = one.0;
          rest = after.wrote.runs;
          begins = refl;
          charged = subst (λ (m : List ℕ). Finds m (charged_card c a)) words
              (charged-found b.facts.words (committed_same b.facts.words));
          between = λ k lt. subst (λ (m : List ℕ). Finds (replayed m (take k after.wrote.runs)) (charged_card c a))
              words (charged-found (replayed b.facts.words (take k after.wrote.runs)) (after.before k lt));
        }

  -- it is refused, or it isn't
  either : {R : Type 0} → (IsSome (refused_at a was) → R) → (refused_at a was ≡ None → R) → R
  either {R} refused free = by (refused_at a was) refused free
    where
      by : (o : Option Sw) → (IsSome o → R) → (o ≡ None → R) → R
      by None refused free = free refl
      by (Some status) refused free = refused refl

  -- where it is refused, only reads were made
  idle : {R : Type 0} (new : Memory) → (IsSome (refused_at a was) → OnlyReads old new) → (refused_at a was ≡ None → R)
      → OnlyReads old new ⊎ R
  idle new kept free = either (λ refused. inl (kept refused)) (λ none. inr (free none))

  reads-told : (new : Memory) → OnlyReads old new
      → (committed new ≡ committed old) × (comparisons new.facts ≡ comparisons old.facts)
  reads-told new reads = (
    reads.keeps.committed_words,
    λ i. record { compares = reads.board.compares i; matches = reads.board.matches i },
  )

  -- which card stands by the word, where the attempt isn't refused
  stood : (m : List ℕ) → refused_at a was ≡ None → StandsByWord c (tries_commits c a) (value_commits c a) m
      → StandsServed c s request m
  stood m free stands =
      subst (λ (verdict : Option Sw). StandsByWord c (commits_unless verdict (commits_alone c (attempt_of request)))
      (commits_unless verdict (commits_gated c (attempt_of request) (commits c s request))) m) (sym (unrefused free))
      (subst (λ (o : Option Attempt). StandsByWord c (commits_alone c o) (commits_gated c o (commits c s request)) m)
      (sym asks.shows) stands)

  -- after the charge, or before it
  went-charge : (b : Memory) → (committed b ≡ committed old) ⊎ Charges a.secret old b
      → (IsSome (refused_at a was) → OnlyReads old b) → WritesAtMost 1 old.facts b.facts → StaysShut old b
      → Went request old x b
  went-charge b exit kept spends stays =
      either (λ refused. went-reads request old x b (kept refused))
      (λ free. (
        advances_by 1 old.facts b.facts spends,
        λ shut. stood b.facts.words free
            (stands-alone c (tries_commits c a) (value_commits c a) b.facts.words (stays shut) (among-tries exit)),
        λ shut more. absurd (omega (arith, spends.writes, more)),
      ))
    where
      among-tries : (committed b ≡ committed old) ⊎ Charges a.secret old b
          → Contains (c ∷ tries_commits c a) (card_in b)
      among-tries (inl same) = (0, omega arith, sym (ap card_of same))
      among-tries (inr charges) = (1, omega arith, sym (charged-card b charges))

  -- the charge stopped
  pub exit-charge : (b : Memory) (e : StoreErr) → (committed b ≡ committed old) ⊎ Charges a.secret old b
      → (IsSome (refused_at a was) → OnlyReads old b) → ArePinPages (committed b) → Reports old b → b.failed ≡ Some e
      → WritesAtMost 1 old.facts b.facts → StaysShut old b → b.facts.writes ≤ old.facts.writes + most_writes request
      → Executes request old x b x [] (Err e)
  exit-charge b e exit kept pages reports failed spends stays writes =
      let law = charge_keeps_law a.secret a.shown old b exit spends in
      let size = charged-size b exit in
      torn request old x b x [] e
      (idle b kept (λ free. doing (card_in b) free (charged-stage b exit)))
      (exit-card b size pages law) reports failed (omega arith) writes
      (went-charge b exit kept spends stays)
      (exit-compares b size pages law (λ none. reads-told b (kept (some-refused none)))
      (inl (compared-none 1 old.facts b.facts spends)))

  -- after the charge
  module _ (free : refused_at a was ≡ None) (b : Memory) (charges : Charges a.secret old b)
      (card-b : IsCard (committed b)) where
    size-b : IsMemory (committed b)
    size-b = memory_same _ _ charges.charged.size sized

    never : {R : Type 0} → tries_left a.secret was ≡ 0 → R
    never none = let some = charges.left in absurd (omega (arith, some, none))

    -- the PIN is set
    settled-is : (e : Memory) → SetsPin (committed b) (owner a.secret) (a.becomes (pin_in b a.secret)) (committed e)
        → card_in e ≡ settled_card c a
    settled-is e sets =
        pin-set (committed b) (committed e) size-b card-b a.pin asks.number _ (set-by b e a.becomes card-b sets)
        ∙ ap (λ (d : Card). with_pin_of d a.pin (a.becomes (pin_of d a.pin))) (charged-card b charges)

    -- the secret that is kept stays
    kept-stays : kept a.secret (pin_in b a.secret) ≡ kept a.secret (pin_of c a.pin)
    kept-stays = ap (kept a.secret) (charges.charged.becomes ∙ ap (charged_pin a.secret) (pin-in old card))

    right : kept a.secret (pin_in b a.secret) ≡ a.shown → is_right c a ≡ true
    right is = right-is (kept a.secret (pin_of c a.pin)) a.shown (sym kept-stays ∙ is)

    wrong : ¬ (kept a.secret (pin_in b a.secret) ≡ a.shown) → is_right c a ≡ false
    wrong other = wrong-is (kept a.secret (pin_of c a.pin)) a.shown (λ is. other (kept-stays ∙ is))

    -- the cards that it passes
    settled-stage : (e : Memory) → SetsByMatch a.secret a.shown (a.becomes (pin_in b a.secret)) b e
        → Contains (c ∷ attempt_commits c a) (card_in e)
    settled-stage e set = subst
        (λ (t : Bool). Contains (c ∷ charged_card c a ∷ (if t then settled_card c a ∷ [] else [])) (card_in e))
        (sym (right set.match_counted.right)) (2, omega arith, sym (settled-is e set.sets))

    ended-stage : (e : Memory)
        → (committed e ≡ committed b) ⊎ SetsByMatch a.secret a.shown (a.becomes (pin_in b a.secret)) b e
        → Contains (c ∷ attempt_commits c a) (card_in e)
    ended-stage e (inl same) = (1, omega arith, sym (ap card_of same ∙ charged-card b charges))
    ended-stage e (inr set) = settled-stage e set

    ended-size : (e : Memory)
        → (committed e ≡ committed b) ⊎ SetsByMatch a.secret a.shown (a.becomes (pin_in b a.secret)) b e
        → length (committed e) ≡ length (committed old)
    ended-size e (inl same) = ap length same ∙ charges.charged.size
    ended-size e (inr set) = set.sets.size ∙ charges.charged.size

    -- an end, whatever it was
    module _ (e : Memory) (n : ℕ) (ends : IsEnd a.secret (pin_in b a.secret) (a.becomes (pin_in b a.secret)))
        (costs : WritesAtMost 1 old.facts b.facts) (spends : ComparesOnce n a.secret a.shown b e)
        (pages : ArePinPages (committed e)) (reports : Reports old e) (stays : StaysShut old b)
        (word : EndsByWord a.renews b e) (settles : Settles a a.secret b e)
        (writes : e.facts.writes ≤ old.facts.writes + most_writes request)
        (exit : (committed e ≡ committed b) ⊎ SetsByMatch a.secret a.shown (a.becomes (pin_in b a.secret)) b e)
        (first : ChargesFirst a c old.facts e.facts) where
      law-end : KeepsPinLaw a.secret a.shown old e
      law-end = end_keeps_law n a.secret a.shown _ old b e ends charges costs exit spends

      stage-end : OnlyReads old e ⊎ IsDoing c s request (card_in e)
      stage-end = inr (doing (card_in e) free (ended-stage e exit))

      -- which card stands by the word
      stand : (renews right : Bool) → EndsByWord renews b e → gate old.facts.words ≡ 0
          → Contains (c ∷ charged_card c a ∷ (if right then settled_card c a ∷ [] else [])) (card_in e)
          → StandsByWord c (charged_card c a ∷ (if right && not renews then settled_card c a ∷ [] else []))
          (if right && renews then settled_card c a ∷ [] else []) e.facts.words
      stand false true shuts shut card = stands-alone c _ _ e.facts.words (shuts (stays shut)) card
      stand false false shuts shut card = stands-alone c _ _ e.facts.words (shuts (stays shut)) card
      stand true true exits shut card =
          stands-gated c (charged_card c a ∷ []) (settled_card c a ∷ []) (committed b) e card-b
          (charged-card b charges) exits card
      stand true false exits shut card =
          stands-gated c (charged_card c a ∷ []) [] (committed b) e card-b (charged-card b charges) exits
          card

      -- once the gate has turned, the secret was the right one, and the PIN is set
      settled-last : SetsByMatch a.secret a.shown (a.becomes (pin_in b a.secret)) b e
          → card_in e ≡ last_of c (commits_served c s request)
      settled-last set =
          let unrefused_is = unrefused free in
          let passed_is = asks.passes c s
          ∙ ap (λ (t : Bool). charged_card c a ∷ (if t then settled_card c a ∷ [] else []))
          (right set.match_counted.right) in
          settled-is e set.sets ∙ sym (λ i. last_of c (commits_unless (unrefused_is i) (passed_is i)))

      turns-end : TurnsServed c s request old.facts e.facts
      turns-end = by a.renews refl
        where
          by : (renews : Bool) → a.renews ≡ renews → TurnsServed c s request old.facts e.facts
          by true is = λ shut more. settled-last (settles is shut (omega (arith, asks.early, costs.writes, more)))
          by false is = λ shut more. absurd (omega (arith, asks.early, asks.alone is, writes, more))

      went-end : Went request old x e
      went-end = (
        advances_then old.facts b.facts e.facts (advances_by 1 old.facts b.facts costs)
            (record { more = spends.more; cut = spends.cut }),
        λ shut. stood e.facts.words free
            (stand a.renews (is_right c a) word shut (ended-stage e exit)),
        turns-end,
      )

      compares-end : ComparesBy request c old.facts (card_in e) e.facts
      compares-end = exit-compares e (ended-size e exit) pages law-end never (inr first)

      -- the end stopped
      pub exit-end : (err : StoreErr) → e.failed ≡ Some err → Executes request old x e x [] (Err err)
      exit-end err failed = torn request old x e x [] err stage-end (exit-card e (ended-size e exit) pages law-end)
          reports failed (omega arith) writes went-end compares-end

      abbrev y : AttemptEnd → Current
      y end = tried_from x a.pin a.unverifies end

      current-end : (end : AttemptEnd) → IsCurrent (table_in e) (y end)
      current-end end = subst (λ (t : List Entry). IsCurrent t (y end))
          (sym (exit-table e (ended-size e exit) pages law-end)) (tried-current a.unverifies end)
        where
          tried-current : (unverifies : Bool) (end : AttemptEnd)
              → IsCurrent (table_in old) (tried_from x a.pin unverifies end)
          tried-current unverifies Matched = record {
            df = current.df;
            ef = current.ef;
            marks = length-set x.verified (a.pin - 1) true ∙ current.marks;
          }
          tried-current true (Wrong left) = record {
            df = current.df;
            ef = current.ef;
            marks = length-set x.verified (a.pin - 1) false ∙ current.marks;
          }
          tried-current false (Wrong left) = current

      -- the step
      step-by : (t : Bool) → is_right c a ≡ t → served c s request ≡ attempted_as c s a t
      step-by t is = served-done c s request (unrefused free) ∙ asks.does c s ∙ ap (attempted_as c s a) is

      session-set : (set : FinSet nat_cmp) (marks : List Bool) → marked marks ≡ set
          → record s { verified = set } ≡ session_in e (record x { verified = marks })
      session-set set marks is =
          let t = sym (exit-table e (ended-size e exit) pages law-end) in
          ap (λ (v : FinSet nat_cmp). record s { verified = v }) (sym is)
          ∙ ap (λ (t : List Entry). session_of t (record x { verified = marks })) t

      step-matched : SetsByMatch a.secret a.shown (a.becomes (pin_in b a.secret)) b e
          → served c s request ≡ outcome (card_in e) (session_in e (y Matched)) [] DONE
      step-matched set =
          let session =
          session-set _ (with_pin x.verified a.pin) (marked-with x.verified a.pin current.marks asks.number) in
          let card-is = sym (settled-is e set.sets) in
          step-by true (right set.match_counted.right)
          ∙ (λ i. outcome (card-is i) (session i) [] DONE)

      step-wrong : (left : ℕ) → IsWrong a.secret a.shown left b e
          → served c s request ≡ outcome (card_in e) (session_in e (y (Wrong left))) [] (tries_status left)
      step-wrong left is =
          let card-is = sym (ap card_of is.same ∙ charged-card b charges) in
          let told = ap (λ (d : Card). tries_of d a.pin a.secret) (sym (charged-card b charges))
          ∙ sym (ap (tries_left a.secret) (pin-in b card-b)) ∙ sym is.left in
          let session = session-wrong a.unverifies in
          step-by false (wrong is.wrong)
          ∙ (λ i. outcome (card-is i) (session i) [] (tries_status (told i)))
        where
          session-wrong : (unverifies : Bool)
              → unverified s a unverifies ≡ session_in e (tried_from x a.pin unverifies (Wrong left))
          session-wrong true =
              session-set _ (without_pin x.verified a.pin) (marked-without x.verified a.pin current.marks asks.number)
          session-wrong false =
              ap (λ (t : List Entry). session_of t x) (sym (exit-table e (ended-size e exit) pages law-end))

      step-end : (end : AttemptEnd) → EndsByOutcome a.secret a.shown (a.becomes (pin_in b a.secret)) b e end
          → served c s request ≡ outcome (card_in e) (session_in e (y end)) [] (end_of_attempt end)
      step-end Matched set = step-matched set
      step-end (Wrong left) is = step-wrong left is

      -- what was counted
      module _ (charge : b.facts.writes ≡ old.facts.writes + 1) where
        charged : old.facts.writes < e.facts.writes
        charged = let more = spends.more in omega (arith, charge, more)

        counts-by : (end : AttemptEnd) → EndsByOutcome a.secret a.shown (a.becomes (pin_in b a.secret)) b e end
            → CountsAttempt (is_right c a) a old.facts e.facts
        counts-by Matched set = record {
          compared = set.match_counted.compared ∙ ap (λ (l : List ℕ). raised l a.secret) costs.compares;
          matched = subst (λ (t : Bool). e.facts.matches
              ≡ (if t then raised old.facts.matches a.secret else old.facts.matches))
              (sym (right set.match_counted.right))
              (set.match_counted.matched ∙ ap (λ (l : List ℕ). raised l a.secret) costs.matches);
          charged = charged;
        }
        counts-by (Wrong left) is = record {
          compared = is.compared ∙ ap (λ (l : List ℕ). raised l a.secret) costs.compares;
          matched = subst (λ (t : Bool). e.facts.matches
              ≡ (if t then raised old.facts.matches a.secret else old.facts.matches))
              (sym (wrong is.wrong)) (is.matched ∙ costs.matches);
          charged = charged;
        }

        counts-end : (end : AttemptEnd) → EndsByOutcome a.secret a.shown (a.becomes (pin_in b a.secret)) b e end
            → CountsServed c s request old.facts e.facts
        counts-end end done =
            λ _. subst (λ (o : Option Attempt). CountsShown o c old.facts e.facts) (sym asks.shows)
            (counts-by end done)

      -- the end was made
      pub exit-done : (end : AttemptEnd)
          → EndsByOutcome a.secret a.shown (a.becomes (pin_in b a.secret)) b e end → IsReady e
          → b.facts.writes ≡ old.facts.writes + 1 → Executes request old x e (y end) [] (Ok (end_of_attempt end))
      exit-done end done ready charge =
          exits.written request old x e (counts-end charge end done) (y end) [] (end_of_attempt end) stage-end
          (exit-card e (ended-size e exit) pages law-end)
          reports ready (current-end end)
          (λ _. places_same _ _ (exit-table e (ended-size e exit) pages law-end)) (omega arith) writes went-end
          compares-end (step-end end done)

-- The exits as the calls tell them: of so many writes after the charge.
module _ (request : Request) (a : Attempt) (asks : IsAttempt request a) (n : ℕ) (most : most_writes request ≡ 1 + n)
    (old : Memory) (x : Current) (ready : IsReady old) (card : IsCard (committed old))
    (current : IsCurrent (table_in old) x) (secret : ℕ) (named : secret ≡ a.secret)
  where
    abbrev sized : IsMemory (committed old)
    sized = ready.usable.committed_size

    -- no try was taken: the attempt is refused, or the charge stopped
    stopped-there : (b : Memory) (r : Result Sw Stop) (stop : Stop) → IsErrAnd r (λ f. f ≡ stop)
        → (committed b ≡ committed old) ⊎ Charges a.secret old b
        → (IsSome (refused_at a (pin_in old a.secret)) → OnlyReads old b) → ArePinPages (committed b) → Reports old b
        → b.failed ≡ failure_of stop → WritesAtMost 1 old.facts b.facts → StaysShut old b
        → IfRefused stop (λ refusal. (refused_at a (pin_in old a.secret) ≡ Some refusal) × IsReady b)
        → Executes request old x b x [] (reply r)
    stopped-there b r stop is exit kept pages reports failed spends stays said =
        subst (λ (result : Result Sw Stop). Executes request old x b x [] (reply result)) (sym (err-is r stop is))
        (by stop failed said)
      where
        by : (stop : Stop) → b.failed ≡ failure_of stop
            → IfRefused stop (λ refusal. (refused_at a (pin_in old a.secret) ≡ Some refusal) × IsReady b)
            → Executes request old x b x [] (reply (Err stop))
        by (Refused status) failed said =
            exit-refused request a asks old x sized card current b status said.0
            (kept (subst (λ (o : Option Sw). IsSome o) (sym said.0) refl)) said.1
        by (Failed e) failed said =
            let once = spends.writes in
            let writes : b.facts.writes ≤ old.facts.writes + most_writes request = omega (arith, once, most) in
            exit-charge request a asks old x sized card current b e exit kept pages reports failed spends stays writes

    -- the same by the secret that the calls name
    pub charge-stopped : (b : Memory) (r : Result Sw Stop) (stop : Stop) → IsErrAnd r (λ f. f ≡ stop)
        → (committed b ≡ committed old) ⊎ Charges secret old b
        → (IsSome (refused_with a.unusable secret (pin_in old secret)) → OnlyReads old b) → ArePinPages (committed b)
        → Reports old b → b.failed ≡ failure_of stop → WritesAtMost 1 old.facts b.facts → StaysShut old b
        → IfRefused stop (λ refusal. (refused_with a.unusable secret (pin_in old secret) ≡ Some refusal) × IsReady b)
        → Executes request old x b x [] (reply r)
    charge-stopped b r stop is exit kept pages reports failed spends stays said =
        stopped-there b r stop is (subst (λ (k : ℕ). (committed b ≡ committed old) ⊎ Charges k old b) named exit)
        (subst (λ (k : ℕ). IsSome (refused_with a.unusable k (pin_in old k)) → OnlyReads old b) named kept)
        pages reports failed spends stays
        (subst (λ (k : ℕ). IfRefused stop (λ refusal. (refused_with a.unusable k (pin_in old k) ≡ Some refusal)
        × IsReady b)) named said)

    -- a try was taken, and then an end came
    module _ (b e : Memory) (k : ℕ)
        (taken : (k ≡ secret) × Charges secret old b × (refused_with a.unusable secret (pin_in old secret) ≡ None))
        (pages-b : ArePinPages (committed b)) (costs : WritesAtMost 1 old.facts b.facts) (reports-b : Reports old b)
        (ready-b : IsReady b) (charge : b.facts.writes ≡ old.facts.writes + 1)
        (ends : (p : Pin) → IsEnd a.secret p (a.becomes p))
        (exit : (committed e ≡ committed b) ⊎ SetsByMatch k a.shown (a.becomes (pin_in b k)) b e)
        (spends : ComparesOnce n k a.shown b e) (pages : ArePinPages (committed e)) (reports : Reports b e)
        (stays : StaysShut old b) (between : CommitsLast b.facts e.facts) (word : EndsByWord a.renews b e)
        (settles : Settles a k b e) where
      got : (k ≡ a.secret) × Charges a.secret old b × (refused_at a (pin_in old a.secret) ≡ None)
      got = subst (λ (s : ℕ). (k ≡ s) × Charges s old b × (refused_with a.unusable s (pin_in old s) ≡ None)) named taken

      card-b : IsCard (committed b)
      card-b = exit-card request a asks old x sized card current b got.1.charged.size pages-b
          (charge_keeps_law a.secret a.shown old b (inr got.1) costs)

      exit-told : (committed e ≡ committed b) ⊎ SetsByMatch a.secret a.shown (a.becomes (pin_in b a.secret)) b e
      exit-told =
          subst (λ (k : ℕ). (committed e ≡ committed b) ⊎ SetsByMatch k a.shown (a.becomes (pin_in b k)) b e) got.0 exit

      spends-told : ComparesOnce n a.secret a.shown b e
      spends-told = subst (λ (k : ℕ). ComparesOnce n k a.shown b e) got.0 spends

      settles-told : Settles a a.secret b e
      settles-told = subst (λ (k : ℕ). Settles a k b e) got.0 settles

      writes : e.facts.writes ≤ old.facts.writes + most_writes request
      writes = let once = costs.writes in let more = spends.writes in omega (arith, once, more, most)

      first : ChargesFirst a (card_in old) old.facts e.facts
      first =
          charge-first request a asks old x sized card current b got.1 card-b ready-b reports-b costs charge e
          between

      pub end-torn : (r : Result Sw StoreErr) (err : StoreErr) → IsErrAnd r (λ f. f ≡ err) → e.failed ≡ Some err
          → Executes request old x e x [] r
      end-torn r err error failed =
          subst (λ (result : Result Sw StoreErr). Executes request old x e x [] result) (sym (err-is r err error))
          (exit-end request a asks old x sized card current got.2 b got.1 card-b e n (ends _) costs spends-told pages
          (reports_then old b e reports-b reports) stays word settles-told writes exit-told first err failed)

      pub end-made : (end : AttemptEnd) → EndsByOutcome k a.shown (a.becomes (pin_in b k)) b e end → IsReady e
          → (y : Current) → y ≡ tried_from x a.pin a.unverifies end → (status : Sw) → status ≡ end_of_attempt end
          → Executes request old x e y [] (Ok status)
      end-made end ended is-ready y at status told =
          let made = exit-done request a asks old x sized card current got.2 b got.1 card-b
          e n (ends _) costs spends-told pages (reports_then old b e reports-b reports) stays word settles-told writes
          exit-told first end
          (subst (λ (k : ℕ). EndsByOutcome k a.shown (a.becomes (pin_in b k)) b e end) got.0 ended) is-ready charge in
          subst (λ (z : Current). Executes request old x e z [] (Ok status)) (sym at)
          (subst (λ (w : Sw). Executes request old x e (tried_from x a.pin a.unverifies end) [] (Ok w)) (sym told) made)

-- the requests that show a secret
module _ (n : ℕ) (number : IsPinNumber n) where
  value-owned : owner (value_of n) ≡ n - 1
  value-owned =
      let first = number.first in
      let last = number.last in
      omega (arith, first, last)

  unblocking-owned : owner (unblocking_of n) ≡ n - 1
  unblocking-owned =
      let first = number.first in
      let last = number.last in
      omega (arith, first, last)

  pub verifies : (shown : List ℕ) → IsAttempt (verify n (Some shown)) (verifying n shown)
  unfolding refusals_of effect commits
  verifies shown = record {
    refuses = λ c s. refl;
    does = λ c s. refl;
    passes = λ c s. refl;
    shows = refl;
    number = number;
    owned = value-owned;
    early = refl;
    alone = λ alone. refl;
  }

  pub changes : (shown new : List ℕ) → IsAttempt (change_reference_data n shown new) (changing n shown new)
  unfolding refusals_of effect commits
  changes shown new = record {
    refuses = λ c s. refl;
    does = λ c s. refl;
    passes = λ c s. refl;
    shows = refl;
    number = number;
    owned = value-owned;
    early = refl;
    alone = λ alone. let never : true ≡ false = alone in cc;
  }

  pub resets : (shown new : List ℕ) → IsAttempt (reset_retry_counter n (Some (shown, new))) (resetting n shown new)
  unfolding refusals_of effect commits
  resets shown new = record {
    refuses = λ c s. refl;
    does = λ c s. refl;
    passes = λ c s. refl;
    shows = refl;
    number = number;
    owned = unblocking-owned;
    early = refl;
    alone = λ alone. let never : true ≡ false = alone in cc;
  }

  pub requires_or_not : (change : RequirementChange) (shown : List ℕ)
      → IsAttempt (change_requirement change n shown) (marking change n shown)
  unfolding refusals_of effect commits
  requires_or_not change shown = record {
    refuses = λ c s. refl;
    does = λ c s. refl;
    passes = λ c s. refl;
    shows = refl;
    number = number;
    owned = value-owned;
    early = refl;
    alone = λ alone. let never : true ≡ false = alone in cc;
  }

-- The requests that ask for the tries that are left.
pub record IsQuestion (request : Request) (n secret : ℕ) : Type 0 where
  pub refuses : (c : Card) (s : Session) → refusals_of c s request ≡ no_refusals
  pub does : (c : Card) (s : Session) → effect c s request ≡ told_tries c s n secret
  pub unshown : attempt_of request ≡ None
  pub number : IsPinNumber n
  pub owned : owner secret ≡ n - 1

module _ (n : ℕ) (number : IsPinNumber n) where
  pub asks-value : IsQuestion (verify n None) n (value_of n)
  unfolding refusals_of effect
  asks-value = record {
    refuses = λ c s. refl;
    does = λ c s. refl;
    unshown = refl;
    number = number;
    owned = value-owned n number;
  }

  pub asks-unblocking : IsQuestion (reset_retry_counter n None) n (unblocking_of n)
  unfolding refusals_of effect
  asks-unblocking = record {
    refuses = λ c s. refl;
    does = λ c s. refl;
    unshown = refl;
    number = number;
    owned = unblocking-owned n number;
  }

module _ (request : Request) (n secret : ℕ) (asks : IsQuestion request n secret) (old : Memory) (x : Current)
    (card : IsCard (committed old)) (current : IsCurrent (table_in old) x) (named : ℕ) (is : named ≡ secret)
    (new : Memory) where
  tries-are : tries_left secret (pin_in old secret) ≡ tries_of (card_in old) n secret
  tries-are =
      ap (tries_left secret) (ap (pin_at (committed old)) asks.owned ∙ sym (pin-is (committed old) n card asks.number))

  answer-is : (status : Sw) → status ≡ tries_status (tries_left secret (pin_in old secret))
      → served (card_in old) (session_in old x) request ≡ refused (card_in old) (session_in old x) status
  answer-is status told =
      served-done (card_in old) (session_in old x) request
      (ap refused_by (asks.refuses (card_in old) (session_in old x)))
      ∙ asks.does (card_in old) (session_in old x)
      ∙ ap (refused (card_in old) (session_in old x)) (sym (told ∙ ap tries_status tries-are))

  pub question-answered : (r : Result Sw StoreErr)
      → IfOk r (λ status. status ≡ tries_status (tries_left named (pin_in old named)))
      → Reads old new (result_err r) → Executes request old x new x [] r
  question-answered (Ok status) told reads =
      declined request old x new
      (counts-none request (card_in old) (session_in old x) old.facts new.facts asks.unshown) card status reads.only
      reads.ready current (answer-is status (told ∙ ap (λ (s : ℕ). tries_status (tries_left s (pin_in old s))) is))
  question-answered (Err e) told reads =
      stopped request old x new card x [] e reads.only reads.tells (omega arith)
