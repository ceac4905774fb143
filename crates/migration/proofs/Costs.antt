-- The device writes of the migration's transaction, set by set.
use Rattle.std.specs.Prelude.{◌≡◌, ◌==◌, ◌<◌, ◌≤◌, ◌+◌, ℕ, zero, suc, Bool, false, List, [], ◌∷◌, ◌++◌}
use Rattle.std.specs.Prelude.{length, if◌then◌else◌}
use Rattle.std.proofs.Common.{refl, ◌∙◌, ap, arith, inl, inr, length-append}
use Rattle.nvm_board.specs.Facts.{Facts, address}
use Rattle.undo_journal.specs.declared.batch.TheConstants.{BATCH}
use Rattle.undo_journal.specs.declared.batch.Waiting.{Waiting}
use Rattle.undo_journal.specs.Batches.{with_set, batch_writes}
use Rattle.undo_journal.specs.Memory.{Memory, Joins, commit_writes, set_writes}
use Rattle.undo_journal.specs.Spending.{WritesAtMost}
use Rattle.undo_journal.specs.laws.Joining.{commit_of_some}
use Rattle.block_chain.specs.declared.layout.TheConstants.{FREE_HEAD}
use Rattle.file_tree.specs.declared.layout.TheConstants.{MARK, OLD_END_PAGE}
use Rattle.pin_store.specs.declared.layout.TheConstants.{FIRST_PIN_PAGE}
use Rattle.pin_store.specs.declared.layout.TheConstants.{PIN_MARK_WORD}
use Rattle.migration.specs.MigratingParts.{FillsFirstBatch, JoinsFirst}

-- A set after which these sets wait, fewer than a batch: nothing is written.
pub record NowWait (sets : List Waiting) (old new : Memory) : Type 0 where
  pub waiting : new.waiting ≡ sets
  pub used : new.used ≡ old.used
  pub writes : new.facts.writes ≡ old.facts.writes

pub now_wait : (set : Waiting) (old new : Memory) (sets : List Waiting) → Joins set old new
    → with_set set old.waiting ≡ sets → length sets < BATCH → NowWait sets old new
now_wait set old new sets joins is few = elim joins [
  | inl waits ↦ record {
    waiting = waits.waiting ∙ is;
    used = waits.used;
    writes = ap (λ (f : Facts). f.writes) waits.facts;
  }
  | inr fills ↦ absurd (let size = ap (λ (l : List Waiting). length l) is in omega (arith, fills.full, size, few))
]

-- nor is anything where it fails
pub spends_none : (set : Waiting) (old new : Memory) (sets : List Waiting) → with_set set old.waiting ≡ sets
    → (length sets == BATCH) ≡ false → WritesAtMost (set_writes set old) old.facts new.facts
    → new.facts.writes ≤ old.facts.writes
spends_none set old new sets is few spends =
    let size : (length (with_set set old.waiting) == BATCH) ≡ false =
    ap (λ (l : List Waiting). length l == BATCH) is ∙ few in
    let none : set_writes set old ≡ 0 =
    ap (λ (b : Bool). if b then batch_writes (with_set set old.waiting) else 0) size in
    omega (arith, spends.writes, none)

-- the mark of a PIN as a set, and those of the first i PINs
abbrev pub pin_mark : ℕ → Waiting
pin_mark pin = record { at = address (FIRST_PIN_PAGE + pin) PIN_MARK_WORD; word = 1 }

abbrev pub marks : ℕ → List Waiting
marks zero = []
marks (suc i) = marks i ++ pin_mark i ∷ []

-- one mark more
marks_joined : (i : ℕ) → i < 8 → with_set (pin_mark i) (marks i) ≡ marks (i + 1)
marks_joined zero lt = refl
marks_joined (suc zero) lt = refl
marks_joined (suc (suc zero)) lt = refl
marks_joined (suc (suc (suc zero))) lt = refl
marks_joined (suc (suc (suc (suc zero)))) lt = refl
marks_joined (suc (suc (suc (suc (suc zero))))) lt = refl
marks_joined (suc (suc (suc (suc (suc (suc zero)))))) lt = refl
marks_joined (suc (suc (suc (suc (suc (suc (suc zero))))))) lt = refl
marks_joined (suc (suc (suc (suc (suc (suc (suc (suc i)))))))) lt = absurd (omega (arith, lt))

length-marks : (i : ℕ) → length (marks i) ≡ i
length-marks zero = refl
length-marks (suc i) = length-append (marks i) (pin_mark i ∷ []) ∙ ap (λ (n : ℕ). n + 1) (length-marks i)
    ∙ (let e : i + 1 ≡ suc i = omega arith in e)

-- What the marks of the first i PINs make of a store that was idle: they wait, and the eighth fills the batch.
pub record AreMarked (i : ℕ) (first now : Memory) : Type 0 where
  pub waits : i < 8 → (now.waiting ≡ marks i) × (now.used ≡ 0) × (now.facts.writes ≡ first.facts.writes)
  pub full : i ≡ 8 → FillsFirstBatch first now

module _ (i at : ℕ) (first now after : Memory) (lt : i < 8) (is : at ≡ address (FIRST_PIN_PAGE + i) PIN_MARK_WORD)
    (so_far : AreMarked i first now) where
  all : with_set (record { at = at; word = 1 }) now.waiting ≡ marks (i + 1)
  all = ap (λ (a : ℕ). with_set (record { at = a; word = 1 }) now.waiting) is
      ∙ ap (λ (l : List Waiting). with_set (pin_mark i) l) (so_far.waits lt).0 ∙ marks_joined i lt

  pub marked_more : Joins (record { at = at; word = 1 }) now after → AreMarked (i + 1) first after
  marked_more joins =
      let size = ap (λ (l : List Waiting). length l) all ∙ length-marks (i + 1) in
      elim joins [
        | inl waits ↦ record {
          waits = λ less. (
            waits.waiting ∙ all,
            waits.used ∙ (so_far.waits lt).1,
            ap (λ (f : Facts). f.writes) waits.facts ∙ (so_far.waits lt).2,
          );
          full = λ eight. absurd (omega (arith, waits.few, size, eight));
        }
        | inr fills ↦ record {
          waits = λ less. absurd (omega (arith, fills.full, size, less));
          full = λ eight. record {
            waiting = fills.waiting;
            used = (let none = (so_far.waits lt).1 in omega (arith, fills.used, none));
            writes = (let before = (so_far.waits lt).2 in
                let batch = ap batch_writes (all ∙ ap marks eight) in
                omega (arith, fills.writes, before, batch));
          };
        }
      ]

  -- no more are written where it fails
  pub marks_spend : WritesAtMost (set_writes (record { at = at; word = 1 }) now) now.facts after.facts
      → after.facts.writes ≤ first.facts.writes + 10
  marks_spend spends =
      let most = marks_cost i lt in
      let cost = ap (λ (l : List Waiting). (if length l == BATCH then batch_writes l else 0)) all in
      let before = (so_far.waits lt).2 in
      omega (arith, spends.writes, most, cost, before)
    where
      marks_cost : (k : ℕ) → k < 8 → (if length (marks (k + 1)) == BATCH then batch_writes (marks (k + 1)) else 0) ≤ 10
      marks_cost zero less = omega arith
      marks_cost (suc zero) less = omega arith
      marks_cost (suc (suc zero)) less = omega arith
      marks_cost (suc (suc (suc zero))) less = omega arith
      marks_cost (suc (suc (suc (suc zero)))) less = omega arith
      marks_cost (suc (suc (suc (suc (suc zero))))) less = omega arith
      marks_cost (suc (suc (suc (suc (suc (suc zero)))))) less = omega arith
      marks_cost (suc (suc (suc (suc (suc (suc (suc zero))))))) less = omega arith
      marks_cost (suc (suc (suc (suc (suc (suc (suc (suc k)))))))) less = absurd (omega (arith, less))

-- The sets of the header: of the first free block, if there are new ones,
-- then of the page where the blocks end, and of the mark.
abbrev pub first_set : Waiting
first_set = record { at = FREE_HEAD; word = OLD_END_PAGE }

abbrev pub pages_set : ℕ → Waiting
pages_set end = record { at = 3; word = end }

abbrev pub mark_set : Waiting
mark_set = record { at = 0; word = MARK }

-- The first free block is set, or not.
pub data FirstWaits (old new : Memory) : Type 0 where
  with_first : NowWait (first_set ∷ []) old new → FirstWaits old new
  without : NowWait [] old new → FirstWaits old new

pub first_waits : (end : ℕ) (old new : Memory) → old.waiting ≡ [] → JoinsFirst end old new → FirstWaits old new
first_waits end old new none joins = elim joins [
  | inl sets ↦ with_first (now_wait first_set old new (first_set ∷ []) sets.1
      (ap (λ (l : List Waiting). with_set first_set l) none) (omega arith))
  | inr same ↦ without (record {
    waiting = ap (λ (m : Memory). m.waiting) same.1 ∙ none;
    used = ap (λ (m : Memory). m.used) same.1;
    writes = ap (λ (m : Memory). m.facts.writes) same.1;
  })
]

-- Then the page where the blocks end is.
pub data PagesWait (end : ℕ) (old new : Memory) : Type 0 where
  two_wait : NowWait (first_set ∷ pages_set end ∷ []) old new → PagesWait end old new
  one_waits : NowWait (pages_set end ∷ []) old new → PagesWait end old new

wait_then : (sets more : List Waiting) (a b c : Memory) → NowWait sets a b → NowWait more b c → NowWait more a c
wait_then sets more a b c first rest = record {
  waiting = rest.waiting;
  used = rest.used ∙ first.used;
  writes = rest.writes ∙ first.writes;
}

module _ (end : ℕ) (old mid new : Memory) (first : FirstWaits old mid) where
  pub pages_wait : Joins (pages_set end) mid new → PagesWait end old new
  pages_wait joins = elim first [
    | with_first w ↦ two_wait (wait_then _ _ old mid new w (now_wait (pages_set end) mid new (first_set ∷ pages_set end
        ∷ []) joins (ap (λ (l : List Waiting). with_set (pages_set end) l) w.waiting) (omega arith)))
    | without w ↦ one_waits (wait_then _ _ old mid new w (now_wait (pages_set end) mid new (pages_set end ∷ []) joins
        (ap (λ (l : List Waiting). with_set (pages_set end) l) w.waiting) (omega arith)))
  ]

  pub pages_spend : WritesAtMost (set_writes (pages_set end) mid) mid.facts new.facts
      → new.facts.writes ≤ old.facts.writes
  pages_spend spends = elim first [
    | with_first w ↦
        let none = spends_none (pages_set end) mid new (first_set ∷ pages_set end ∷ [])
        (ap (λ (l : List Waiting). with_set (pages_set end) l) w.waiting) refl spends in
        omega (arith, none, w.writes)
    | without w ↦
        let none = spends_none (pages_set end) mid new (pages_set end ∷ [])
        (ap (λ (l : List Waiting). with_set (pages_set end) l) w.waiting) refl spends in
        omega (arith, none, w.writes)
  ]

module _ (end : ℕ) (old mid new : Memory) (pages : PagesWait end old mid) where
  pub header_counts : Joins mark_set mid new → new.facts.writes + commit_writes new ≡ old.facts.writes + 5
  header_counts joins = elim pages [
    | two_wait w ↦
        let all = now_wait mark_set mid new (mark_set ∷ first_set ∷ pages_set end ∷ []) joins
        (ap (λ (l : List Waiting). with_set mark_set l) w.waiting) (omega arith) in
        let batch = ap batch_writes all.waiting in
        let size = ap (λ (l : List Waiting). length l) all.waiting in
        omega (arith, commit_of_some new (omega (arith, size)), batch, all.writes, w.writes)
    | one_waits w ↦
        let all = now_wait mark_set mid new (mark_set ∷ pages_set end ∷ []) joins
        (ap (λ (l : List Waiting). with_set mark_set l) w.waiting) (omega arith) in
        let batch = ap batch_writes all.waiting in
        let size = ap (λ (l : List Waiting). length l) all.waiting in
        omega (arith, commit_of_some new (omega (arith, size)), batch, all.writes, w.writes)
  ]

  pub header_spends : WritesAtMost (set_writes mark_set mid) mid.facts new.facts → new.facts.writes ≤ old.facts.writes
  header_spends spends = elim pages [
    | two_wait w ↦
        let none = spends_none mark_set mid new (mark_set ∷ first_set ∷ pages_set end ∷ [])
        (ap (λ (l : List Waiting). with_set mark_set l) w.waiting) refl spends in
        omega (arith, none, w.writes)
    | one_waits w ↦
        let none = spends_none mark_set mid new (mark_set ∷ pages_set end ∷ [])
        (ap (λ (l : List Waiting). with_set mark_set l) w.waiting) refl spends in
        omega (arith, none, w.writes)
  ]
