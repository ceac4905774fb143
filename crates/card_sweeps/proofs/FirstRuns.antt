-- The first runs of a sweep, where it stops early.
use Rattle.std.specs.Prelude.{◌≡◌, ◌≤◌, ◌<◌, ◌-◌, ℕ, zero, suc, List, [], ◌++◌, Result, Ok, Err, IfErr}
use Rattle.std.specs.Prelude.{IsErrAnd}
use Rattle.std.proofs.Common.{refl, sym, ◌∙◌, ap, subst, inl, inr, arith}
use Rattle.nvm_board.specs.Facts.{Facts}
use Rattle.bench_turns.specs.declared.turn.Turn.{Turn}
use Rattle.card_sweeps.specs.declared.stop.SweepStop.{SweepStop}
use Rattle.card_sweeps.specs.declared.stop.SweepStop.TheVariants as stop
use Rattle.card_sweeps.specs.declared.sweeping.Halt.{Halt}
use Rattle.card_sweeps.specs.declared.sweeping.Halt.TheVariants as halt
use Rattle.card_sweeps.specs.declared.tally.Seen.{Seen}
use Rattle.card_sweeps.specs.declared.tally.Sweep.{Sweep}
use Rattle.card_sweeps.specs.declared.tally.SweepEnd.{SweepEnd}
use Rattle.card_sweeps.specs.declared.tally.SweepEnd.TheVariants.{Full, Differs}
use Rattle.card_sweeps.specs.declared.turn_cuts.MadeWrite.{MadeWrite}
use Rattle.card_sweeps.specs.PlanParts.{StopsEarly, halt_of}
use Rattle.card_sweeps.specs.Masks.{mask_count_of}
use Rattle.card_sweeps.specs.Sweeps.{SweptTurn, start_on}
use Rattle.card_sweeps.specs.SweptRuns.{AreAllBehind, AreFirstBehind, AreFirstOfMask, AreFirstOfTurn}
use Rattle.card_sweeps.specs.SweptRuns.{AreFirstOfWrite, AreOfMask, AreOfTurn, AreOfWrites, BeginsInTurn}
use Rattle.card_sweeps.specs.Tallies.{Finding, CountsEach, CountsRuns}
use Rattle.card_sweeps.specs.TurnCuts.{IsMade, LeavesMasked, MissesCut, MissesWrite, made_run}
use Rattle.card_sweeps.proofs.CompleteSweeps.{counts-both, counts-weaker}

-- no run can be counted
pub full-none : (seen : List Seen) → CountsRuns (λ all. (Full ≡ Full) × (all ≡ [])) seen seen
unfolding CountsEach
full-none seen = record { runs = []; are = (refl, refl); each = refl }

-- no run is counted
pub first-none : (seen : List Seen) → CountsRuns (λ all. all ≡ []) seen seen
unfolding CountsEach
first-none seen = record { runs = []; are = refl; each = refl }

-- no two halts are one
memory-full : halt.Memory ≡ halt.Full → ⊥
memory-full e = cc

memory-differs : halt.Memory ≡ halt.Differs → ⊥
memory-differs e = cc

pub full-differs : halt.Full ≡ halt.Differs → ⊥
full-differs e = cc

-- the first runs of a part are the first of the whole
pub early-then : (Inner Card : Type 0) (Was Is : SweepEnd → List Finding → Type 0) (old between new : Sweep) (h : Halt)
    → (Card → Inner)
    → ((end : SweepEnd) → Card → CountsRuns (Was end) between.seen.items new.seen.items
    → CountsRuns (Is end) old.seen.items new.seen.items)
    → StopsEarly Inner Was between new h → StopsEarly Card Is old new h
early-then Inner Card Was Is old between new h card then stopped = record {
  full = λ is. let was = stopped.full is in (was.0, λ c. then Full c (was.1 (card c)));
  differs = λ is c. then Differs c (stopped.differs is (card c));
}

-- the same of a result
pub early-weaker : {T : Type 0} (r : Result T Halt) (Inner Card : Type 0)
    (Was Is : SweepEnd → List Finding → Type 0) (old between new : Sweep) → (Card → Inner)
    → ((end : SweepEnd) → Card → CountsRuns (Was end) between.seen.items new.seen.items
    → CountsRuns (Is end) old.seen.items new.seen.items)
    → IfErr r (λ h. StopsEarly Inner Was between new h) → IfErr r (λ h. StopsEarly Card Is old new h)
early-weaker (Ok x) Inner Card Was Is old between new card then stopped = tt
early-weaker (Err h) Inner Card Was Is old between new card then stopped =
    early-then Inner Card Was Is old between new h card then stopped

-- the same, passed on
pub early-passed : {T : Type 0} (r : Result T Halt) (h : Halt) (Inner Card : Type 0)
    (Was Is : SweepEnd → List Finding → Type 0) (old between new : Sweep) → IsErrAnd r (λ passed. passed ≡ h)
    → (Card → Inner)
    → ((end : SweepEnd) → Card → CountsRuns (Was end) between.seen.items new.seen.items
    → CountsRuns (Is end) old.seen.items new.seen.items)
    → StopsEarly Inner Was between new h → IfErr r (λ passed. StopsEarly Card Is old new passed)
early-passed (Ok x) h Inner Card Was Is old between new same card then stopped = tt
early-passed (Err e) h Inner Card Was Is old between new same card then stopped =
    subst (λ (p : Halt). StopsEarly Card Is old new p) (sym same)
    (early-then Inner Card Was Is old between new h card then stopped)

-- runs that differ
pub differs-passed : {T : Type 0} (r : Result T Halt) (why : SweepStop) (Card Miss : Type 0)
    (Is : SweepEnd → List Finding → Type 0) (old new : Sweep) → IsErrAnd r (λ passed. passed ≡ halt_of why)
    → (why ≡ stop.Differs → Card → Miss)
    → (Card → Miss → CountsRuns (Is Differs) old.seen.items new.seen.items)
    → IfErr r (λ passed. StopsEarly Card Is old new passed)
differs-passed (Ok x) why Card Miss Is old new same misses then = tt
differs-passed (Err e) stop.Memory Card Miss Is old new same misses then = record {
  full = λ is. absurd (memory-full (sym same ∙ is));
  differs = λ is. absurd (memory-differs (sym same ∙ is));
}
differs-passed (Err e) stop.Differs Card Miss Is old new same misses then =
    record { full = λ is. absurd (full-differs (sym is ∙ same)); differs = λ is c. then c (misses refl c) }

-- a mask
module _ {B : Type 0} (facts : B → Facts) (end : SweepEnd) (First : Facts → List Finding → Type 0) (swept : SweptTurn)
    (number : ℕ) (before : List ℕ) (made : MadeWrite B) (i : ℕ) where
  -- the first runs after its cut
  pub first-mask : (left : B) (old new : List Seen) → LeavesMasked facts swept number before made i left
      → CountsRuns (First (facts left)) old new
      → CountsRuns (AreFirstOfMask facts end First swept number before made i) old new
  first-mask left old new leaves behind =
      counts-weaker (First (facts left)) (AreFirstOfMask facts end First swept number before made i) old new
      (λ all these. inl (record { left = left; leaves = leaves; behind = these })) behind

  -- its cut differs
  pub other-mask : (seen : List Seen) → end ≡ Differs → MissesCut swept number (made_run facts before made) i
      → CountsRuns (AreFirstOfMask facts end First swept number before made i) seen seen
  other-mask seen is misses =
      counts-weaker (λ all. all ≡ []) (AreFirstOfMask facts end First swept number before made i) seen seen
      (λ all none. inr (is, misses, none)) (first-none seen)

-- a write
module _ {B : Type 0} (facts : B → Facts) (torn : B → ℕ) (end : SweepEnd)
    (Behind First : Facts → List Finding → Type 0) (swept : SweptTurn) (number : ℕ) (before : List ℕ) where
  -- the first runs of it
  pub first-write : (made : MadeWrite B) (old new : List Seen) → IsMade facts torn swept number before made
      → made.words ≤ 16
      → CountsRuns (BeginsInTurn (mask_count_of made.words) (AreOfMask facts Behind swept number before made)
      (AreFirstOfMask facts end First swept number before made)) old new
      → CountsRuns (AreFirstOfWrite facts torn end Behind First swept number before) old new
  first-write made old new made_so fit begun =
      counts-weaker (BeginsInTurn (mask_count_of made.words) (AreOfMask facts Behind swept number before made)
      (AreFirstOfMask facts end First swept number before made))
      (AreFirstOfWrite facts torn end Behind First swept number before) old new
      (λ all these. inl (record { made = made; made_so = made_so; fit = fit; begun = these })) begun

  -- it differs
  pub other-write : (seen : List Seen) → end ≡ Differs → MissesWrite facts torn swept number before
      → CountsRuns (AreFirstOfWrite facts torn end Behind First swept number before) seen seen
  other-write seen is misses =
      counts-weaker (λ all. all ≡ []) (AreFirstOfWrite facts torn end Behind First swept number before) seen seen
      (λ all none. inr (is, misses, none)) (first-none seen)

-- the runs after a cut
module _ {B : Type 0} (facts : B → Facts) (torn : B → ℕ) (end : SweepEnd) (depth : ℕ) (probe : List Turn)
    (board : Facts) where
  -- none is counted
  none-behind : (n : ℕ) (all : List Finding) → end ≡ Full → all ≡ []
      → AreFirstBehind facts torn end n probe board all
  unfolding AreFirstBehind
  none-behind zero all full none = (full, none)
  none-behind (suc n) all full none = inl (full, none)

  pub first-behind-none : (old new : List Seen) → CountsRuns (λ all. (end ≡ Full) × (all ≡ [])) old new
      → CountsRuns (AreFirstBehind facts torn end depth probe board) old new
  unfolding none-behind
  first-behind-none old new none = counts-weaker (λ all. (end ≡ Full) × (all ≡ []))
      (AreFirstBehind facts torn end depth probe board) old new (λ all is. none-behind depth all is.0 is.1) none

  -- no power-on was cut, and no run is counted
  pub first-whole-none : (Behind : Facts → List Finding → Type 0) (old between new : List Seen)
      → CountsRuns (AreOfTurn facts torn Behind (start_on board) board.words 0) old between
      → CountsRuns (λ all. (end ≡ Full) × (all ≡ [])) between new
      → CountsRuns (AreFirstBehind facts torn end depth probe board) old new
  unfolding AreOfWrites none-behind
  first-whole-none Behind old between new some none =
      counts-both (AreOfTurn facts torn Behind (start_on board) board.words 0) (λ all. (end ≡ Full) × (all ≡ []))
      (AreFirstBehind facts torn end depth probe board) old between new
      (λ before last parts empty.
      none-behind depth (before ++ last) empty.0 (ap (λ (l : List Finding). l ++ last) parts.each.1 ∙ empty.1))
      some none

  -- the first runs of the next power-on
  pub first-behind : (old new : List Seen) → 0 < depth
      → CountsRuns (AreFirstOfTurn facts torn end (AreAllBehind facts torn (depth - 1) probe)
      (AreFirstBehind facts torn end (depth - 1) probe) (start_on board) board.words) old new
      → CountsRuns (AreFirstBehind facts torn end depth probe board) old new
  unfolding AreFirstBehind
  first-behind old new more first =
      let same : suc (depth - 1) ≡ depth = omega (arith, more) in
      let all : CountsRuns (AreFirstBehind facts torn end (suc (depth - 1)) probe board) old new =
      counts-weaker (AreFirstOfTurn facts torn end (AreAllBehind facts torn (depth - 1) probe)
      (AreFirstBehind facts torn end (depth - 1) probe) (start_on board) board.words)
      (AreFirstBehind facts torn end (suc (depth - 1)) probe board) old new (λ all these. inr these) first in
      subst (λ (d : ℕ). CountsRuns (AreFirstBehind facts torn end d probe board) old new) same all
