-- Laws of calls of which only the last device write may commit: calls in a row.
use Rattle.std.proofs.Common.{◌≡◌, ◌≤◌, ◌<◌, ◌+◌, ◌-◌, ◌++◌, ℕ, zero, suc, List, [], ◌∷◌}
use Rattle.std.proofs.Common.{length, refl, sym, ◌∙◌, ap, subst, inl, inr, arith, length-append}
use Rattle.std.specs.Prelude.{Option, Result, Ok, Err, take}
use Rattle.std.proofs.lemmas.Bool.{cases_lt}
use Rattle.std.proofs.lemmas.List.{take-append-le}
use Rattle.std.proofs.Math.Seq.{take-append-add}
use Rattle.nvm_board.specs.declared.board.DeviceErr.{DeviceErr}
use Rattle.nvm_board.specs.declared.board.DeviceErr.TheVariants.{PowerLost, Fault}
use Rattle.nvm_board.specs.Aims.{AimStays, WritesRuns, events}
use Rattle.nvm_board.specs.BoardCalls.{Writes}
use Rattle.nvm_board.specs.Facts.{Facts}
use Rattle.nvm_board.specs.History.{Log, Run, and_run, and_runs, replayed, run_in}
use Rattle.nvm_board.specs.Torn.{Torn}
use Rattle.nvm_board.specs.laws.History.{and_runs-append, replayed-append, written-Torn}
use Rattle.undo_journal.specs.Commits.{CommitsLast, StaysCommitted}
use Rattle.undo_journal.specs.Spending.{KeepsBoard}

-- the same words
pub committed_same : (m : List ℕ) → StaysCommitted m m
committed_same m = record { sound = λ sound. sound; words = refl }

pub committed_as : (m n : List ℕ) → n ≡ m → StaysCommitted m n
committed_as m n same = subst (λ (l : List ℕ). StaysCommitted m l) (sym same) (committed_same m)

-- words in a row
pub committed_then : (a b c : List ℕ) → StaysCommitted a b → StaysCommitted b c → StaysCommitted a c
committed_then a b c first rest = record {
  sound = λ sound. rest.sound (first.sound sound);
  words = rest.words ∙ first.words;
}

-- at most one device write
pub last_one : (old new : Facts) (wrote : WritesRuns old new) → length wrote.runs ≤ 1 → CommitsLast old new
last_one old new wrote few = record { wrote = wrote; before = none }
  where
    none : (k : ℕ) → k < length wrote.runs → StaysCommitted old.words (replayed old.words (take k wrote.runs))
    none zero lt = committed_same old.words
    none (suc k) lt = absurd (omega (arith, lt, few))

-- no call at all
pub last_same : (f : Facts) → CommitsLast f f
last_same f = last_one f f (record { runs = []; words = refl; log = refl; counted = omega arith }) (omega arith)

pub last_still : (old new : Facts) → new ≡ old → CommitsLast old new
last_still old new same = subst (λ (f : Facts). CommitsLast old f) (sym same) (last_same old)

-- no device write
pub last_unwritten : (old new : Facts) → new.words ≡ old.words → AimStays old new → CommitsLast old new
last_unwritten old new same stays = last_one old new (record {
  runs = [];
  words = same;
  log = stays.log;
  counted = omega (arith, stays.more);
}) (omega arith)

pub last_none : (old new : Facts) → KeepsBoard old new → CommitsLast old new
last_none old new kept = last_unwritten old new kept.words kept.cut

-- a device write that is an event, torn or not
last-event : (at : ℕ) (run : List ℕ) (old new : Facts) → Torn old.words at run new.words
    → new.log ≡ and_run old.log (run_in new.words at (length run)) → events old < events new → CommitsLast old new
last-event at run old new torn log event = last_one old new (record {
  runs = run_in new.words at (length run) ∷ [];
  words = sym (written-Torn old.words run new.words at torn);
  log = log;
  counted = omega (arith, event);
}) (omega arith)

-- a device write
pub last_written : {T : Type 0} (at : ℕ) (run : List ℕ) (old new : Facts) (result : Result T DeviceErr)
    → Writes at run old new result → CommitsLast old new
last_written at run old new (Ok x) wrote =
    let lit = wrote.light.ok refl in
    let counted : new.writes ≡ old.writes + 1 = wrote.counted in
    last-event at run old new wrote.torn (wrote.log lit.was_lit) (omega (arith, counted, lit.cuts, lit.faults))
last_written at run old new (Err PowerLost) wrote =
    let counted = wrote.counted_err in
    elim (wrote.light.lost refl) [
      | inl dark ↦
          last-event at run old new wrote.torn (wrote.log dark.was_lit) (omega (arith, counted, dark.cuts, dark.faults))
      | inr off ↦ last_still old new off.1
    ]
last_written at run old new (Err Fault) wrote =
    let fault = wrote.light.fault refl in
    let counted = wrote.counted_err in
    last-event at run old new wrote.torn (wrote.log fault.was_lit) (omega (arith, counted, fault.cuts, fault.faults))

-- Calls in a row. The first ones leave the committed words.
pub last_then : (a b c : Facts) → CommitsLast a b → StaysCommitted a.words b.words → CommitsLast b c → CommitsLast a c
last_then a b c first kept rest = record {
  wrote = record {
    runs = all;
    words = rest.wrote.words ∙ ap (λ (m : List ℕ). replayed m rest.wrote.runs) first.wrote.words
        ∙ sym (replayed-append a.words first.wrote.runs rest.wrote.runs);
    log = rest.wrote.log ∙ ap (λ (l : Option Log). and_runs l rest.wrote.runs) first.wrote.log
        ∙ sym (and_runs-append a.log first.wrote.runs rest.wrote.runs);
    counted =
        let size = length-append first.wrote.runs rest.wrote.runs in
        omega (arith, size, first.wrote.counted, rest.wrote.counted);
  };
  before = before;
}
  where
    all : List Run
    all = first.wrote.runs ++ rest.wrote.runs

    image : ℕ → List ℕ
    image k = replayed a.words (take k all)

    later : (j : ℕ) → j < length rest.wrote.runs → StaysCommitted a.words (image (length first.wrote.runs + j))
    later j lt =
        let runs = first.wrote.runs in
        let is : image (length runs + j) ≡ replayed b.words (take j rest.wrote.runs) =
        ap (λ (l : List Run). replayed a.words l) (take-append-add runs rest.wrote.runs j)
        ∙ replayed-append a.words runs (take j rest.wrote.runs)
        ∙ ap (λ (m : List ℕ). replayed m (take j rest.wrote.runs)) (sym first.wrote.words) in
        subst (λ (m : List ℕ). StaysCommitted a.words m) (sym is)
        (committed_then a.words b.words _ kept (rest.before j lt))

    before : (k : ℕ) → k < length all → StaysCommitted a.words (image k)
    before k lt = elim (cases_lt k (length first.wrote.runs)) [
      | inl early ↦
          subst (λ (l : List Run). StaysCommitted a.words (replayed a.words l))
          (sym (take-append-le k first.wrote.runs rest.wrote.runs (omega (arith, early)))) (first.before k early)
      | inr late ↦
          let size = length-append first.wrote.runs rest.wrote.runs in
          let place : length first.wrote.runs + (k - length first.wrote.runs) ≡ k = omega (arith, late) in
          subst (λ (n : ℕ). StaysCommitted a.words (image n)) place
          (later (k - length first.wrote.runs) (omega (arith, late, lt, size)))
    ]

-- reads before
pub last_after : (a b c : Facts) → KeepsBoard a b → CommitsLast b c → CommitsLast a c
last_after a b c kept rest = last_then a b c (last_none a b kept) (committed_as a.words b.words kept.words) rest
