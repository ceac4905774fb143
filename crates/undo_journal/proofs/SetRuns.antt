-- The runs of the sets of successive words, as they are made one by one.
use Rattle.std.proofs.Common.{◌≡◌, ◌<◌, ◌≤◌, ◌+◌, ◌-◌, ◌/◌, ◌%◌, ℕ, zero, suc, List, [], ◌∷◌, length, take, slice_index}
use Rattle.std.proofs.Common.{sym, ◌∙◌, ap, subst, inl, inr, arith}
use Rattle.std.proofs.lemmas.Bool.Decides.{eqb_tells}
use Rattle.std.proofs.lemmas.List.{length-take-le}
use Rattle.nvm_board.specs.declared.board.TheConstants.{PAGE_WORDS}
use Rattle.undo_journal.specs.Batches.{with_set, joined_run, touched_pages}
use Rattle.undo_journal.specs.declared.batch.Waiting.{Waiting}
use Rattle.undo_journal.specs.Memory.{Memory, InRuns, ContinuesRun, EndsAt}
use Rattle.undo_journal.specs.declared.batch.TheConstants.{BATCH}
use Rattle.undo_journal.specs.laws.Calls.{runs_then, runs_weaker}
use Rattle.undo_journal.proofs.Waits.{joined-length}

-- one word more
pub joined_run-more : (words : List ℕ) (at i : ℕ) (sets : List Waiting) → i < length words
    → with_set (record { at = at + i; word = slice_index words i }) (joined_run at (take i words) sets)
    ≡ joined_run at (take (i + 1) words) sets
joined_run-more [] at i sets lt = absurd (omega arith)
joined_run-more (w ∷ words) at zero sets lt =
    let here : at + zero ≡ at = omega arith in
    ap (λ (j : ℕ). with_set (record { at = j; word = w }) sets) here
joined_run-more (w ∷ words) at (suc i) sets lt =
    let place : at + suc i ≡ at + 1 + i = omega arith in
    let more : suc i + 1 ≡ suc (i + 1) = omega arith in
    let below : i < length words = omega (arith, lt) in
    let first : List Waiting = with_set (record { at = at; word = w }) sets in
    ap (λ (j : ℕ). with_set (record { at = j; word = slice_index words i })
    (joined_run (at + 1) (take i words) first)) place
    ∙ joined_run-more words (at + 1) i first below ∙ ap (λ (n : ℕ). joined_run at (take n (w ∷ words)) sets) (sym more)

joined_run-length : (words : List ℕ) (at : ℕ) (sets : List Waiting)
    → length (joined_run at words sets) ≤ length sets + length words
joined_run-length [] at sets = omega arith
joined_run-length (w ∷ words) at sets =
    let set : Waiting = record { at = at; word = w } in
    let rest = joined_run-length words (at + 1) (with_set set sets) in
    let one = joined-length set sets in
    omega (arith, rest, one)

-- so few of them fill no batch
pub fills-none : (set : Waiting) (words : List ℕ) (at i : ℕ) (old now : List Waiting)
    → now ≡ joined_run at (take i words) old → i < length words → length (with_set set now) ≡ BATCH
    → length old + (i + 1) < BATCH → ⊥
fills-none set words at i old now is lt full few =
    let run = joined_run-length (take i words) at old in
    let taken = length-take-le i words (let le : i ≤ length words = omega (arith, lt) in le) in
    let size = ap (λ (l : List Waiting). length l) is in
    let one = joined-length set now in
    let none : ⊥ = omega (arith, run, taken, size, one, full, few, lt) in none

pages-count : (at n : ℕ) → 1 ≤ n → touched_pages at n ≡ (at + n + 15) / PAGE_WORDS - at / PAGE_WORDS
pages-count at zero none = absurd (omega (arith, none))
pages-count at (suc n) some = omega arith

-- The sets of the first i words from an address on lie in a run for each page.
pub data AreSetSoFar (at i : ℕ) (first now : Memory) : Type 0 where
  none_yet : i ≡ 0 → InRuns 0 first now → AreSetSoFar at i first now
  some_runs : 0 < i → InRuns (touched_pages at i) first now → EndsAt now (at + i - 1) → AreSetSoFar at i first now

module _ (at i : ℕ) (first now : Memory) (so_far : AreSetSoFar at i first now) where
  -- they are no more than those of all words
  pub pages_all : (n : ℕ) → i ≤ n → InRuns (touched_pages at n) first now
  pages_all n le = elim so_far [
    | none_yet e runs ↦ runs_weaker 0 (touched_pages at n) first now (omega arith) runs
    | some_runs lt runs ends ↦
        let here = pages-count at i (omega (arith, lt)) in
        let all = pages-count at n (omega (arith, lt, le)) in
        runs_weaker (touched_pages at i) (touched_pages at n) first now (omega (arith, here, all, le)) runs
  ]

  -- one word more is set
  module _ (after : Memory) (one : InRuns 1 now after) (goes : ContinuesRun now (at + i) → InRuns 0 now after) where
    pages_put : InRuns (touched_pages at (i + 1)) first after
    pages_put =
        let next = pages-count at (i + 1) (omega arith) in
        elim so_far [
          | none_yet e runs ↦ runs_then 0 1 (touched_pages at (i + 1)) first now after (omega (arith, next, e)) runs one
          | some_runs lt runs ends ↦
              let here = pages-count at i (omega (arith, lt)) in
              elim (eqb_tells ((at + i) % PAGE_WORDS) 0) [
                | inl fresh ↦
                    runs_then (touched_pages at i) 1 (touched_pages at (i + 1)) first now after
                    (omega (arith, next, here, fresh.1)) runs one
                | inr inside ↦
                    runs_then (touched_pages at i) 0 (touched_pages at (i + 1)) first now after
                    (omega (arith, next, here, inside.1, lt)) runs (goes (inside.1, ends))
              ]
        ]

    -- so many of all, where it fails, too
    pub pages_more : (n : ℕ) → i < n → InRuns (touched_pages at n) first after
    pages_more n lt =
        let next = pages-count at (i + 1) (omega arith) in
        let all = pages-count at n (omega (arith, lt)) in
        runs_weaker (touched_pages at (i + 1)) (touched_pages at n) first after (omega (arith, next, all, lt)) pages_put

    pub pages_next : EndsAt after (at + i) → AreSetSoFar at (i + 1) first after
    pages_next put =
        let place : at + i ≡ at + (i + 1) - 1 = omega arith in
        some_runs (omega arith) pages_put (subst (λ (a : ℕ). EndsAt after a) place put)
