-- Formatting a new board succeeds: no cut is due, and no count stands at its end.
use Rattle.std.specs.Prelude.{◌≡◌, ◌<◌, ◌≤◌, ◌-◌, ◌*◌, ℕ, zero, suc, false}
use Rattle.std.specs.Prelude.{List, Option, None, Some, Err, Contains, length}
use Rattle.std.specs.Prelude.{replicate, slice_index_or, refl}
use Rattle.std.proofs.Common.{arith, inl, inr, subst, sym, ap, ◌∙◌, true≢false}
use Rattle.nvm_board.specs.declared.board.Arm.{Arm}
use Rattle.nvm_board.specs.declared.board.DeviceErr.{DeviceErr}
use Rattle.nvm_board.specs.declared.board.DeviceErr.TheVariants.{PowerLost, Fault}
use Rattle.nvm_board.specs.declared.board.TheConstants.{COUNT_END, MOST_PAGES, PAGE_WORDS}
use Rattle.nvm_board.specs.Aims.{due_of}
use Rattle.nvm_board.specs.Facts.{Answered, Facts, GoesDark, Steady, new_board, pages_of}
use Rattle.std.proofs.lemmas.List.{length-replicate}
use Rattle.nvm_board.specs.laws.Sizes.{pages_same}
use Rattle.command_base.specs.Standing.{board_blocks}
use Rattle.undo_journal.specs.Spending.{WritesAtMost}
use Rattle.bench_turns.specs.NewlyWritten.{IsNewlyWritten}

-- a new board has room for as many blocks as it has pages from page 128 on
pub new_pages : (n : ℕ) (old : Facts) → old ≡ new_board n → pages_of old.words ≡ n
new_pages n old is =
    let size : length old.words ≡ PAGE_WORDS * n =
    ap (λ (f : Facts). length f.words) is ∙ length-replicate {A = ℕ} (PAGE_WORDS * n) 0 in
    omega (arith, size)

pub new_blocks : (n : ℕ) (old new : Facts) → old ≡ new_board n → length new.words ≡ length old.words
    → board_blocks new.words ≡ n - 128
new_blocks n old new is size =
    let pages = new_pages n old is in
    let same = pages_same old.words new.words size in
    omega (arith, pages, same)

zero_at : (n k x : ℕ) → k < n → slice_index_or (replicate n 0) k x ≡ 0
zero_at zero k x lt = absurd (omega arith)
zero_at (suc n) zero x lt = refl
zero_at (suc n) (suc k) x lt = zero_at n k x (omega arith)

-- no count of comparisons or matches of a new board stands at its end
new_count : (counts : List ℕ) → counts ≡ replicate 16 0 → Contains counts COUNT_END → ⊥
new_count counts none at_end =
    let some = subst (λ (l : List ℕ). Contains l COUNT_END) none at_end in
    let zero_there = zero_at 16 some.0 COUNT_END some.1 in
    let same : 0 ≡ COUNT_END = sym zero_there ∙ some.2 in
    omega (arith, same)

-- power isn't lost
stays_lit : (n : ℕ) (old new : Facts) → n ≤ MOST_PAGES → old ≡ new_board n → new.faults ≡ 0
    → WritesAtMost n old new → GoesDark old new → ⊥
stays_lit n old new most is none counts dark = elim dark.due [
  | inl spent ↦ let due : old.due ≡ 0 = ap (λ (f : Facts). f.due) is in omega (arith, spent, due)
  | inr worn ↦ elim worn.0 [
    | inl faults ↦ omega (arith, faults, none)
    | inr (inl writes) ↦
        let before : old.writes ≡ 0 = ap (λ (f : Facts). f.writes) is in
        let few = counts.writes in
        omega (arith, writes, before, few, most)
    | inr (inr (inl compares)) ↦ new_count new.compares (counts.compares ∙ ap (λ (f : Facts). f.compares) is) compares
    | inr (inr (inr matches)) ↦ new_count new.matches (counts.matches ∙ ap (λ (f : Facts). f.matches) is) matches
  ]
]

pub format_succeeds : (n : ℕ) (old new : Facts) (e : DeviceErr) → n ≤ MOST_PAGES → old ≡ new_board n
    → new.faults ≡ 0 → WritesAtMost n old new → Answered {T = Unit {0}} old new (Err e) → ⊥
format_succeeds n old new Fault most is none counts answered = let rises = (answered.fault refl).faults in
    omega (arith, none, rises)
format_succeeds n old new PowerLost most is none counts answered = elim (answered.lost refl) [
  | inl dark ↦ stays_lit n old new most is none counts dark
  | inr dark ↦
      let lit : old.dark ≡ false = ap (λ (f : Facts). f.dark) is in
      true≢false (sym dark.0 ∙ lit)
]

-- a new board on which the factory's card was written
pub just_written : (n : ℕ) (old new : Facts) → old ≡ new_board n → Steady old new
    → WritesAtMost n old new → IsNewlyWritten n new
just_written n old new is steady spent =
    let due : old.due ≡ 0 = ap (λ (f : Facts). f.due) is in
    let faults : old.faults ≡ 0 = ap (λ (f : Facts). f.faults) is in
    let cuts : old.cuts ≡ 0 = ap (λ (f : Facts). f.cuts) is in
    let writes : old.writes ≡ 0 = ap (λ (f : Facts). f.writes) is in
    let most = spent.writes in
    record {
      lit = steady.lit;
      due = steady.due ∙ due;
      faults = steady.faults ∙ faults;
      cuts = steady.cuts ∙ cuts;
      writes = omega (arith, most, writes);
      compares = spent.compares ∙ ap (λ (f : Facts). f.compares) is;
      matches = spent.matches ∙ ap (λ (f : Facts). f.matches) is;
    }

-- no cut is to come where none is due
pub none_due : (pending : Option Arm) → due_of pending ≡ 0 → pending ≡ None
none_due None due = refl
none_due (Some arm) due = absurd (omega (arith, due))
