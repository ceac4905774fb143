-- The numbers that a search looks at.
use Rattle.std.proofs.Common.{refl, ◌∙◌, ap, arith}
use Rattle.std.proofs.lemmas.List.{get_or-reverse, length-reverse}
use Rattle.std.proofs.lemmas.List.FromFn.{get_or-range_with_len, length-range_with_len}
use Rattle.std.specs.Prelude.{◌≡◌, ◌<◌, ◌≤◌, ◌+◌, ◌-◌, ℕ, Bool, true, false, cond, List, [], ◌∷◌, length}
use Rattle.std.specs.Prelude.{slice_index}
use Rattle.std.specs.List.{filter, range_with_len}
use Rattle.card_model.specs.declared.direction.Direction.{Direction}
use Rattle.card_model.specs.declared.direction.Direction.TheVariants.{Forward, Backward}
use Rattle.card_model.specs.RecordLists.{numbers_on}

-- how many numbers are looked at
pub steps_forward : (direction : Direction) (first last : ℕ) → direction ≡ Forward
    → length (numbers_on direction first last) ≡ last + 1 - first
steps_forward direction first last is =
    ap (λ (d : Direction). length (numbers_on d first last)) is ∙ length-range_with_len first (last + 1 - first)

pub steps_backward : (direction : Direction) (first last : ℕ) → direction ≡ Backward
    → length (numbers_on direction first last) ≡ first
steps_backward direction first last is =
    ap (λ (d : Direction). length (numbers_on d first last)) is
    ∙ length-reverse (range_with_len 1 first) ∙ length-range_with_len 1 first

-- no more than there are records
pub steps_few : (direction : Direction) (first last : ℕ) → 1 ≤ first → first ≤ last
    → length (numbers_on direction first last) ≤ last
steps_few Forward first last some few = let e = steps_forward Forward first last refl in omega (arith, e, some, few)
steps_few Backward first last some few = let e = steps_backward Backward first last refl in omega (arith, e, some, few)

-- each of them
pub number_forward : (direction : Direction) (first last step : ℕ) → direction ≡ Forward
    → step < length (numbers_on direction first last)
    → slice_index (numbers_on direction first last) step ≡ first + step
number_forward direction first last step is lt =
    let many = steps_forward direction first last is in
    ap (λ (d : Direction). slice_index (numbers_on d first last) step) is
    ∙ get_or-range_with_len first (last + 1 - first) step 0 (omega (arith, many, lt))

pub number_backward : (direction : Direction) (first last step : ℕ) → direction ≡ Backward
    → step < length (numbers_on direction first last)
    → slice_index (numbers_on direction first last) step ≡ first - step
number_backward direction first last step is lt =
    let many = steps_backward direction first last is in
    let long = length-range_with_len 1 first in
    let inside : step < length (range_with_len 1 first) = omega (arith, many, lt, long) in
    let below : first - 1 - step < first = omega (arith, many, lt) in
    let place : length (range_with_len 1 first) - 1 - step ≡ first - 1 - step = omega (arith, long) in
    let value : 1 + (first - 1 - step) ≡ first - step = omega (arith, many, lt) in
    ap (λ (d : Direction). slice_index (numbers_on d first last) step) is
    ∙ get_or-reverse (range_with_len 1 first) step 0 inside
    ∙ ap (slice_index (range_with_len 1 first)) place
    ∙ get_or-range_with_len 1 first (first - 1 - step) 0 below ∙ value

-- at most as many pass as there are
filter-one : (test : ℕ → Bool) (n : ℕ) (numbers : List ℕ) (b : Bool)
    → length (filter test numbers) ≤ length numbers
    → length (cond b (n ∷ filter test numbers) (filter test numbers)) ≤ length (n ∷ numbers)
filter-one test n numbers true rest = omega (arith, rest)
filter-one test n numbers false rest = omega (arith, rest)

pub filter-few : (test : ℕ → Bool) (numbers : List ℕ) → length (filter test numbers) ≤ length numbers
filter-few test [] = omega arith
filter-few test (n ∷ numbers) = filter-one test n numbers (test n) (filter-few test numbers)
