-- Searching: the numbers that are looked at, and the records that hold the text.
use Rattle.std.proofs.Common.{sym, ◌∙◌, ap, arith}
use Rattle.std.proofs.lemmas.List.{take-append-drop, take-append-le}
use Rattle.std.proofs.lemmas.List.{take_all, take_more}
use Rattle.std.proofs.lemmas.List.Elements.{filter-append}
use Rattle.std.proofs.lemmas.List.Folds.{list_any_at, list_any_none}
use Rattle.std.proofs.lemmas.List.FromFn.{get_or-range_with_len, length-range_with_len}
use Rattle.std.specs.Prelude.{◌≡◌, ◌<◌, ◌≤◌, ◌+◌, ℕ, Bool, true, false, cond, List, [], ◌∷◌, ◌++◌, length, take}
use Rattle.std.specs.Prelude.{drop}
use Rattle.std.specs.Prelude.{slice_index, nat_eq}
use Rattle.std.specs.List.{filter, range_with_len, starts_with}
use Rattle.card_model.specs.declared.direction.Direction.{Direction}
use Rattle.card_model.specs.RecordLists.{stands_in, numbers_on, records_found, record_of}
use Rattle.block_chain.specs.ChainChanges.{AppendsSome}

-- a text stands where it begins at some place
pub stands_at : (text bytes : List ℕ) (at : ℕ) → at < length bytes → starts_with nat_eq (drop at bytes) text ≡ true
    → stands_in text bytes ≡ true
stands_at text bytes at lt begins =
    let begins_here : ℕ → Bool = λ k. starts_with nat_eq (drop k bytes) text in
    let places = range_with_len 0 (length bytes) in
    let many = length-range_with_len 0 (length bytes) in
    let none : 0 + at ≡ at = omega arith in
    list_any_at begins_here places at 0 (omega (arith, many, lt))
    (ap begins_here (get_or-range_with_len 0 (length bytes) at 0 lt ∙ none) ∙ begins)

-- and nowhere where it begins at none
pub stands_nowhere : (text bytes : List ℕ)
    → ((k : ℕ) → k < length bytes → starts_with nat_eq (drop k bytes) text ≡ false) → stands_in text bytes ≡ false
stands_nowhere text bytes never =
    let begins_here : ℕ → Bool = λ k. starts_with nat_eq (drop k bytes) text in
    let places = range_with_len 0 (length bytes) in
    let many = length-range_with_len 0 (length bytes) in
    list_any_none begins_here places (λ k d lt.
    let small : k < length bytes = omega (arith, lt, many) in
    let none : 0 + k ≡ k = omega arith in
    ap begins_here (get_or-range_with_len 0 (length bytes) k d small ∙ none) ∙ never k small)

-- one number more
pub filter-next : (test : ℕ → Bool) (numbers : List ℕ) (step : ℕ) → step < length numbers
    → filter test (take (step + 1) numbers)
    ≡ filter test (take step numbers) ++ cond (test (slice_index numbers step)) (slice_index numbers step ∷ []) []
filter-next test numbers step lt =
    ap (filter test) (take_more numbers step 0 lt) ∙ filter-append test (take step numbers) (slice_index numbers step
    ∷ [])

-- those that pass among the first of some are the first that pass
filter-some : (test : ℕ → Bool) (numbers : List ℕ) (step : ℕ)
    → filter test (take step numbers) ≡ take (length (filter test (take step numbers))) (filter test numbers)
filter-some test numbers step =
    let front = filter test (take step numbers) in
    let back = filter test (drop step numbers) in
    let all : length front ≤ length front = omega arith in
    let whole : filter test numbers ≡ front ++ back =
    ap (filter test) (sym (take-append-drop step numbers))
    ∙ filter-append test (take step numbers) (drop step numbers) in
    sym (ap (take (length front)) whole ∙ take-append-le (length front) front back all
    ∙ take_all (length front) front all)

-- the numbers found so far, as an error leaves the buffer
pub found_some : (direction : Direction) (first last step : ℕ) (text : List ℕ) (records : List (List ℕ))
    (numbers : List ℕ) → length records ≡ last
    → numbers ≡ filter (λ (n : ℕ). stands_in text (record_of records n)) (take step (numbers_on direction first last))
    → AppendsSome [] (records_found direction first text records) numbers
found_some direction first last step text records numbers many so_far =
    let test : ℕ → Bool = λ n. stands_in text (record_of records n) in
    record {
      some = length (filter test (take step (numbers_on direction first last)));
      is = so_far ∙ filter-some test (numbers_on direction first last) step
          ∙ ap (λ (n : ℕ). take (length (filter test (take step (numbers_on direction first last))))
          (filter test (numbers_on direction first n))) (sym many);
    }

-- there is room for one number more, among the first of those that are looked at
pub room_more : (found passed step all records n : ℕ) (numbers : List ℕ) → found ≡ passed → passed ≤ length numbers
    → length numbers ≡ step → step < all → all ≤ records → records ≤ n → found < n
room_more found passed step all records n numbers is few taken lt most room =
    omega (arith, is, few, taken, lt, most, room)

pub step_within : (step all : ℕ) → step < all → step ≤ all
step_within step all lt = omega (arith, lt)

-- a record's number fits a byte
pub byte_number : (n records capacity : ℕ) → n ≤ records → records ≤ capacity → capacity ≤ 254 → n < 256
byte_number n records capacity top number few = omega (arith, top, number, few)
