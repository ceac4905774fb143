-- The numbers that at most 6 decimal digits spell.
use Rattle.std.specs.Prelude.{◌≡◌, ◌≤◌, ◌<◌, ◌+◌, ◌-◌, ◌*◌, ◌^◌, ℕ, zero, suc, true, nat_le, List, [], ◌∷◌, length}
use Rattle.std.specs.Prelude.{take, slice_index, refl}
use Rattle.std.specs.Char.{is_ascii_digit}
use Rattle.std.specs.Int.{IsInRange}
use Rattle.std.specs.List.{list_all}
use Rattle.std.specs.Str.Parse.{AllDigits, digits_value}
use Rattle.std.proofs.Common.{arith}
use Rattle.std.proofs.lemmas.Bool.{and_parts, leb-true}
use Rattle.std.proofs.lemmas.Int.Digits.{digits_value-lt, digits_value_more}
use Rattle.std.proofs.Math.Nat.{pow-le-pow_right}
use Rattle.std.proofs.lemmas.Str.{digit_value_digit}
use Rattle.std.proofs.lemmas.Str.Parse.{digits_value-take-le}

-- a decimal digit
digit-range : (c : ℕ) → is_ascii_digit c ≡ true → IsInRange 48 57 c
digit-range c e =
    let parts = and_parts (nat_le 48 c) (nat_le c 57) e in
    (leb-true 48 c parts.0, leb-true c 57 parts.1)

pub digit-at : (digits : List ℕ) (i : ℕ) → list_all is_ascii_digit digits ≡ true → i < length digits
    → IsInRange 48 57 (slice_index digits i)
digit-at [] i e within = absurd (omega arith)
digit-at (c ∷ digits) zero e within = digit-range c (and_parts (is_ascii_digit c) (list_all is_ascii_digit digits) e).0
digit-at (c ∷ digits) (suc i) e within =
    digit-at digits i (and_parts (is_ascii_digit c) (list_all is_ascii_digit digits) e).1 (omega arith)

all_digits : (digits : List ℕ) → list_all is_ascii_digit digits ≡ true → AllDigits 10 digits
all_digits [] e = tt
all_digits (c ∷ digits) e =
    let parts = and_parts (is_ascii_digit c) (list_all is_ascii_digit digits) e in
    let range = digit-range c parts.0 in
    let value = digit_value_digit c range in
    (omega (arith, range, value), all_digits digits parts.1)

-- six digits spell at most 999,999
pub digits-bound : (digits : List ℕ) → list_all is_ascii_digit digits ≡ true → length digits ≤ 6
    → digits_value 10 digits ≤ 999999
digits-bound digits e short =
    let below = digits_value-lt 10 digits (all_digits digits e) in
    let most : 10 ^ length digits ≤ 10 ^ 6 = pow-le-pow_right (omega arith) short in
    let million : 10 ^ 6 ≡ 1000000 = refl in
    omega (arith, below, most, million)

pub first_digits-bound : (digits : List ℕ) (i : ℕ) → list_all is_ascii_digit digits ≡ true → length digits ≤ 6
    → digits_value 10 (take i digits) ≤ 999999
first_digits-bound digits i e short =
    let less = digits_value-take-le 10 digits i (omega arith) in
    let all = digits-bound digits e short in
    omega (arith, less, all)

-- one digit more
pub digits-more : (digits : List ℕ) (i : ℕ) → list_all is_ascii_digit digits ≡ true → i < length digits
    → digits_value 10 (take i digits) * 10 + (slice_index digits i - 48) ≡ digits_value 10 (take (i + 1) digits)
digits-more digits i e within =
    let value = digit_value_digit (slice_index digits i) (digit-at digits i e within) in
    let more = digits_value_more 10 digits i within in
    omega (arith, value, more)
