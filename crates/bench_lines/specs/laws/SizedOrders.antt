-- What a line asks for keeps the limits of lines, and its bytes are bytes.
use Rattle.std.proofs.Common.{◌≡◌, ◌≤◌, ◌<◌, ◌*◌, ◌+◌, ◌&&◌, ℕ, Bool, true, false, cond, nat_le, List, [], ◌∷◌, length}
use Rattle.std.proofs.Common.{drop, take, Option, Some, None, Result, Ok, Err, ◌-◌, arith, refl, subst}
use Rattle.std.specs.Prelude.{option_map}
use Rattle.std.specs.List.{list_all}
use Rattle.std.specs.Str.Parse.{digits_value}
use Rattle.std.specs.Char.{is_ascii_digit}
use Rattle.std.proofs.lemmas.Bool.{and_parts, leb-true}
use Rattle.std.proofs.lemmas.List.{get_or_default}
use Rattle.card_model.specs.Requests.{AreBytes}
use Rattle.hex.specs.Hex.{IsBytes, decode_of}
use Rattle.hex.specs.declared.error.FromHexError.{FromHexError}
use Rattle.hex.proofs.HexLemmas.{decode_of-ok}
use Rattle.bench_lines.specs.declared.order.TheConstants.{COMMAND_LIMIT, BLOCK_LIMIT, NUMBER_DIGITS}
use Rattle.bench_lines.specs.Orders.{Order}
use Rattle.bench_lines.specs.Orders.{Nothing, On, Off, Free, Apdu, Block, Cut, Lose, Garble}
use Rattle.bench_lines.specs.Orders.{IsOrderSized, bytes_in, cut_by, cut_in, mask_by, number_in, order_of, within_limit}
use Rattle.bench_lines.specs.Spellings.{IsOrderOfBytes}
use Rattle.bench_lines.specs.laws.Numbers.{digits-bound}

-- an order within the limits, of bytes
abbrev InRange : Order → Type 0
InRange order = IsOrderSized order × IsOrderOfBytes order

-- what is asked for, if anything is, keeps the limits
abbrev Sized : Option Order → Type 0
Sized o = (order : Order) → o ≡ Some order → InRange order

none : Sized None
none order e = absurd cc

one : (order : Order) → InRange order → Sized (Some order)
one given sized order e = let same : given ≡ order = cc in subst InRange same sized

either : (test : Bool) (a b : Option Order) → Sized a → Sized b → Sized (cond test a b)
either true a b here there = here
either false a b here there = there

-- what digits spell is bytes
spelled-bytes : (digits bytes : List ℕ) → decode_of digits ≡ Ok bytes → AreBytes bytes
spelled-bytes digits bytes is k d lt =
    subst (λ (b : ℕ). b < 256) (get_or_default bytes k 0 d lt) ((decode_of-ok digits bytes is).3 k)

-- bytes within a limit
bytes : (make : List ℕ → Order) (digits : List ℕ) (limit : ℕ)
    → ((given : List ℕ) → 1 ≤ length given → length given ≤ limit → AreBytes given
    → InRange (make given))
    → Sized (option_map make (bytes_in digits limit))
bytes make digits limit sized = cases (decode_of digits) refl
  where
    tested : (test : Bool) (given : List ℕ) → (test ≡ true → InRange (make given))
        → Sized (option_map make (cond test (Some given) None))
    tested true given so = one (make given) (so refl)
    tested false given so = none

    cases : (r : Result (List ℕ) FromHexError) → decode_of digits ≡ r → Sized (option_map make (within_limit limit r))
    cases (Ok given) is = tested (nat_le 1 (length given) && nat_le (length given) limit) given
        (λ within.
        let parts = and_parts (nat_le 1 (length given)) (nat_le (length given) limit) within in
        sized given (leb-true 1 (length given) parts.0) (leb-true (length given) limit parts.1)
        (spelled-bytes digits given is))
    cases (Err error) is = none

-- a number of at most six digits
abbrev Numbered : Option ℕ → Type 0
Numbered o = (number : ℕ) → o ≡ Some number → (1 ≤ number) × (number ≤ 999999)

passed : (test : Bool) (a x : ℕ) → cond test (Some a) None ≡ Some x → (test ≡ true) × (a ≡ x)
passed true a x e = (refl, cc)
passed false a x e = absurd cc

numbered : (digits : List ℕ) → Numbered (number_in digits)
numbered digits number e =
    let value = digits_value 10 digits in
    let size = nat_le 1 (length digits) && nat_le (length digits) NUMBER_DIGITS in
    let p = passed ((size && list_all is_ascii_digit digits) && nat_le 1 value) value number e in
    let parts = and_parts (size && list_all is_ascii_digit digits) (nat_le 1 value) p.0 in
    let decimal = and_parts size (list_all is_ascii_digit digits) parts.0 in
    let sizes = and_parts (nat_le 1 (length digits)) (nat_le (length digits) NUMBER_DIGITS) decimal.0 in
    let bound = digits-bound digits decimal.1 (leb-true (length digits) NUMBER_DIGITS sizes.1) in
    subst (λ (n : ℕ). (1 ≤ n) × (n ≤ 999999)) p.1 (leb-true 1 value parts.1, bound)

counted : (make : ℕ → Order) (o : Option ℕ) → ((number : ℕ) → (1 ≤ number) × (number ≤ 999999) → InRange (make number))
    → Numbered o → Sized (option_map make o)
counted make (Some number) sized range = one (make number) (sized number (range number refl))
counted make None sized range = none

-- a mask of 16 bits
abbrev Masked : Option ℕ → Type 0
Masked o = (mask : ℕ) → o ≡ Some mask → mask < 65536

masked : (r : Result (List ℕ) FromHexError) → ((bytes : List ℕ) → r ≡ Ok bytes → IsBytes bytes) → Masked (mask_by r)
masked (Ok []) all mask e = absurd cc
masked (Ok (high ∷ [])) all mask e = absurd cc
masked (Ok (high ∷ low ∷ [])) all mask e =
    let here = all (high ∷ low ∷ []) refl in
    let below : high < 256 = here 0 in
    let behind : low < 256 = here 1 in
    let whole : 256 * high + low ≡ mask = cc in
    omega (arith, below, behind, whole)
masked (Ok (high ∷ low ∷ byte ∷ bytes)) all mask e = absurd cc
masked (Err error) all mask e = absurd cc

cut : (number mask : Option ℕ) → Numbered number → Masked mask → Sized (cut_by number mask)
cut (Some number) (Some mask) range small = one (Cut number mask) (range number refl, small mask refl)
cut (Some number) None range small = none
cut None (Some mask) range small = none
cut None None range small = none

pub order_of-in_range : (line : List ℕ) (order : Order) → order_of line ≡ Some order
    → IsOrderSized order × IsOrderOfBytes order
unfolding order_of
order_of-in_range line =
    either _ None _ none (
    either _ (Some Nothing) _ (one Nothing (tt, tt)) (
    either _ (Some On) _ (one On (tt, tt)) (
    either _ (Some Off) _ (one Off (tt, tt)) (
    either _ (Some Free) _ (one Free (tt, tt)) (
    either _ _ _ (bytes Apdu (drop 5 line) COMMAND_LIMIT (λ given some most all. ((some, most), all))) (
    either _ _ _ (bytes Block (drop 6 line) BLOCK_LIMIT (λ given some most all. ((some, most), all))) (
    either _ _ _ (cut_line (drop 4 line)) (
    either _ _ _ (counted Lose (number_in (drop 5 line)) (λ number range. (range, tt)) (numbered (drop 5 line))) (
    either _ _ None
    (counted Garble (number_in (drop 7 line)) (λ number range. (range, tt)) (numbered (drop 7 line))) none)))))))))
  where
    cut_line : (words : List ℕ) → Sized (cut_in words)
    cut_line words =
        let digits = length words - 5 in
        let mask = drop (digits + 1) words in
        either _ _ None
        (cut _ _ (numbered (take digits words))
        (masked (decode_of mask) (λ bytes is. (decode_of-ok mask bytes is).3))) none
