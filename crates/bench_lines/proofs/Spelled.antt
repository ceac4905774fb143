-- The line that spells an order asks for it.
use Rattle.std.specs.Prelude.{◌≡◌, ◌≤◌, ◌<◌, ◌+◌, ◌-◌, ◌*◌, ◌/◌, ◌%◌, ◌==◌, ◌&&◌, ◌^◌, ℕ, suc, Bool, true, false}
use Rattle.std.specs.Prelude.{nat_le, nat_lt, if◌then◌else◌}
use Rattle.std.specs.Prelude.{List, [], ◌∷◌, ◌++◌, length, take, drop, slice_index, codes, Option, Some, None, Ok}
use Rattle.std.specs.Prelude.{option_map, refl}
use Rattle.std.specs.Char.{is_ascii_digit}
use Rattle.std.specs.Fmt.{decimal}
use Rattle.std.specs.List.{list_all}
use Rattle.std.specs.Str.Parse.{digits_value}
use Rattle.std.proofs.Common.{arith, rules, ap, ap₂, ◌∙◌}
use Rattle.std.proofs.lemmas.Bool.{le-leb, le-ltb, ne_eqb}
use Rattle.std.proofs.lemmas.Fmt.{decimal_nonempty, digits_decimal, digits_value-decimal, length-decimal-le}
use Rattle.std.proofs.lemmas.List.{length-append}
use Rattle.std.proofs.lemmas.List.Elements.{All-cons, All-nil}
use Rattle.std.proofs.lemmas.Str.Parse.{IsNumeralModel, numerals_by_value}
use Rattle.std.proofs.Math.Nat.{div-add-mod}
use Rattle.card_model.specs.Requests.{AreBytes}
use Rattle.card_model.specs.laws.ByteLaws.{byte-at}
use Rattle.hex.specs.Hex.{decode_of, encode_with, lower_digits, upper_digits}
use Rattle.hex.proofs.HexLemmas.{IsDigits, IsDigits-lower_digits, IsDigits-upper_digits, decode_of-even}
use Rattle.hex.proofs.HexLemmas.{decode_pairs-encode_with, length-encode_with}
use Rattle.bench_lines.specs.Orders.{Nothing, On, Off, Free, Apdu, Block, Cut, Lose, Garble}
use Rattle.bench_lines.specs.Orders.{bytes_in, cut_by, cut_in, mask_by, number_in, order_of}
use Rattle.bench_lines.specs.Spellings.{SpellingLaw}

-- bytes
read_back : (digits bytes : List ℕ) → IsDigits digits → AreBytes bytes → decode_of (encode_with digits bytes) ≡ Ok bytes
read_back digits bytes table all =
    let twice : length (encode_with digits bytes) ≡ 2 * length bytes = length-encode_with digits bytes in
    let even : length (encode_with digits bytes) % 2 ≡ 0 = omega (arith, twice) in
    decode_of-even (encode_with digits bytes) even
    ∙ decode_pairs-encode_with digits table 0 bytes (λ i. byte-at bytes i all)

bytes-spelled : (digits : List ℕ) (bytes : List ℕ) (limit : ℕ) → IsDigits digits → AreBytes bytes → 1 ≤ length bytes
    → length bytes ≤ limit → bytes_in (encode_with digits bytes) limit ≡ Some bytes
bytes-spelled digits bytes limit table all some most =
    simp (read_back digits bytes table all, le-leb 1 (length bytes) some, le-leb (length bytes) limit most) refl

-- numbers
own : IsNumeralModel (λ digits. list_all is_ascii_digit digits ≡ true) (digits_value 10)
own = numerals_by_value _ (search rules)

small-number : (n : ℕ) → n ≤ 999999 → n < 2 ^ 64
small-number n most = let big : 999999 < 2 ^ 64 = omega arith in omega (arith, most, big)

number-spelled : (n : ℕ) → 1 ≤ n → n ≤ 999999 → number_in (decimal n) ≡ Some n
number-spelled n some most =
    let small = small-number n most in
    let digits : list_all is_ascii_digit (decimal n) ≡ true = digits_decimal own n small in
    let value : digits_value 10 (decimal n) ≡ n = digits_value-decimal own n small in
    let million : n < 10 ^ 6 = omega (arith, most) in
    let short : length (decimal n) ≤ 6 = length-decimal-le 6 n (omega arith) million small in
    let there : 1 ≤ length (decimal n) = decimal_nonempty n small in
    simp (digits, value, le-leb 1 (length (decimal n)) there, le-leb (length (decimal n)) 6 short, le-leb 1 n some) refl

-- a cut: its number, a space, and four digits
front-of : (ds rest : List ℕ) → take (length ds) (ds ++ rest) ≡ ds
front-of [] rest = refl
front-of (d ∷ ds) rest = ap (λ (xs : List ℕ). d ∷ xs) (front-of ds rest)

rest-of : (ds : List ℕ) (x : ℕ) (rest : List ℕ) → drop (length ds + 1) (ds ++ x ∷ rest) ≡ rest
rest-of [] x rest = refl
rest-of (d ∷ ds) x rest = ap (λ (n : ℕ). drop n (d ∷ ds ++ x ∷ rest))
    (let e : length (d ∷ ds) + 1 ≡ suc (length ds + 1) = omega arith in e) ∙ rest-of ds x rest

space-at : (ds : List ℕ) (x : ℕ) (rest : List ℕ) → slice_index (ds ++ x ∷ rest) (length ds) ≡ x
space-at [] x rest = refl
space-at (d ∷ ds) x rest = space-at ds x rest

cut-words : (ds : List ℕ) (a b c d : ℕ)
    → cut_in (ds ++ 32 ∷ a ∷ b ∷ c ∷ d ∷ []) ≡ cut_by (number_in ds) (mask_by (decode_of (a ∷ b ∷ c ∷ d ∷ [])))
cut-words ds a b c d =
    let words : List ℕ = ds ++ 32 ∷ a ∷ b ∷ c ∷ d ∷ [] in
    let whole : length words ≡ length ds + 5 = length-append ds (32 ∷ a ∷ b ∷ c ∷ d ∷ []) in
    let size : length words - 5 ≡ length ds = omega (arith, whole) in
    by (nat_le 5 (length words)) (length words - 5) (le-leb 5 (length words) (omega (arith, whole))) size
  where
    by : (test : Bool) (n : ℕ) → test ≡ true → n ≡ length ds
        → (if test && (slice_index (ds ++ 32 ∷ a ∷ b ∷ c ∷ d ∷ []) n == 32)
        then cut_by (number_in (take n (ds ++ 32 ∷ a ∷ b ∷ c ∷ d ∷ [])))
        (mask_by (decode_of (drop (n + 1) (ds ++ 32 ∷ a ∷ b ∷ c ∷ d ∷ []))))
        else None)
        ≡ cut_by (number_in ds) (mask_by (decode_of (a ∷ b ∷ c ∷ d ∷ [])))
    by test n long size =
        rw (
          long,
          size,
          space-at ds 32 (a ∷ b ∷ c ∷ d ∷ []),
          front-of ds (32 ∷ a ∷ b ∷ c ∷ d ∷ []),
          rest-of ds 32 (a ∷ b ∷ c ∷ d ∷ []),
        ) refl

mask-bytes : (mask : ℕ) → mask < 65536 → AreBytes (mask / 256 ∷ mask % 256 ∷ [])
mask-bytes mask small =
    let high : mask / 256 < 256 = omega (arith, small) in
    let low : mask % 256 < 256 = omega arith in
    All-cons (λ number. number < 256) (mask / 256) (mask % 256 ∷ []) high
    (All-cons (λ number. number < 256) (mask % 256) [] low (All-nil (λ number. number < 256)))

cut-spelled : (digits : List ℕ) (number mask : ℕ) → IsDigits digits → 1 ≤ number → number ≤ 999999 → mask < 65536
    → cut_in (decimal number ++ 32 ∷ encode_with digits (mask / 256 ∷ mask % 256 ∷ [])) ≡ Some (Cut number mask)
unfolding encode_with
cut-spelled digits number mask table some most small =
    let back : decode_of (encode_with digits (mask / 256 ∷ mask % 256 ∷ [])) ≡ Ok (mask / 256 ∷ mask % 256 ∷ []) =
    read_back digits (mask / 256 ∷ mask % 256 ∷ []) table (mask-bytes mask small) in
    cut-words (decimal number) _ _ _ _
    ∙ ap₂ (λ (n : Option ℕ) (m : Option ℕ). cut_by n m) (number-spelled number some most)
    (ap mask_by back ∙ ap (λ (n : ℕ). Some n) (div-add-mod mask 256))

-- A line of a word and what follows it is neither too long nor empty.
line-fits : (word rest : List ℕ) → 1 ≤ length word → length word + length rest ≤ 1024
    → (nat_lt 1024 (length (word ++ rest)) ≡ false) × ((length (word ++ rest) == 0) ≡ false)
line-fits word rest some most =
    let n = length-append word rest in (
      le-ltb 1024 (length (word ++ rest)) (omega (arith, n, most)),
      ne_eqb (length (word ++ rest)) 0 (λ e. absurd (omega (arith, e, n, some))),
    )

hex-size : (digits bytes : List ℕ) (most : ℕ) → length bytes ≤ most → length (encode_with digits bytes) ≤ 2 * most
hex-size digits bytes most few = let n = length-encode_with digits bytes in omega (arith, n, few)

decimal-size : (n : ℕ) → n ≤ 999999 → length (decimal n) ≤ 6
decimal-size n most = length-decimal-le 6 n (omega arith)
    (let million : n < 10 ^ 6 = omega (arith, most) in million) (small-number n most)

cut-size : (digits : List ℕ) (number high low : ℕ) → number ≤ 999999
    → length (decimal number ++ 32 ∷ encode_with digits (high ∷ low ∷ [])) ≤ 11
cut-size digits number high low most =
    let n = length-append (decimal number) (32 ∷ encode_with digits (high ∷ low ∷ [])) in
    let four = length-encode_with digits (high ∷ low ∷ []) in
    let six = decimal-size number most in
    omega (arith, n, four, six)

pub spelled : (digits : List ℕ) → IsDigits digits → SpellingLaw digits
unfolding order_of
spelled digits table Nothing sized bytes = refl
spelled digits table On sized bytes = refl
spelled digits table Off sized bytes = refl
spelled digits table Free sized bytes = refl
spelled digits table (Apdu command) sized bytes =
    let size = hex-size digits command 261 sized.1 in
    let fits = line-fits (codes "apdu ") (encode_with digits command) (omega arith) (omega (arith, size)) in
    rw (fits.0, fits.1)
    (ap (λ (o : Option (List ℕ)). option_map Apdu o) (bytes-spelled digits command 261 table bytes sized.0 sized.1))
spelled digits table (Block block) sized bytes =
    let size = hex-size digits block 300 sized.1 in
    let fits = line-fits (codes "block ") (encode_with digits block) (omega arith) (omega (arith, size)) in
    rw (fits.0, fits.1)
    (ap (λ (o : Option (List ℕ)). option_map Block o) (bytes-spelled digits block 300 table bytes sized.0 sized.1))
spelled digits table (Cut number mask) sized bytes =
    let size = cut-size digits number (mask / 256) (mask % 256) sized.1 in
    let fits = line-fits (codes "cut ") (decimal number ++ 32 ∷ encode_with digits (mask / 256 ∷ mask % 256 ∷ []))
    (omega arith) (omega (arith, size)) in
    rw (fits.0, fits.1) (cut-spelled digits number mask table sized.0 sized.1 bytes)
spelled digits table (Lose number) sized bytes =
    let size = decimal-size number sized.1 in
    let fits = line-fits (codes "lose ") (decimal number) (omega arith) (omega (arith, size)) in
    rw (fits.0, fits.1) (ap (λ (o : Option ℕ). option_map Lose o) (number-spelled number sized.0 sized.1))
spelled digits table (Garble number) sized bytes =
    let size = decimal-size number sized.1 in
    let fits = line-fits (codes "garble ") (decimal number) (omega arith) (omega (arith, size)) in
    rw (fits.0, fits.1) (ap (λ (o : Option ℕ). option_map Garble o) (number-spelled number sized.0 sized.1))

pub spelled-upper : SpellingLaw upper_digits
spelled-upper = spelled upper_digits IsDigits-upper_digits

pub spelled-lower : SpellingLaw lower_digits
spelled-lower = spelled lower_digits IsDigits-lower_digits
