-- Hexadecimal digits, and bytes as their text.
use Rattle.std.proofs.Common.{◌≡◌, ◌<◌, ◌≤◌, ◌+◌, ◌-◌, ◌*◌, ◌/◌, ◌%◌, ◌++◌, ℕ}
use Rattle.std.proofs.Common.{zero, suc, List, [], ◌∷◌, length, drop, take}
use Rattle.std.proofs.Common.{slice_index, slice_set, refl, sym, ◌∙◌, ap, arith}
use Rattle.std.proofs.lemmas.List.{append_assoc, append-nil, drop_all, take_more_set}
use Rattle.hex.specs.Hex.{encode_upper, encode_with, upper_digits}
use Rattle.hex.proofs.Pairs.{encode_with-drop, take-two_writes}

-- the digit of a number below ten
pub decimal_digit : (n : ℕ) → n < 10 → 48 + n ≡ slice_index upper_digits n
decimal_digit zero low = refl
decimal_digit (suc zero) low = refl
decimal_digit (suc (suc zero)) low = refl
decimal_digit (suc (suc (suc zero))) low = refl
decimal_digit (suc (suc (suc (suc zero)))) low = refl
decimal_digit (suc (suc (suc (suc (suc zero))))) low = refl
decimal_digit (suc (suc (suc (suc (suc (suc zero)))))) low = refl
decimal_digit (suc (suc (suc (suc (suc (suc (suc zero))))))) low = refl
decimal_digit (suc (suc (suc (suc (suc (suc (suc (suc zero)))))))) low = refl
decimal_digit (suc (suc (suc (suc (suc (suc (suc (suc (suc zero))))))))) low = refl
decimal_digit (suc (suc (suc (suc (suc (suc (suc (suc (suc (suc n)))))))))) low = absurd (omega (arith, low))

-- the digit of ten and so many more
letter : (k : ℕ) → k < 6 → 65 + k ≡ slice_index upper_digits (10 + k)
letter zero low = refl
letter (suc zero) low = refl
letter (suc (suc zero)) low = refl
letter (suc (suc (suc zero))) low = refl
letter (suc (suc (suc (suc zero)))) low = refl
letter (suc (suc (suc (suc (suc zero))))) low = refl
letter (suc (suc (suc (suc (suc (suc k)))))) low = absurd (omega (arith, low))

pub letter_digit : (n : ℕ) → 10 ≤ n → n < 16 → 65 + (n - 10) ≡ slice_index upper_digits n
letter_digit n high low =
    let sum : 10 + (n - 10) ≡ n = omega (arith, high) in
    letter (n - 10) (omega (arith, high, low)) ∙ ap (slice_index upper_digits) sum

-- the digits of one byte more
pub spelled_more : (text bytes whole : List ℕ) (i x y : ℕ) → i < length bytes → 2 + 2 * i + 1 < length text
    → x ≡ slice_index upper_digits (slice_index bytes i / 16)
    → y ≡ slice_index upper_digits (slice_index bytes i % 16)
    → take (2 + 2 * i) text ++ encode_upper (drop i bytes) ≡ whole
    → take (2 + 2 * (i + 1)) (slice_set (slice_set text (2 + 2 * i) x) (2 + 2 * i + 1) y)
    ++ encode_upper (drop (i + 1) bytes) ≡ whole
spelled_more text bytes whole i x y lt fits ex ey so_far =
    let two : 2 + 2 * (i + 1) ≡ 2 + 2 * i + 2 = omega arith in
    let front = take-two_writes text (2 + 2 * i) x y fits in
    let rest = encode_with-drop upper_digits bytes i lt in
    rw (two, front, append_assoc, ex, ey) (rw rest at so_far)

-- all bytes are spelled, and the line ends
pub spelled_all : (text bytes whole : List ℕ) (i : ℕ) → i ≡ length bytes → 2 + 2 * length bytes < length text
    → take (2 + 2 * i) text ++ encode_upper (drop i bytes) ≡ whole
    → take (2 + 2 * length bytes + 1) (slice_set text (2 + 2 * length bytes) 10) ≡ whole ++ 10 ∷ []
unfolding encode_with
spelled_all text bytes whole i all fits so_far =
    let end : 2 + 2 * length bytes ≡ 2 + 2 * i = omega (arith, all) in
    take_more_set text (2 + 2 * length bytes) 10 fits
    ∙ ap (λ (l : List ℕ). l ++ 10 ∷ [])
    (ap (λ (n : ℕ). take n text) end ∙ sym (append-nil (take (2 + 2 * i) text))
    ∙ ap (λ (l : List ℕ). take (2 + 2 * i) text ++ encode_upper l) (sym (drop_all i bytes (omega (arith, all))))
    ∙ so_far)
