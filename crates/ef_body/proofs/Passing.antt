-- The places of a record where a text doesn't begin, as another byte is there.
use Rattle.std.proofs.Common.{refl, sym, ◌∙◌, ap, arith, inl, inr, get_or-drop}
use Rattle.std.proofs.lemmas.Bool.Decides.{eqb_tells}
use Rattle.std.proofs.lemmas.List.{drop_more}
use Rattle.std.specs.Prelude.{◌≡◌, ◌<◌, ◌≤◌, ◌+◌, ◌-◌, ◌==◌, ◌&&◌, ℕ, Bool}
use Rattle.std.specs.Prelude.{true, false, List, [], ◌∷◌, length, take, drop}
use Rattle.std.specs.Prelude.{slice_get, slice_index, nat_eq, Some}
use Rattle.std.specs.Cmp.Lexicographic.{pointwise}
use Rattle.std.specs.List.{starts_with}

same_number : (n : ℕ) → (n == n) ≡ true
same_number n = elim (eqb_tells n n) [ inl same ↦ same.0 | inr differ ↦ absurd (differ.1 refl) ]

other_first : (first byte : ℕ) (rest bytes : List ℕ) → ((byte == first) ≡ true → ⊥)
    → starts_with nat_eq (byte ∷ bytes) (first ∷ rest) ≡ false
other_first first byte rest bytes other = elim (eqb_tells first byte) [
  | inl same ↦ absurd (other (ap (λ (n : ℕ). n == first) (sym same.1) ∙ same_number first))
  | inr differ ↦ ap (λ (b : Bool). b && pointwise nat_eq rest (take (length rest) bytes)) differ.0
]

-- a text doesn't begin where its first byte isn't
passed_by : (text bytes : List ℕ) (first k : ℕ) → slice_get text 0 ≡ Some first → k < length bytes
    → ((slice_index bytes k == first) ≡ true → ⊥) → starts_with nat_eq (drop k bytes) text ≡ false
passed_by [] bytes first k is lt other = cc
passed_by (byte ∷ rest) bytes first k is lt other =
    let same : byte ≡ first = cc in
    ap (λ (l : List ℕ). starts_with nat_eq l (byte ∷ rest)) (drop_more bytes k 0 lt)
    ∙ other_first byte (slice_index bytes k) rest (drop (k + 1) bytes)
    (λ holds. other (ap (λ (n : ℕ). slice_index bytes k == n) (sym same) ∙ holds))

-- so it doesn't begin before the first place with that byte
pub passed_on : (text bytes hay : List ℕ) (first from size : ℕ) → hay ≡ drop from bytes → slice_get text 0 ≡ Some first
    → ((j : ℕ) → j < size → (slice_index hay j == first) ≡ true → ⊥) → from + size ≤ length bytes
    → (k : ℕ) → from ≤ k → k < from + size → starts_with nat_eq (drop k bytes) text ≡ false
passed_on text bytes hay first from size is head none within k low lt =
    let place : from + (k - from) ≡ k = omega (arith, low) in
    let byte : slice_index hay (k - from) ≡ slice_index bytes k =
    ap (λ (l : List ℕ). slice_index l (k - from)) is ∙ get_or-drop from bytes (k - from) 0
    ∙ ap (slice_index bytes) place in
    passed_by text bytes first k head (omega (arith, lt, within))
    (λ same. none (k - from) (omega (arith, low, lt)) (ap (λ (n : ℕ). n == first) byte ∙ same))
