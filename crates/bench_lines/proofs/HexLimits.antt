-- What hexadecimal digits spell, outside the limit.
use Rattle.std.proofs.Common.{◌≡◌, ◌<◌, ◌*◌, ◌/◌, ◌&&◌, ◌⊎◌, ℕ, Bool, true, false, cond, nat_le, List, length}
use Rattle.std.proofs.Common.{Option, Some, None, Result, Ok, Err, refl, ◌∙◌, ap, arith, inl, inr, ⊎_elim}
use Rattle.std.proofs.lemmas.Bool.{lt-leb}
use Rattle.hex.specs.Hex.{decode_of}
use Rattle.hex.specs.declared.error.FromHexError.{FromHexError}
use Rattle.hex.proofs.HexLemmas.{decode_of-ok}
use Rattle.bench_lines.specs.Orders.{bytes_in, within_limit}

abbrev nothing : Option (List ℕ)
nothing = None

-- bytes outside the limit
outside : (limit : ℕ) (bytes : List ℕ) → (length bytes < 1) ⊎ (limit < length bytes)
    → within_limit limit (Ok bytes) ≡ None
outside limit bytes (inl none) =
    ap (λ (b : Bool). cond (b && nat_le (length bytes) limit) (Some bytes) None) (lt-leb 1 (length bytes) none)
outside limit bytes (inr many) =
    let over : nat_le (length bytes) limit ≡ false = lt-leb (length bytes) limit many in
    ap (λ (b : Bool). cond (nat_le 1 (length bytes) && b) (Some bytes) None) over ∙ never (nat_le 1 (length bytes))
  where
    never : (b : Bool) → cond (b && false) (Some bytes) None ≡ nothing
    never true = refl
    never false = refl

pub bytes_in-outside : (digits : List ℕ) (limit : ℕ) → (length digits / 2 < 1) ⊎ (limit < length digits / 2)
    → bytes_in digits limit ≡ None
bytes_in-outside digits limit apart = cases (decode_of digits) refl
  where
    cases : (r : Result (List ℕ) FromHexError) → decode_of digits ≡ r → within_limit limit r ≡ None
    cases (Ok bytes) is =
        let twice : length digits ≡ 2 * length bytes = (decode_of-ok digits bytes is).2 in
        let half : length digits / 2 ≡ length bytes = omega arith in
        outside limit bytes (⊎_elim (λ few. inl (omega arith)) (λ many. inr (omega arith)) apart)
    cases (Err error) is = refl
