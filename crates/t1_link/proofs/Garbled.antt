-- Where a garbled block differs.
use Rattle.std.specs.Prelude.{◌≡◌, ◌+◌, ℕ, zero, suc, bit_xor, List, [], ◌∷◌, length, slice_index, slice_set, refl}
use Rattle.std.proofs.Common.{ap, arith}
use Rattle.t1_link.specs.Garbled.{last_bit_turned}

-- the last byte is turned where it stands
pub last_bit_turned_at : (bytes : List ℕ) (i : ℕ) → i + 1 ≡ length bytes
    → last_bit_turned bytes ≡ slice_set bytes i (bit_xor (slice_index bytes i) 1)
last_bit_turned_at [] i e = absurd (omega arith)
last_bit_turned_at (last ∷ []) zero e = refl
last_bit_turned_at (last ∷ []) (suc i) e = absurd (omega arith)
last_bit_turned_at (byte ∷ next ∷ bytes) zero e = absurd (omega arith)
last_bit_turned_at (byte ∷ next ∷ bytes) (suc i) e =
    let one : i + 1 ≡ length (next ∷ bytes) = omega arith in
    ap (λ (rest : List ℕ). byte ∷ rest) (last_bit_turned_at (next ∷ bytes) i one)
