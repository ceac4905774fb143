-- Bytes as identifiers: how many, which, and how large.
use Rattle.std.specs.Prelude.{◌≡◌, ◌<◌, ◌+◌, ◌*◌, ◌/◌, ℕ, zero, suc, List, [], ◌∷◌, length, slice_index}
use Rattle.std.proofs.Common.{arith, refl, ap}
use Rattle.card_model.specs.Requests.{two_bytes, identifiers}

-- two bytes an identifier; a last byte alone is none
pub identifiers_counted : (bytes : List ℕ) → length (identifiers bytes) ≡ length bytes / 2
identifiers_counted [] = refl
identifiers_counted (byte ∷ []) = refl
identifiers_counted (high ∷ low ∷ bytes) =
    let rest = identifiers_counted bytes in
    omega (arith, rest)

-- the identifier at an index
pub identifier_at : (bytes : List ℕ) (i : ℕ) → i < length (identifiers bytes)
    → slice_index (identifiers bytes) i ≡ two_bytes (slice_index bytes (2 * i)) (slice_index bytes (2 * i + 1))
identifier_at [] i lt = omega (arith, lt)
identifier_at (byte ∷ []) i lt = omega (arith, lt)
identifier_at (high ∷ low ∷ bytes) zero lt = refl
identifier_at (high ∷ low ∷ bytes) (suc i) lt =
    let numbers = high ∷ low ∷ bytes in
    let first : slice_index numbers (2 * suc i) ≡ slice_index bytes (2 * i) =
    ap (slice_index numbers) (let same : 2 * suc i ≡ suc (suc (2 * i)) = omega arith in same) in
    let second : slice_index numbers (2 * suc i + 1) ≡ slice_index bytes (2 * i + 1) =
    ap (slice_index numbers) (let same : 2 * suc i + 1 ≡ suc (suc (2 * i + 1)) = omega arith in same) in
    let rest = identifier_at bytes i (let below : i < length (identifiers bytes) = omega (arith, lt) in below) in
    rw first (rw second rest)

-- an identifier's two bytes are there
pub identifier_stands : (bytes : List ℕ) (i : ℕ) → i < length (identifiers bytes) → 2 * i + 1 < length bytes
identifier_stands bytes i lt =
    let counted = identifiers_counted bytes in
    omega (arith, counted, lt)
