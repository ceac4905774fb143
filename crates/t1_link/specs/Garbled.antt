-- Garbled blocks.
use Rattle.std.specs.Prelude.{ℕ, bit_xor, List, [], ◌∷◌}

-- these bytes with bit 1 of the last one inverted
abbrev pub last_bit_turned : List ℕ → List ℕ
last_bit_turned [] = []
last_bit_turned (last ∷ []) = bit_xor last 1 ∷ []
last_bit_turned (byte ∷ next ∷ bytes) = byte ∷ last_bit_turned (next ∷ bytes)
