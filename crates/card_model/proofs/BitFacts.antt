-- Bits of an access mode byte.
use Rattle.std.proofs.Common.{ℕ, Option, Some, None, option_map, inl, inr, nat_lt, ◌≡◌, ◌*◌, ◌^◌, ◌<◌, ◌==◌, bit_and}
use Rattle.std.proofs.Common.{refl, ap, ◌∙◌, arith}
use Rattle.std.specs.Int.{bit_at}
use Rattle.std.specs.Prelude.{IfSome, IsSome, ◌↔◌, if◌then◌else◌}
use Rattle.std.proofs.lemmas.Bool.{cases_lt, le-ltb, lt-ltb}
use Rattle.std.proofs.lemmas.Nat.Bits.{and_pow, bit_at-lt}
use Rattle.std.proofs.lemmas.Nat.{pow_pos, and_mask}
use Rattle.std.proofs.lemmas.Bool.Decides.{nat_tests}
use Rattle.card_model.specs.declared.access_mode.AccessMode.{AccessMode}
use Rattle.card_model.specs.Access.{mode_byte}

-- a bit is 0 or 1, and times a number above 0 it is that number only where it is 1
pub one_times : (b n : ℕ) → b < 2 → 0 < n → (b * n == n) ≡ (b == 1)
one_times b n lt above = grind (arith, nat_tests)

-- a byte has all of one bit where that bit is 1
pub has_bit : (mode k : ℕ) → (bit_and mode (2 ^ k) == 2 ^ k) ≡ (bit_at mode k == 1)
has_bit mode k = ap (λ (x : ℕ). x == 2 ^ k) (and_pow mode k)
    ∙ one_times (bit_at mode k) (2 ^ k) (bit_at-lt mode k) (pow_pos k)

-- the bits of a number that has all of its bits among the seven lower ones are those of a number below 128
low_bits : (b : ℕ) → b < 128 → bit_and b 127 ≡ b
low_bits b lt = let h = and_mask b 7 in h ∙ omega arith

pub from_known : (o : Option AccessMode) (b : ℕ) → IfSome o (λ f. mode_byte f ≡ b) → IsSome o ↔ (bit_and b 127 ≡ b)
    → option_map mode_byte o ≡ (if nat_lt b 128 then Some b else None)
from_known None b value known =
    elim (cases_lt b 128) [
      | inl lt ↦ let h = known.1 (low_bits b lt) in absurd cc
      | inr le ↦ rw (le-ltb b 128 le) refl
    ]
from_known (Some f) b value known =
    let h = known.0 refl in
    let low = and_mask b 7 in
    let lt : b < 128 = omega arith in
    rw (lt-ltb b 128 lt) (ap (λ (x : ℕ). Some x) value)
