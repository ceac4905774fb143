-- Laws of the sectors of the area that the pages move to.
use Rattle.std.specs.Prelude.{◌≡◌, ◌+◌, ◌*◌, ℕ, Bool, true, false, nat_eq, if◌then◌else◌}
use Rattle.std.proofs.Common.{◌∙◌, ap, arith}
use Rattle.flash_device.specs.FlashBlocks.{area_size, witness_start}
use Rattle.flash_area.specs.Spares.{spare_in, spare_sector}

module _ (start : ℕ → ℕ) (slots sectors : ℕ) (first : start 0 ≡ 0) (second : start sectors ≡ area_size slots)
    (third : start (2 * sectors) ≡ witness_start slots) where
  -- where the other area begins and ends
  pub spare_first : (turn : ℕ) → start (spare_sector sectors turn) ≡ spare_in slots turn
  spare_first turn = by_test (nat_eq turn 0)
    where
      by_test : (b : Bool) → start (if b then sectors else 0) ≡ (if b then area_size slots else 0)
      by_test true = second
      by_test false = first

  pub spare_end : (turn : ℕ) → start (spare_sector sectors turn + sectors) ≡ spare_in slots turn + area_size slots
  spare_end turn = by_test (nat_eq turn 0)
    where
      twice : sectors + sectors ≡ 2 * sectors
      twice = omega arith

      once : 0 + sectors ≡ sectors
      once = omega arith

      by_test : (b : Bool) → start ((if b then sectors else 0) + sectors)
          ≡ (if b then area_size slots else 0) + area_size slots
      by_test true = ap start twice ∙ third
      by_test false = let e : start (0 + sectors) ≡ area_size slots = ap start once ∙ second in e ∙ (omega arith)
