-- Laws of small sectors with spare ones: where those of the steps begin, slots do.
use Rattle.std.specs.Prelude.{◌≡◌, ◌<◌, ◌≤◌, ◌+◌, ◌*◌, ℕ, Bool, true, false, nat_eq, if◌then◌else◌}
use Rattle.std.proofs.Common.{arith}
use Rattle.flash_device.specs.FlashBlocks.{area_size}
use Rattle.flash_area.specs.Spares.{spare_in, spare_sector}
use Rattle.sector_moves.specs.SectorSpares.{spare_slot}
use Rattle.spare_sectors.specs.SparePlaces.{TakesLog, part_start}
use Rattle.spare_sectors.specs.laws.SpareParts.{start_a, start_b}

module _ (slots sectors each size spares : ℕ) (takes : TakesLog slots sectors each size spares) where
  -- a sector of the other area
  step_begins : (turn n : ℕ) → n < sectors
      → part_start slots sectors each (spare_sector sectors turn + n) ≡ spare_in slots turn + 20 * (each * n)
  step_begins turn n lt = by (nat_eq turn 0)
    where
      by : (b : Bool) → part_start slots sectors each ((if b then sectors else 0) + n)
          ≡ (if b then area_size slots else 0) + 20 * (each * n)
      by true = start_b slots sectors each size spares takes n lt
      by false = let e = start_a slots sectors each size spares takes (0 + n) (omega (arith, lt)) in omega (arith, e)

  -- it holds its slots
  pub parts_hold : (count turn n : ℕ) → n + 1 < sectors → count ≤ each
      → part_start slots sectors each (spare_sector sectors turn + n) + 20 * count
      ≤ part_start slots sectors each (spare_sector sectors turn + (n + 1))
  parts_hold count turn n lt few =
      let this = step_begins turn n (omega (arith, lt)) in
      let next = step_begins turn (n + 1) lt in
      omega (arith, this, next, few)

  -- so many sectors end where slots are left
  pub parts_left : (lead turn n : ℕ) → n < sectors → each * n + lead < slots
      → spare_slot slots sectors (part_start slots sectors each) turn n + lead < slots
  parts_left lead turn n lt left = let this = step_begins turn n lt in omega (arith, this, left)
