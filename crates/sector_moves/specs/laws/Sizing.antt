-- Laws of the sizes of sectors.
use Rattle.std.specs.Prelude.{◌≡◌, ◌<◌, ◌≤◌, ◌+◌, ◌*◌, ℕ}
use Rattle.std.proofs.Common.{arith}
use Rattle.flash_device.specs.FlashBlocks.{area_size, steps_of, witness_start}
use Rattle.flash_device.specs.FlashLogs.{slot_of}
use Rattle.flash_device.specs.declared.layout.TheConstants.{STEP_PAGES}
use Rattle.flash_device.specs.laws.Rising.{rises_to}
use Rattle.flash_area.specs.Spares.{spare_in, spare_sector}
use Rattle.flash_area.specs.laws.Sectors.{spare_first, spare_end}
use Rattle.sector_moves.specs.SectorSpares.{sector_lead, slots_before, slot_from, spare_slot, spare_slots}

-- Slots are those before a boundary, or behind it.
module _ (start : ℕ → ℕ) (base sector s : ℕ) where
  -- a slot that ends before the boundary
  pub ends_before : s < slots_before start base sector → slot_of base s + 20 ≤ start sector
  ends_before lt = omega (arith, lt)

  -- another one has its last word behind it
  pub last_behind : slots_before start base sector ≤ s → start sector ≤ slot_of base s + 19
  last_behind ge = omega (arith, ge)

  -- a slot that begins behind it
  pub begins_behind : slot_from start base sector ≤ s → start sector ≤ slot_of base s
  begins_behind ge = omega (arith, ge)

module _ (start : ℕ → ℕ) (slots sectors : ℕ) (rise : (s : ℕ) → start s ≤ start (s + 1)) (first : start 0 ≡ 0)
    (second : start sectors ≡ area_size slots) (third : start (2 * sectors) ≡ witness_start slots) (turn : ℕ) where
  -- a sector of the other area lies in it
  pub sector_low : (n : ℕ) → spare_in slots turn ≤ start (spare_sector sectors turn + n)
  sector_low n =
      let begins = spare_first start slots sectors first second third turn in
      let up = rises_to start rise (spare_sector sectors turn) (spare_sector sectors turn + n) (omega arith) in
      omega (arith, begins, up)

  pub sector_high : (n : ℕ) → n ≤ sectors
      → start (spare_sector sectors turn + n) ≤ spare_in slots turn + area_size slots
  sector_high n le =
      let ends = spare_end start slots sectors first second third turn in
      let up = rises_to start rise (spare_sector sectors turn + n) (spare_sector sectors turn + sectors)
      (omega (arith, le)) in
      omega (arith, ends, up)

  -- a sector of a step holds the slots of its pages, and one more
  pub slots_held : (n : ℕ)
      → start (spare_sector sectors turn + n) + 20 * (STEP_PAGES + 2) ≤ start (spare_sector sectors turn + (n + 1))
      → spare_slot slots sectors start turn n + STEP_PAGES + 1 ≤ spare_slots slots sectors start turn (n + 1)
  slots_held n hold = let low = sector_low n in omega (arith, hold, low)

  -- the sectors of the steps end where slots of the area are left
  pub steps_end : (pages n : ℕ) → n ≤ steps_of pages
      → spare_slot slots sectors start turn (steps_of pages) + sector_lead sectors < slots
      → start (spare_sector sectors turn + n) ≤ spare_in slots turn + 20 * slots
  steps_end pages n le left =
      let up = rises_to start rise (spare_sector sectors turn + n) (spare_sector sectors turn + steps_of pages)
      (omega (arith, le)) in
      omega (arith, up, left)
