-- Laws of small sectors of units: where those of the steps begin, slots do.
use Rattle.std.specs.Prelude.{◌≡◌, ◌<◌, ◌≤◌, ◌+◌, ◌-◌, ◌*◌, ℕ, Bool, true, false, nat_eq, if◌then◌else◌}
use Rattle.std.proofs.Common.{arith}
use Rattle.flash_device.specs.FlashBlocks.{area_size, steps_of}
use Rattle.flash_device.specs.laws.Rising.{rises_to}
use Rattle.flash_area.specs.Spares.{spare_in, spare_sector}
use Rattle.sector_moves.specs.SectorSpares.{spare_slot}
use Rattle.program_units.specs.UnitFrames.{frame_start}
use Rattle.program_units.specs.laws.UnitPlaces.{start_low, start_middle}

module _ (slots sectors pages lead : ℕ) (first : ℕ → ℕ) (rise : (s : ℕ) → first s ≤ first (s + 1))
    (none : first 0 ≡ 0) (second : first sectors ≡ slots + 1)
    (left : (turn : ℕ) → first (spare_sector sectors turn + steps_of pages) - first (spare_sector sectors turn) + lead
    < slots) where
  step_begins : (turn n : ℕ) → n ≤ steps_of pages → frame_start slots (first (spare_sector sectors turn + n))
      ≡ spare_in slots turn + 20 * (first (spare_sector sectors turn + n) - first (spare_sector sectors turn))
  step_begins turn n le = by (nat_eq turn 0) (left turn)
    where
      by : (b : Bool)
          → first ((if b then sectors else 0) + steps_of pages) - first (if b then sectors else 0) + lead < slots
          → frame_start slots (first ((if b then sectors else 0) + n)) ≡ (if b then area_size slots else 0)
          + 20 * (first ((if b then sectors else 0) + n) - first (if b then sectors else 0))
      by true lt =
          let up = rises_to first rise (sectors + n) (sectors + steps_of pages) (omega (arith, le)) in
          let from = rises_to first rise sectors (sectors + n) (omega arith) in
          let e = start_middle slots (first (sectors + n)) (omega (arith, from, second))
          (omega (arith, up, lt, second)) in
          omega (arith, e, from, second)
      by false lt =
          let up = rises_to first rise (0 + n) (0 + steps_of pages) (omega (arith, le)) in
          let e = start_low slots (first (0 + n)) (omega (arith, up, lt, none)) in
          omega (arith, e, none)

  -- a sector that has so many frames holds as many slots
  pub units_hold : (count turn n : ℕ) → n < steps_of pages
      → first (spare_sector sectors turn + n) + count ≤ first (spare_sector sectors turn + (n + 1))
      → frame_start slots (first (spare_sector sectors turn + n)) + 20 * count
      ≤ frame_start slots (first (spare_sector sectors turn + (n + 1)))
  units_hold count turn n lt hold =
      let this = step_begins turn n (omega (arith, lt)) in
      let next = step_begins turn (n + 1) (omega (arith, lt)) in
      let from = rises_to first rise (spare_sector sectors turn) (spare_sector sectors turn + n) (omega arith) in
      omega (arith, this, next, from, hold)

  -- the sectors of the steps end where slots are left
  pub units_left : (turn : ℕ)
      → spare_slot slots sectors (λ s. frame_start slots (first s)) turn (steps_of pages) + lead < slots
  units_left turn =
      let this = step_begins turn (steps_of pages) (omega arith) in
      let lt = left turn in
      omega (arith, this, lt)
