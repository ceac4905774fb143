-- Laws of small sectors that have whole frames: where those of the steps begin.
use Rattle.std.specs.Prelude.{◌≡◌, ◌<◌, ◌≤◌, ◌+◌, ◌-◌, ◌*◌, ℕ, Bool, true, false, nat_eq, if◌then◌else◌}
use Rattle.std.proofs.Common.{arith}
use Rattle.flash_area.specs.Spares.{spare_sector}
use Rattle.spare_units.specs.SpareFrames.{TakesFrames, sector_frame}
use Rattle.spare_units.specs.laws.FrameParts.{start_a, start_b, start_first, start_second}

module _ (slots sectors each spares : ℕ) (takes : TakesFrames slots sectors each spares) where
  -- the first frame of the other area
  area_begins : (turn : ℕ)
      → sector_frame slots sectors each (spare_sector sectors turn) ≡ (if nat_eq turn 0 then slots + 1 else 0)
  area_begins turn = by (nat_eq turn 0)
    where
      by : (b : Bool) → sector_frame slots sectors each (if b then sectors else 0) ≡ (if b then slots + 1 else 0)
      by true = start_second slots sectors each spares takes
      by false = start_first slots sectors each spares takes

  -- that of one of its sectors
  step_begins : (turn n : ℕ) → n < sectors
      → sector_frame slots sectors each (spare_sector sectors turn + n)
      ≡ (if nat_eq turn 0 then slots + 1 else 0) + each * n
  step_begins turn n lt = by (nat_eq turn 0)
    where
      by : (b : Bool) → sector_frame slots sectors each ((if b then sectors else 0) + n)
          ≡ (if b then slots + 1 else 0) + each * n
      by true = start_b slots sectors each spares takes n lt
      by false = let e = start_a slots sectors each spares takes (0 + n) (omega (arith, lt)) in omega (arith, e)

  -- a sector holds its frames
  pub frames_hold : (count turn n : ℕ) → n + 1 < sectors → count ≤ each
      → sector_frame slots sectors each (spare_sector sectors turn + n) + count
      ≤ sector_frame slots sectors each (spare_sector sectors turn + (n + 1))
  frames_hold count turn n lt few =
      let this = step_begins turn n (omega (arith, lt)) in
      let next = step_begins turn (n + 1) lt in
      omega (arith, this, next, few)

  -- so many sectors end where slots are left
  pub frames_left : (lead turn n : ℕ) → n < sectors → each * n + lead < slots
      → sector_frame slots sectors each (spare_sector sectors turn + n)
      - sector_frame slots sectors each (spare_sector sectors turn) + lead < slots
  frames_left lead turn n lt left =
      let first = area_begins turn in
      let this = step_begins turn n lt in
      omega (arith, first, this, left)
