use Rattle.std.proofs.Common.{◌≡◌, ◌<◌, ◌≤◌, ◌+◌, ◌-◌, ◌*◌, ℕ, sym, ap, ap₂, ◌∙◌, arith}
use Rattle.spare_units.specs.SpareFrames.{frame_part}
use Rattle.spare_units.specs.laws.FrameParts.{sector_a, sector_b, sector_w}
use Rattle.spare_units.proofs.spare_frames.sector_with.Goals as goal

pub returns-then-frame-area : goal.returns-then-frame-area
returns-then-frame-area g c =
    let slots = g.D.SpareUnitDevice.SLOTS in
    let ge : 2 * slots + 2 ≤ c.args.frame =
    omega (arith, c.if-frame-area.true, c.SLOTS.ensures, c.from-area.ensures) in
    ap (λ (n : ℕ). 2 * n) c.SECTORS.ensures
    ∙ sym (sector_w g.D.SpareUnitDevice.SLOTS g.D.MapDevice.SECTORS g.D.SpareUnitDevice.SECTOR_FRAMES
    g.D.MapDevice.SPARES g.met.D.SpareUnitDevice.sectors_fit c.args.frame ge)

pub returns-then-frame-area-2 : goal.returns-then-frame-area-2
returns-then-frame-area-2 g c =
    let slots = g.D.SpareUnitDevice.SLOTS in
    let sectors = g.D.MapDevice.SECTORS in
    let each = g.D.SpareUnitDevice.SECTOR_FRAMES in
    let lt : c.args.frame < 2 * slots + 2 =
    omega (arith, c.if-frame-area.false, c.SLOTS.ensures, c.from-area.ensures) in
    let ge : slots + 1 ≤ c.args.frame =
    omega (arith, c.if-frame-area-2.true, c.SLOTS.ensures, c.from-area.ensures) in
    let here : c.args.frame - (c.from-area.result + 1) ≡ c.args.frame - (slots + 1) =
    omega (arith, c.SLOTS.ensures, c.from-area.ensures) in
    ap₂ (λ (a b : ℕ). a + b) c.SECTORS-then-frame-area-2.ensures
    (c.part_of.ensures.is ∙ ap (frame_part sectors each) here)
    ∙ sym (sector_b g.D.SpareUnitDevice.SLOTS g.D.MapDevice.SECTORS g.D.SpareUnitDevice.SECTOR_FRAMES
    g.D.MapDevice.SPARES g.met.D.SpareUnitDevice.sectors_fit c.args.frame ge lt)

pub returns : goal.returns
returns g c =
    let slots = g.D.SpareUnitDevice.SLOTS in
    let lt : c.args.frame < slots + 1 =
    omega (arith, c.if-frame-area-2.false, c.SLOTS.ensures, c.from-area.ensures) in
    c.part_of-2.ensures.is ∙ sym (sector_a g.D.SpareUnitDevice.SLOTS g.D.MapDevice.SECTORS
    g.D.SpareUnitDevice.SECTOR_FRAMES
    g.D.MapDevice.SPARES g.met.D.SpareUnitDevice.sectors_fit c.args.frame lt)
