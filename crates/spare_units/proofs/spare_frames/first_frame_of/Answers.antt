use Rattle.std.proofs.Common.{◌≡◌, ◌<◌, ◌+◌, ◌-◌, ◌*◌, ℕ, sym, ap, ap₂, ◌∙◌, arith}
use Rattle.spare_units.specs.SpareFrames.{sector_frame}
use Rattle.spare_units.specs.laws.FrameParts.{start_a, start_b, start_end, start_w}
use Rattle.spare_units.proofs.spare_frames.first_frame_of.Goals as goal

pub returns-then-sector-SECTORS : goal.returns-then-sector-SECTORS
returns-then-sector-SECTORS g c =
    let lt : c.args.sector < g.D.MapDevice.SECTORS = omega (arith, c.if-sector-SECTORS.true, c.SECTORS.ensures) in
    ap₂ (λ (a b : ℕ). a * b) (c.from-each.ensures ∙ c.SECTOR_FRAMES.ensures) c.from.ensures
    ∙ sym (start_a g.D.SpareUnitDevice.SLOTS g.D.MapDevice.SECTORS g.D.SpareUnitDevice.SECTOR_FRAMES
    g.D.MapDevice.SPARES g.met.D.SpareUnitDevice.sectors_fit c.args.sector lt)

pub returns-then-sector-SECTORS-2 : goal.returns-then-sector-SECTORS-2
returns-then-sector-SECTORS-2 g c =
    let slots = g.D.SpareUnitDevice.SLOTS in
    let sectors = g.D.MapDevice.SECTORS in
    let each = g.D.SpareUnitDevice.SECTOR_FRAMES in
    let part = c.args.sector - sectors in
    let lt : part < sectors = omega (
      arith,
      c.if-sector-SECTORS.false,
      c.SECTORS.ensures,
      c.if-sector-SECTORS-2.true,
      c.SECTORS-else-sector-SECTORS.ensures,
    ) in
    let is : sectors + part ≡ c.args.sector = omega (arith, c.if-sector-SECTORS.false, c.SECTORS.ensures) in
    let here : c.from-each.result * c.from-then-sector-SECTORS-2.result ≡ each * part =
    ap₂ (λ (a b : ℕ). a * b) (c.from-each.ensures ∙ c.SECTOR_FRAMES.ensures)
    (c.from-then-sector-SECTORS-2.ensures
    ∙ ap (λ (n : ℕ). c.args.sector - n) c.SECTORS-then-sector-SECTORS-2.ensures) in
    let start = ap (sector_frame slots sectors each) (sym is)
    ∙ start_b g.D.SpareUnitDevice.SLOTS g.D.MapDevice.SECTORS g.D.SpareUnitDevice.SECTOR_FRAMES
    g.D.MapDevice.SPARES g.met.D.SpareUnitDevice.sectors_fit part lt in
    omega (arith, start, here, c.SLOTS.ensures, c.from-area.ensures)

pub returns-then-sector-SECTORS-3 : goal.returns-then-sector-SECTORS-3
returns-then-sector-SECTORS-3 g c =
    let slots = g.D.SpareUnitDevice.SLOTS in
    let sectors = g.D.MapDevice.SECTORS in
    let each = g.D.SpareUnitDevice.SECTOR_FRAMES in
    let is : c.args.sector ≡ 2 * sectors = omega (
      arith,
      c.if-sector-SECTORS-3.true,
      c.SECTORS-else-sector-SECTORS-2.ensures,
    ) in
    let start = ap (sector_frame slots sectors each) is
    ∙ start_w g.D.SpareUnitDevice.SLOTS g.D.MapDevice.SECTORS g.D.SpareUnitDevice.SECTOR_FRAMES
    g.D.MapDevice.SPARES g.met.D.SpareUnitDevice.sectors_fit in
    omega (arith, start, c.SLOTS.ensures, c.from-area.ensures)

pub returns-else-sector-SECTORS-3 : goal.returns-else-sector-SECTORS-3
returns-else-sector-SECTORS-3 g c =
    let past : 2 * g.D.MapDevice.SECTORS < c.args.sector = omega (
      arith,
      c.if-sector-SECTORS-2.false,
      c.SECTORS-else-sector-SECTORS.ensures,
      c.if-sector-SECTORS-3.false,
      c.SECTORS-else-sector-SECTORS-2.ensures,
    ) in
    let start = start_end g.D.SpareUnitDevice.SLOTS g.D.MapDevice.SECTORS g.D.SpareUnitDevice.SECTOR_FRAMES
    g.D.MapDevice.SPARES g.met.D.SpareUnitDevice.sectors_fit
    c.args.sector past in
    omega (arith, start, c.SLOTS.ensures, c.from-area.ensures)
