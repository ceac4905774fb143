use Rattle.std.proofs.Common.{◌≡◌, ◌<◌, ◌+◌, ◌-◌, ◌*◌, ℕ, sym, ap, ◌∙◌, arith}
use Rattle.spare_sectors.specs.SparePlaces.{part_start}
use Rattle.spare_sectors.specs.laws.SpareParts.{start_a, start_b, start_end, start_w}
use Rattle.spare_sectors.proofs.spare_places.start_of.Goals as goal

pub returns-then-sector-SECTORS : goal.returns-then-sector-SECTORS
returns-then-sector-SECTORS g c =
    let lt : c.args.sector < g.D.MapDevice.SECTORS = omega (arith, c.if-sector-SECTORS.true, c.SECTORS.ensures) in
    c.part_at.ensures.is ∙ sym (start_a g.D.SpareDevice.SLOTS g.D.MapDevice.SECTORS g.D.SpareDevice.SECTOR_SLOTS
    g.D.SpareDevice.SECTOR_WORDS g.D.MapDevice.SPARES g.met.D.SpareDevice.sectors_fit c.args.sector lt)

pub returns-then-sector-SECTORS-2 : goal.returns-then-sector-SECTORS-2
returns-then-sector-SECTORS-2 g c =
    let slots = g.D.SpareDevice.SLOTS in
    let sectors = g.D.MapDevice.SECTORS in
    let each = g.D.SpareDevice.SECTOR_SLOTS in
    let part = c.args.sector - sectors in
    let lt : part < sectors = omega (
      arith,
      c.if-sector-SECTORS.false,
      c.SECTORS.ensures,
      c.if-sector-SECTORS-2.true,
      c.SECTORS-else-sector-SECTORS.ensures,
    ) in
    let is : sectors + part ≡ c.args.sector = omega (arith, c.if-sector-SECTORS.false, c.SECTORS.ensures) in
    let here : each * (c.args.sector - c.SECTORS-then-sector-SECTORS-2.result) ≡ each * part =
    ap (λ (n : ℕ). each * (c.args.sector - n)) c.SECTORS-then-sector-SECTORS-2.ensures in
    let start = ap (part_start slots sectors each) (sym is) ∙ start_b slots sectors each g.D.SpareDevice.SECTOR_WORDS
    g.D.MapDevice.SPARES g.met.D.SpareDevice.sectors_fit part lt in
    omega (arith, start, here, c.part_at-then-sector-SECTORS-2.ensures.is, c.SLOTS.ensures, c.from.ensures)

pub returns-then-sector-SECTORS-3 : goal.returns-then-sector-SECTORS-3
returns-then-sector-SECTORS-3 g c =
    let slots = g.D.SpareDevice.SLOTS in
    let sectors = g.D.MapDevice.SECTORS in
    let each = g.D.SpareDevice.SECTOR_SLOTS in
    let is : c.args.sector ≡ 2 * sectors = omega (
      arith,
      c.if-sector-SECTORS-3.true,
      c.SECTORS-else-sector-SECTORS-2.ensures,
    ) in
    let start = ap (part_start slots sectors each) is ∙ start_w slots sectors each g.D.SpareDevice.SECTOR_WORDS
    g.D.MapDevice.SPARES g.met.D.SpareDevice.sectors_fit in
    omega (arith, start, c.SLOTS.ensures, c.from.ensures)

pub returns-else-sector-SECTORS-3 : goal.returns-else-sector-SECTORS-3
returns-else-sector-SECTORS-3 g c =
    let past : 2 * g.D.MapDevice.SECTORS < c.args.sector = omega (
      arith,
      c.if-sector-SECTORS-2.false,
      c.SECTORS-else-sector-SECTORS.ensures,
      c.if-sector-SECTORS-3.false,
      c.SECTORS-else-sector-SECTORS-2.ensures,
    ) in
    let start = start_end g.D.SpareDevice.SLOTS g.D.MapDevice.SECTORS g.D.SpareDevice.SECTOR_SLOTS
    g.D.SpareDevice.SECTOR_WORDS g.D.MapDevice.SPARES g.met.D.SpareDevice.sectors_fit c.args.sector past in
    omega (arith, start, c.SLOTS.ensures, c.from.ensures)
