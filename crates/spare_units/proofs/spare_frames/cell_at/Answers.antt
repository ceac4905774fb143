use Rattle.std.proofs.Common.{◌∙◌, arith}
use Rattle.spare_sectors.specs.laws.SpareSteps.{table_most}
use Rattle.spare_units.specs.laws.UnitCells.{cell_fits, cell_inside, cell_is, sector_low, sector_most}
use Rattle.spare_units.proofs.spare_frames.cell_at.Goals as goal

pub first_frame_of-requires : goal.first_frame_of-requires
first_frame_of-requires g c =
    let most = sector_most g.D.SpareUnitDevice.SLOTS g.D.MapDevice.SECTORS g.D.SpareUnitDevice.SECTOR_FRAMES
    g.D.MapDevice.SPARES g.met.D.SpareUnitDevice.sectors_fit
    (g.D.MapDevice.state c.args.device.now).map (g.D.Map.PageTable.entries c.args.table.now) c.requires.index c.args.at
    c.requires.at _ c.sector_with-sector.ensures in
    omega (arith, most)

pub overflow_mul-offset : goal.overflow_mul-offset
overflow_mul-offset g c =
    let low = sector_low g.D.SpareUnitDevice.SLOTS g.D.MapDevice.SECTORS g.D.SpareUnitDevice.SECTOR_FRAMES
    g.D.MapDevice.SPARES g.met.D.SpareUnitDevice.sectors_fit
    (g.D.MapDevice.state c.args.device.now).map (g.D.Map.PageTable.entries c.args.table.now) c.requires.index c.args.at
    c.requires.at _ _
    c.sector_with-sector.ensures c.first_frame_of.ensures in
    let fits = c.ranges.at.fits in omega (arith, low, fits)

pub overflow_sub-offset : goal.overflow_sub-offset
overflow_sub-offset g c = sector_low g.D.SpareUnitDevice.SLOTS g.D.MapDevice.SECTORS g.D.SpareUnitDevice.SECTOR_FRAMES
    g.D.MapDevice.SPARES g.met.D.SpareUnitDevice.sectors_fit
    (g.D.MapDevice.state c.args.device.now).map (g.D.Map.PageTable.entries c.args.table.now) c.requires.index c.args.at
    c.requires.at _ _
    c.sector_with-sector.ensures c.first_frame_of.ensures

pub lies_at-requires-clause-sector : goal.lies_at-requires-clause-sector
lies_at-requires-clause-sector g c =
    sector_most g.D.SpareUnitDevice.SLOTS g.D.MapDevice.SECTORS g.D.SpareUnitDevice.SECTOR_FRAMES
    g.D.MapDevice.SPARES g.met.D.SpareUnitDevice.sectors_fit
    (g.D.MapDevice.state c.args.device.now).map (g.D.Map.PageTable.entries c.args.table.now) c.requires.index c.args.at
    c.requires.at _ c.sector_with-sector.ensures

pub lies_at-requires-clause-spare : goal.lies_at-requires-clause-spare
lies_at-requires-clause-spare g c =
    table_most g.D.MapDevice.SECTORS g.D.MapDevice.SPARES _ _ c.requires.index _
    (sector_most g.D.SpareUnitDevice.SLOTS g.D.MapDevice.SECTORS g.D.SpareUnitDevice.SECTOR_FRAMES
    g.D.MapDevice.SPARES g.met.D.SpareUnitDevice.sectors_fit
    (g.D.MapDevice.state c.args.device.now).map (g.D.Map.PageTable.entries c.args.table.now) c.requires.index c.args.at
    c.requires.at _ c.sector_with-sector.ensures)

pub overflow_add-result : goal.overflow_add-result
overflow_add-result g c =
    let is = cell_is g.D.SpareUnitDevice.SLOTS g.D.MapDevice.SECTORS g.D.SpareUnitDevice.SECTOR_FRAMES
    g.D.MapDevice.SPARES g.met.D.SpareUnitDevice.sectors_fit
    (g.D.MapDevice.state c.args.device.now).map (g.D.Map.PageTable.entries c.args.table.now) c.requires.index c.args.at
    c.requires.at c.sector_with-sector.result c.first_frame_of.result c.from-size.result c.from.result
    c.sector_with-sector.ensures c.first_frame_of.ensures (c.from-size.ensures ∙ c.SECTOR_FRAMES.ensures)
    (c.from.ensures ∙ c.lies_at.ensures.is) in
    let small = cell_fits g.D.SpareUnitDevice.SLOTS g.D.MapDevice.SECTORS g.D.SpareUnitDevice.SECTOR_FRAMES
    g.D.MapDevice.SPARES g.met.D.SpareUnitDevice.sectors_fit
    (g.D.MapDevice.state c.args.device.now).map (g.D.Map.PageTable.entries c.args.table.now) c.requires.index c.args.at
    c.requires.at _ is in
    omega (arith, small)

pub returns-clause-is : goal.returns-clause-is
returns-clause-is g c =
    let is = cell_is g.D.SpareUnitDevice.SLOTS g.D.MapDevice.SECTORS g.D.SpareUnitDevice.SECTOR_FRAMES
    g.D.MapDevice.SPARES g.met.D.SpareUnitDevice.sectors_fit
    (g.D.MapDevice.state c.args.device.now).map (g.D.Map.PageTable.entries c.args.table.now) c.requires.index c.args.at
    c.requires.at c.sector_with-sector.result c.first_frame_of.result c.from-size.result c.from.result
    c.sector_with-sector.ensures c.first_frame_of.ensures (c.from-size.ensures ∙ c.SECTOR_FRAMES.ensures)
    (c.from.ensures ∙ c.lies_at.ensures.is) in
    is

pub returns-clause-within : goal.returns-clause-within
returns-clause-within g c =
    let is = cell_is g.D.SpareUnitDevice.SLOTS g.D.MapDevice.SECTORS g.D.SpareUnitDevice.SECTOR_FRAMES
    g.D.MapDevice.SPARES g.met.D.SpareUnitDevice.sectors_fit
    (g.D.MapDevice.state c.args.device.now).map (g.D.Map.PageTable.entries c.args.table.now) c.requires.index c.args.at
    c.requires.at c.sector_with-sector.result c.first_frame_of.result c.from-size.result c.from.result
    c.sector_with-sector.ensures c.first_frame_of.ensures (c.from-size.ensures ∙ c.SECTOR_FRAMES.ensures)
    (c.from.ensures ∙ c.lies_at.ensures.is) in
    cell_inside g.D.SpareUnitDevice.SLOTS g.D.MapDevice.SECTORS g.D.SpareUnitDevice.SECTOR_FRAMES
    g.D.MapDevice.SPARES g.met.D.SpareUnitDevice.sectors_fit
    (g.D.MapDevice.state c.args.device.now).map (g.D.Map.PageTable.entries c.args.table.now) c.requires.index c.args.at
    c.requires.at _ is
