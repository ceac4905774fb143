use Rattle.std.proofs.Common.{length, refl}
use Rattle.flash_device.specs.declared.flash.TheConstants.{BLANK}
use Rattle.spare_units.specs.laws.UnitCells.{units_blank, units_elsewhere, units_filled, units_part, units_run}
use Rattle.spare_units.specs.laws.UnitCells.{units_there, units_within, units_written}
use Rattle.spare_units.proofs.spare_unit_calls.program_frame.Goals as goal

pub program-requires-clause-run : goal.program-requires-clause-run
program-requires-clause-run g c =
    units_run g.D.SpareUnitDevice.SLOTS g.D.MapDevice.SECTORS g.D.SpareUnitDevice.SECTOR_FRAMES
    g.D.MapDevice.SPARES g.met.D.SpareUnitDevice.sectors_fit (g.D.MapDevice.state c.args.device.now).map
    c.args.at (length c.args.words.now) c.cell_at-cell.result c.requires.within c.requires.run
    c.cell_at-cell.ensures.is

pub program-requires-clause-units : goal.program-requires-clause-units
program-requires-clause-units g c =
    units_there g.D.SpareUnitDevice.SLOTS g.D.MapDevice.SECTORS g.D.SpareUnitDevice.SECTOR_FRAMES
    g.D.MapDevice.SPARES g.met.D.SpareUnitDevice.sectors_fit (g.D.MapDevice.state c.args.device.now).map
    c.args.at (length c.args.words.now) c.cell_at-cell.result c.requires.within c.requires.run
    c.cell_at-cell.ensures.is
    _ g.met.D.SpareUnitDevice.unit_fits c.requires.units

pub program-requires-clause-part : goal.program-requires-clause-part
program-requires-clause-part g c =
    units_part g.D.SpareUnitDevice.SLOTS g.D.MapDevice.SECTORS g.D.SpareUnitDevice.SECTOR_FRAMES
    g.D.MapDevice.SPARES g.met.D.SpareUnitDevice.sectors_fit (g.D.MapDevice.state c.args.device.now).map
    c.args.at (length c.args.words.now) c.cell_at-cell.result c.requires.within c.requires.run
    c.cell_at-cell.ensures.is
    _ c.requires.part

pub program-requires-clause-within : goal.program-requires-clause-within
program-requires-clause-within g c =
    units_within g.D.SpareUnitDevice.SLOTS g.D.MapDevice.SECTORS g.D.SpareUnitDevice.SECTOR_FRAMES
    g.D.MapDevice.SPARES g.met.D.SpareUnitDevice.sectors_fit (g.D.MapDevice.state c.args.device.now).map
    c.args.at (length c.args.words.now) c.cell_at-cell.result c.requires.within c.requires.run
    c.cell_at-cell.ensures.is

pub program-requires-clause-blank : goal.program-requires-clause-blank
program-requires-clause-blank g c =
    units_blank g.D.SpareUnitDevice.SLOTS g.D.MapDevice.SECTORS g.D.SpareUnitDevice.SECTOR_FRAMES
    g.D.MapDevice.SPARES g.met.D.SpareUnitDevice.sectors_fit (g.D.MapDevice.state c.args.device.now).map
    c.args.at (length c.args.words.now) c.cell_at-cell.result c.requires.within c.requires.run
    c.cell_at-cell.ensures.is
    _ BLANK c.requires.blank

pub program-requires-clause-fresh : goal.program-requires-clause-fresh
program-requires-clause-fresh g c =
    units_blank g.D.SpareUnitDevice.SLOTS g.D.MapDevice.SECTORS g.D.SpareUnitDevice.SECTOR_FRAMES
    g.D.MapDevice.SPARES g.met.D.SpareUnitDevice.sectors_fit (g.D.MapDevice.state c.args.device.now).map
    c.args.at (length c.args.words.now) c.cell_at-cell.result c.requires.within c.requires.run
    c.cell_at-cell.ensures.is
    _ 0 c.requires.fresh

pub returns-in_err-program-clause-elsewhere : goal.returns-in_err-program-clause-elsewhere
returns-in_err-program-clause-elsewhere g c =
    units_elsewhere g.D.SpareUnitDevice.SLOTS g.D.MapDevice.SECTORS g.D.SpareUnitDevice.SECTOR_FRAMES
    g.D.MapDevice.SPARES g.met.D.SpareUnitDevice.sectors_fit (g.D.MapDevice.state c.args.device.now).map
    c.args.at (length c.args.words.now) c.cell_at-cell.result c.requires.within c.requires.run
    c.cell_at-cell.ensures.is
    _ _ c.program.ensures.elsewhere

pub returns-clause-elsewhere : goal.returns-clause-elsewhere
returns-clause-elsewhere g c =
    units_elsewhere g.D.SpareUnitDevice.SLOTS g.D.MapDevice.SECTORS g.D.SpareUnitDevice.SECTOR_FRAMES
    g.D.MapDevice.SPARES g.met.D.SpareUnitDevice.sectors_fit (g.D.MapDevice.state c.args.device.now).map
    c.args.at (length c.args.words.now) c.cell_at-cell.result c.requires.within c.requires.run
    c.cell_at-cell.ensures.is
    _ _ c.program.ensures.elsewhere

pub returns-clause-others : goal.returns-clause-others
returns-clause-others g c =
    units_elsewhere g.D.SpareUnitDevice.SLOTS g.D.MapDevice.SECTORS g.D.SpareUnitDevice.SECTOR_FRAMES
    g.D.MapDevice.SPARES g.met.D.SpareUnitDevice.sectors_fit (g.D.MapDevice.state c.args.device.now).map
    c.args.at (length c.args.words.now) c.cell_at-cell.result c.requires.within c.requires.run
    c.cell_at-cell.ensures.is
    _ _ c.program.ensures.others

pub returns-clause-counted : goal.returns-clause-counted
returns-clause-counted g c =
    units_filled g.D.SpareUnitDevice.SLOTS g.D.MapDevice.SECTORS g.D.SpareUnitDevice.SECTOR_FRAMES
    g.D.MapDevice.SPARES g.met.D.SpareUnitDevice.sectors_fit (g.D.MapDevice.state c.args.device.now).map
    c.args.at (length c.args.words.now) c.cell_at-cell.result c.requires.within c.requires.run
    c.cell_at-cell.ensures.is
    _ 1 c.in_ok-program.ensures.counted

pub returns-clause-done : goal.returns-clause-done
returns-clause-done g c =
    units_written g.D.SpareUnitDevice.SLOTS g.D.MapDevice.SECTORS g.D.SpareUnitDevice.SECTOR_FRAMES
    g.D.MapDevice.SPARES g.met.D.SpareUnitDevice.sectors_fit (g.D.MapDevice.state c.args.device.now).map
    c.args.at (length c.args.words.now) c.cell_at-cell.result c.requires.within c.requires.run
    c.cell_at-cell.ensures.is
    _ _ refl c.in_ok-program.ensures.done
