use Rattle.std.proofs.Common.{arith}
use Rattle.flash_device.specs.FlashLogs.{turn_of}
use Rattle.sector_log.specs.laws.SectorRenewal.{begun_in_step}
use Rattle.sector_log.proofs.opening.format_sectors.Goals as goal

pub returns-clause-in_step : goal.returns-clause-in_step
returns-clause-in_step g c =
    let slots = g.F.Flash.SLOTS in
    let m = (g.F.Flash.state c.format_flash.new.flash).words in
    let fit = g.met.F.Flash.sectors_fit in
    let left = g.met.F.SectorFlash.slots_left (turn_of slots m) in
    begun_in_step g.F.Flash.PAGES slots g.F.Flash.SECTORS g.F.Flash.sector_start g.met.F.Flash.pages_fit.0 fit.0 fit.1
    fit.2 g.met.F.SectorFlash.sectors_left m 0 c.in_ok-format_flash.ensures.free (omega (arith, left))
