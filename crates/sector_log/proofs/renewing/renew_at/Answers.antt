use Rattle.std.proofs.Common.{ℕ, false, refl, subst}
use Rattle.flash_device.specs.FlashLogs.{base_in, turn_of}
use Rattle.flash_device.specs.PageTables.{AreFree}
use Rattle.sector_log.specs.laws.SectorRenewal.{renewed_log}
use Rattle.sector_log.proofs.renewing.renew_at.Goals as goal

pub returns-clause-log : goal.returns-clause-log
returns-clause-log g c =
    let slots = g.F.Flash.SLOTS in
    let m = (g.F.Flash.state c.end_steps.new.flash).words in
    let after = (g.F.Flash.state c.leave_area-result.new.flash).words in
    let place = c.end_steps.new.place in
    let known = (c.end_steps.ensures.log.known c.in_ok-end_steps.ensures.ready).place in
    let free : AreFree m (base_in slots (turn_of slots m)) place.next slots =
    subst (λ (t : ℕ). AreFree m (base_in slots t) place.next slots) known.turn known.free in
    let fit = g.met.F.Flash.sectors_fit in
    let sectors = g.met.F.SectorFlash in
    renewed_log g.F.Flash.PAGES slots g.F.Flash.SECTORS g.F.Flash.sector_start g.met.F.Flash.pages_fit.0 fit.0 fit.1
    fit.2 sectors.sectors_left g.F.Table.PageTable.entries m after place.next
    (record c.leave_area-result.new.place { ready = false; tried = 0 }) refl refl free c.in_ok-end_steps.ensures.idle
    sectors.copies_left c.leave_area-result.ensures.log.ring c.leave_area-result.ensures.keeps_room
