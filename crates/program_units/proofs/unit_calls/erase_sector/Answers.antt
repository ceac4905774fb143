use Rattle.std.proofs.Common.{◌<◌, ◌+◌, arith}
use Rattle.program_units.specs.laws.UnitRuns.{unit_most}
use Rattle.program_units.specs.laws.UnitSteps.{frames_blank, frames_elsewhere, fresh_counted}
use Rattle.program_units.proofs.unit_calls.erase_sector.Goals as goal

pub returns-in_err-erase-clause-elsewhere : goal.returns-in_err-erase-clause-elsewhere
returns-in_err-erase-clause-elsewhere g c =
    let slots = g.D.UnitDevice.SLOTS in
    let many = (g.met.D.UnitDevice.slots_fit).0 in
    let some : 0 < slots = omega (arith, many) in
    frames_elsewhere g.D.UnitDevice.UNIT slots _ _ (g.D.UnitDevice.first_frame c.args.sector)
    (g.D.UnitDevice.first_frame (c.args.sector + 1)) (unit_most _ g.met.D.UnitDevice.unit_fits).1 some
    (g.met.D.UnitDevice.sectors_rise c.args.sector) c.erase.ensures.elsewhere

pub returns-in_err-erase-clause-fresh : goal.returns-in_err-erase-clause-fresh
returns-in_err-erase-clause-fresh g c =
    fresh_counted g.D.UnitDevice.UNIT (g.D.UnitDevice.state c.args.device.now) (g.D.UnitDevice.state c.erase.new.self)
    (g.D.UnitDevice.first_frame c.args.sector) (g.D.UnitDevice.first_frame (c.args.sector + 1))
    (unit_most _ g.met.D.UnitDevice.unit_fits).1 (g.met.D.UnitDevice.sectors_rise c.args.sector) c.requires.fresh
    c.erase.ensures.elsewhere c.erase.ensures.counted c.erase.ensures.others

pub returns-clause-done : goal.returns-clause-done
returns-clause-done g c =
    let slots = g.D.UnitDevice.SLOTS in
    let many = (g.met.D.UnitDevice.slots_fit).0 in
    let some : 0 < slots = omega (arith, many) in
    frames_blank g.D.UnitDevice.UNIT slots _ (g.D.UnitDevice.first_frame c.args.sector)
    (g.D.UnitDevice.first_frame (c.args.sector + 1)) (unit_most _ g.met.D.UnitDevice.unit_fits).1 some
    (g.met.D.UnitDevice.sectors_rise c.args.sector) c.in_ok-erase.ensures.done

pub returns-clause-elsewhere : goal.returns-clause-elsewhere
returns-clause-elsewhere g c =
    let slots = g.D.UnitDevice.SLOTS in
    let many = (g.met.D.UnitDevice.slots_fit).0 in
    let some : 0 < slots = omega (arith, many) in
    frames_elsewhere g.D.UnitDevice.UNIT slots _ _ (g.D.UnitDevice.first_frame c.args.sector)
    (g.D.UnitDevice.first_frame (c.args.sector + 1)) (unit_most _ g.met.D.UnitDevice.unit_fits).1 some
    (g.met.D.UnitDevice.sectors_rise c.args.sector) c.erase.ensures.elsewhere

pub returns-clause-fresh : goal.returns-clause-fresh
returns-clause-fresh g c =
    fresh_counted g.D.UnitDevice.UNIT (g.D.UnitDevice.state c.args.device.now) (g.D.UnitDevice.state c.erase.new.self)
    (g.D.UnitDevice.first_frame c.args.sector) (g.D.UnitDevice.first_frame (c.args.sector + 1))
    (unit_most _ g.met.D.UnitDevice.unit_fits).1 (g.met.D.UnitDevice.sectors_rise c.args.sector) c.requires.fresh
    c.erase.ensures.elsewhere c.erase.ensures.counted c.erase.ensures.others
