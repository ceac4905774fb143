use Rattle.std.proofs.Common.{◌<◌, arith}
use Rattle.program_units.specs.laws.UnitSharing.{marks_apart, words_apart}
use Rattle.program_units.proofs.unit_frames.words_lie_apart.Goals as goal

pub returns : goal.returns
returns g c =
    let slots = g.D.UnitDevice.SLOTS in
    let fits = (g.met.D.UnitDevice.slots_fit).0 in
    let some : 0 < slots = omega (arith, fits) in record {
      words = words_apart slots some;
      marks = marks_apart g.D.UnitDevice.UNIT slots some g.met.D.UnitDevice.unit_fits;
    }
