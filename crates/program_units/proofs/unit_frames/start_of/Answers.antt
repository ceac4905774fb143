use Rattle.std.proofs.Common.{◌≡◌, ◌<◌, ◌≤◌, ◌+◌, ◌*◌, arith}
use Rattle.program_units.specs.laws.UnitPlaces.{start_end, start_low, start_middle, start_witness}
use Rattle.program_units.proofs.unit_frames.start_of.Goals as goal

pub returns-then-frame-slots : goal.returns-then-frame-slots
returns-then-frame-slots g c =
    let low : c.args.frame ≤ g.D.UnitDevice.SLOTS = omega (
      arith,
      c.if-frame-slots.true,
      c.from-slots.ensures,
      c.SLOTS.ensures,
    ) in
    let start = start_low g.D.UnitDevice.SLOTS c.args.frame low in omega (arith, start)

pub returns-then-frame-slots-2 : goal.returns-then-frame-slots-2
returns-then-frame-slots-2 g c =
    let slots = g.D.UnitDevice.SLOTS in
    let past : slots < c.args.frame = omega (arith, c.if-frame-slots.false, c.from-slots.ensures, c.SLOTS.ensures) in
    let low : c.args.frame ≤ 2 * slots + 1 = omega (
      arith,
      c.if-frame-slots-2.true,
      c.from-slots.ensures,
      c.SLOTS.ensures,
    ) in
    let start = start_middle slots c.args.frame past low in omega (arith, start)

pub returns-then-frame-slots-3 : goal.returns-then-frame-slots-3
returns-then-frame-slots-3 g c =
    let slots = g.D.UnitDevice.SLOTS in
    let is : c.args.frame ≡ 2 * slots + 2 = omega (
      arith,
      c.if-frame-slots-2.false,
      c.if-frame-slots-3.true,
      c.from-slots.ensures,
      c.SLOTS.ensures,
    ) in
    let start = start_witness slots c.args.frame is in omega (arith, start, c.from-slots.ensures, c.SLOTS.ensures)

pub returns-else-frame-slots-3 : goal.returns-else-frame-slots-3
returns-else-frame-slots-3 g c =
    let slots = g.D.UnitDevice.SLOTS in
    let past : 2 * slots + 2 < c.args.frame = omega (
      arith,
      c.if-frame-slots-3.false,
      c.from-slots.ensures,
      c.SLOTS.ensures,
    ) in
    let start = start_end slots c.args.frame past in omega (arith, start, c.from-slots.ensures, c.SLOTS.ensures)
