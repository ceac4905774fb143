use Rattle.std.proofs.Common.{refl}
use Rattle.flash_moves.specs.laws.Lighting.{tries_faults}
use Rattle.flash_moves.specs.laws.Losing.{free_then}
use Rattle.flash_log.proofs.renewal.move_pages.Goals as goal

pub returns-in_err-make_room-clause-keeps_free : goal.returns-in_err-make_room-clause-keeps_free
returns-in_err-make_room-clause-keeps_free g c = c.make_room.ensures.keeps_free

pub returns-in_err-leave_turn_1-clause-keeps_free : goal.returns-in_err-leave_turn_1-clause-keeps_free
returns-in_err-leave_turn_1-clause-keeps_free g c =
    let old = g.F.Flash.state c.args.flash.now in
    let room = g.F.Flash.state c.make_room.new.flash in
    let new = g.F.Flash.state c.leave_turn_1.new.flash in
    let less = (c.in_ok-make_room.ensures.light.ok refl).faults in
    let more = tries_faults 1 room new c.leave_turn_1.result c.leave_turn_1.ensures.light in
    free_then g.F.Flash.PAGES g.F.Flash.SLOTS old room new less more
    c.make_room.ensures.keeps_free c.leave_turn_1.ensures.keeps_free

pub returns-clause-keeps_free : goal.returns-clause-keeps_free
returns-clause-keeps_free g c =
    let old = g.F.Flash.state c.args.flash.now in
    let room = g.F.Flash.state c.make_room.new.flash in
    let new = g.F.Flash.state c.leave_turn_1.new.flash in
    let less = (c.in_ok-make_room.ensures.light.ok refl).faults in
    let more = tries_faults 1 room new c.leave_turn_1.result c.leave_turn_1.ensures.light in
    free_then g.F.Flash.PAGES g.F.Flash.SLOTS old room new less more
    c.make_room.ensures.keeps_free c.leave_turn_1.ensures.keeps_free

pub returns-in_err-make_room-clause-keeps_room : goal.returns-in_err-make_room-clause-keeps_room
returns-in_err-make_room-clause-keeps_room g c = c.make_room.ensures.keeps_room

pub returns-in_err-leave_turn_1-clause-keeps_room : goal.returns-in_err-leave_turn_1-clause-keeps_room
returns-in_err-leave_turn_1-clause-keeps_room g c = λ n far free.
    c.leave_turn_1.ensures.keeps_room n far (c.make_room.ensures.keeps_room n far free)

pub returns-clause-keeps_room : goal.returns-clause-keeps_room
returns-clause-keeps_room g c = λ n far free.
    c.leave_turn_1.ensures.keeps_room n far (c.make_room.ensures.keeps_room n far free)
