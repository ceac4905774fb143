use Rattle.std.proofs.Common.{◌+◌, refl, arith}
use Rattle.flash_moves.specs.Paces.{HasFreeSlots, lead_of, lost_since}
use Rattle.flash_log.specs.laws.Ending.{will_more}
use Rattle.flash_moves.specs.laws.Lighting.{tries_faults}
use Rattle.flash_moves.specs.laws.Losing.{free_read, free_then}
use Rattle.flash_log.proofs.renewal.renew_pages.Goals as goal

pub returns-clause-pace : goal.returns-clause-pace
returns-clause-pace g c = λ roomy few.
    let less = (c.in_ok-end_move.ensures.light.ok refl).faults in
    c.in_ok-leave_area.ensures.pace roomy (omega (arith, few, less))

pub returns-clause-free : goal.returns-clause-free
returns-clause-free g c =
    let less = (c.in_ok-end_move.ensures.light.ok refl).faults in
    let free = c.in_ok-leave_area.ensures.free in
    omega (arith, free, less)

pub returns-in_err-end_move-clause-keeps_free : goal.returns-in_err-end_move-clause-keeps_free
returns-in_err-end_move-clause-keeps_free g c = λ has.
    let slots = g.F.Flash.SLOTS in
    let pages = g.F.Flash.PAGES in
    let old = g.F.Flash.state c.args.flash.now in
    let mid = g.F.Flash.state c.end_move.new.flash in
    free_read pages slots old mid (c.end_move.ensures.calm has).0

pub returns-in_err-end_move-clause-calm : goal.returns-in_err-end_move-clause-calm
returns-in_err-end_move-clause-calm g c = λ has.
    let old = g.F.Flash.state c.args.flash.now in
    let mid = g.F.Flash.state c.end_move.new.flash in
    let still = c.end_move.ensures.calm has in
    let same = still.1 in
    let erases = still.2 in
    let more = tries_faults 1 old mid c.end_move.result c.end_move.ensures.light in record {
      work = record { operations = omega (arith, same, more) };
      erases = omega (arith, erases);
    }

pub returns-in_err-leave_area-clause-keeps_free : goal.returns-in_err-leave_area-clause-keeps_free
returns-in_err-leave_area-clause-keeps_free g c = λ has.
    let slots = g.F.Flash.SLOTS in
    let pages = g.F.Flash.PAGES in
    let old = g.F.Flash.state c.args.flash.now in
    let mid = g.F.Flash.state c.end_move.new.flash in
    let new = g.F.Flash.state c.leave_area.new.flash in
    let less = (c.in_ok-end_move.ensures.light.ok refl).faults in
    let more = tries_faults 1 mid new c.leave_area.result c.leave_area.ensures.light in
    free_then pages slots old mid new less more (free_read pages slots old mid (c.end_move.ensures.calm has).0)
    c.leave_area.ensures.keeps_free

pub returns-in_err-leave_area-clause-stands : goal.returns-in_err-leave_area-clause-stands
returns-in_err-leave_area-clause-stands g c = λ extra roomy pace.
    let slots = g.F.Flash.SLOTS in
    let pages = g.F.Flash.PAGES in
    let old = g.F.Flash.state c.args.flash.now in
    let mid = g.F.Flash.state c.end_move.new.flash in
    let new = g.F.Flash.state c.leave_area.new.flash in
    let less = (c.in_ok-end_move.ensures.light.ok refl).faults in
    let more = tries_faults 1 mid new c.leave_area.result c.leave_area.ensures.light in
    let sectors = g.F.Flash.SECTORS in
    let has : HasFreeSlots slots (lead_of pages sectors) mid.words =
    c.in_ok-end_move.ensures.room extra (omega (arith, roomy, less, more)) pace in
    will_more pages slots sectors g.F.Flash.sector_start new.words 0 (extra + lost_since old new)
    c.leave_area.new.place (omega arith) (c.leave_area.ensures.stands (omega (arith, roomy, less, more)) has)

pub returns-in_err-leave_area-clause-calm : goal.returns-in_err-leave_area-clause-calm
returns-in_err-leave_area-clause-calm g c = λ has.
    let less = (c.in_ok-end_move.ensures.light.ok refl).faults in
    let still = c.end_move.ensures.calm has in
    let same = still.1 in
    let erases = still.2 in
    let work = c.leave_area.ensures.work.operations in
    let erased = c.leave_area.ensures.erases in record {
      work = record { operations = omega (arith, same, work, less) };
      erases = omega (arith, erases, erased);
    }

pub returns-clause-keeps_free : goal.returns-clause-keeps_free
returns-clause-keeps_free g c = λ has.
    let slots = g.F.Flash.SLOTS in
    let pages = g.F.Flash.PAGES in
    let old = g.F.Flash.state c.args.flash.now in
    let mid = g.F.Flash.state c.end_move.new.flash in
    let new = g.F.Flash.state c.leave_area.new.flash in
    let less = (c.in_ok-end_move.ensures.light.ok refl).faults in
    let more = tries_faults 1 mid new c.leave_area.result c.leave_area.ensures.light in
    free_then pages slots old mid new less more (free_read pages slots old mid (c.end_move.ensures.calm has).0)
    c.leave_area.ensures.keeps_free

pub returns-clause-stands : goal.returns-clause-stands
returns-clause-stands g c = λ extra roomy pace.
    let slots = g.F.Flash.SLOTS in
    let pages = g.F.Flash.PAGES in
    let old = g.F.Flash.state c.args.flash.now in
    let mid = g.F.Flash.state c.end_move.new.flash in
    let new = g.F.Flash.state c.leave_area.new.flash in
    let less = (c.in_ok-end_move.ensures.light.ok refl).faults in
    let more = tries_faults 1 mid new c.leave_area.result c.leave_area.ensures.light in
    let sectors = g.F.Flash.SECTORS in
    let has : HasFreeSlots slots (lead_of pages sectors) mid.words =
    c.in_ok-end_move.ensures.room extra (omega (arith, roomy, less, more)) pace in
    will_more pages slots sectors g.F.Flash.sector_start new.words 0 (extra + lost_since old new)
    c.leave_area.new.place (omega arith) (c.leave_area.ensures.stands (omega (arith, roomy, less, more)) has)

pub returns-clause-calm : goal.returns-clause-calm
returns-clause-calm g c = λ has.
    let less = (c.in_ok-end_move.ensures.light.ok refl).faults in
    let still = c.end_move.ensures.calm has in
    let same = still.1 in
    let erases = still.2 in
    let work = c.leave_area.ensures.work.operations in
    let erased = c.leave_area.ensures.erases in record {
      work = record { operations = omega (arith, same, work, less) };
      erases = omega (arith, erases, erased);
    }
