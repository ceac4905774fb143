use Rattle.std.proofs.Common.{sym, subst}
use Rattle.flash_moves.specs.declared.place.PageMap.{PageMap}
use Rattle.flash_device.specs.FlashLogs.{base_in}
use Rattle.flash_area.specs.HeldPages.{HavePages}
use Rattle.flash_log.specs.Renewals.{HasLastMark}
use Rattle.flash_log.specs.laws.Renewing.{held_on, last_on}
use Rattle.flash_log.proofs.renewal.leave_turn_1.Goals as goal

pub returns-clause-have : goal.returns-clause-have
returns-clause-have g c = λ have.
    let slots = g.F.Flash.SLOTS in
    let pages = g.F.Flash.PAGES in
    let m = (g.F.Flash.state c.args.flash.now).words in
    let after = (g.F.Flash.state c.pass_on.new.flash).words in
    let place = c.args.place.now in
    subst (λ (p : PageMap _). HavePages pages slots after (base_in slots p.turn) p.next)
    (sym c.in_ok-pass_on.ensures.step)
    (held_on pages slots m after place.turn place.next c.if-place-ne1.false c.pass_on.ensures.area have)

pub returns-clause-last : goal.returns-clause-last
returns-clause-last g c = λ last.
    let slots = g.F.Flash.SLOTS in
    let pages = g.F.Flash.PAGES in
    let after = (g.F.Flash.state c.pass_on.new.flash).words in
    subst (λ (p : PageMap _). HasLastMark slots after p.turn) (sym c.in_ok-pass_on.ensures.step)
    (last_on pages slots after c.in_ok-pass_on.ensures.mark)

pub returns-then-place-ne1-clause-keeps_free : goal.returns-then-place-ne1-clause-keeps_free
returns-then-place-ne1-clause-keeps_free g c = λ n far free. free

pub returns-in_err-pass_on-clause-keeps_free : goal.returns-in_err-pass_on-clause-keeps_free
returns-in_err-pass_on-clause-keeps_free g c = c.pass_on.ensures.keeps_free

pub returns-clause-keeps_free : goal.returns-clause-keeps_free
returns-clause-keeps_free g c = c.pass_on.ensures.keeps_free

pub returns-then-place-ne1-clause-keeps_room : goal.returns-then-place-ne1-clause-keeps_room
returns-then-place-ne1-clause-keeps_room g c = λ n far free. free

pub returns-in_err-pass_on-clause-keeps_room : goal.returns-in_err-pass_on-clause-keeps_room
returns-in_err-pass_on-clause-keeps_room g c = c.pass_on.ensures.keeps_room

pub returns-clause-keeps_room : goal.returns-clause-keeps_room
returns-clause-keeps_room g c = c.pass_on.ensures.keeps_room
