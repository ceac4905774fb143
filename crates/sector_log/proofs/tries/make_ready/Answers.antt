use Rattle.std.proofs.Common.{◌≡◌, ◌≤◌, ◌+◌, Err, ap, inl, inr, subst, arith}
use Rattle.flash_device.specs.FlashCalls.{FlashState}
use Rattle.flash_moves.specs.declared.place.PageMap.{PageMap}
use Rattle.sector_log.specs.SectorLogs.{StopsAtStep, sector_log_value}
use Rattle.sector_log.specs.laws.Trying.{by_bool, free_known, stops_at}
use Rattle.sector_log.proofs.tries.make_ready.Goals as goal

pub returns-then-not-may_put-clause-keeps_trying : goal.returns-then-not-may_put-clause-keeps_trying
returns-then-not-may_put-clause-keeps_trying g c = λ k some room failed.
    let pages = g.F.Flash.PAGES in
    let slots = g.F.Flash.SLOTS in
    let sectors = g.F.Flash.SECTORS in
    let start = g.F.Flash.sector_start in
    let page = c.args.page in
    let old = g.F.Flash.state c.args.flash.now in
    let mid = g.F.Flash.state c.look.new.flash in
    let new = g.F.Flash.state c.take_step.new.flash in
    let place = c.args.place.now in
    let p = c.look.new.place in
    let q = c.take_step.new.place in
    let same = c.look.ensures.known (free_known slots place some).0 in
    let fault = ap Err c.in-Err-Fault.field-0-is in
    by_bool q.ready
    (λ ready.
    let stays = c.in-Err-Fault.ensures.stays ready in
    let no = c.may_put.ensures.no c.if-not-may_put.true in
    let stops : StopsAtStep pages slots sectors start page (sector_log_value pages slots sectors mid p)
    (sector_log_value pages slots sectors new q) =
    stops_at pages slots sectors p q start mid new page c.in_ok-look.ensures.ready stays no.0 no.1
    (λ n few holds older. c.in-Err-Fault.ensures.keeps_trying n few holds older fault) in
    let there : StopsAtStep pages slots sectors start page (sector_log_value pages slots sectors mid place)
    (sector_log_value pages slots sectors new q) =
    subst (λ (r : PageMap g.row.F-Table.Denot). StopsAtStep pages slots sectors start page
    (sector_log_value pages slots sectors mid r) (sector_log_value pages slots sectors new q)) same.0 stops in
    inr (inr (subst (λ (s : FlashState). StopsAtStep pages slots sectors start page
    (sector_log_value pages slots sectors s place) (sector_log_value pages slots sectors new q)) same.1 there)))
    (λ unready.
    let unread = c.in-Err-Fault.ensures.unread fault unready in
    let none : mid.faults ≡ old.faults = ap (λ (s : FlashState). s.faults) same.1 in
    let many : old.faults + 8 ≤ new.faults = omega (arith, unread, none) in
    inl many)
