use Rattle.std.proofs.Common.{◌≡◌, ◌<◌, ◌-◌, ℕ, true, subst, ap, arith}
use Rattle.flash_device.specs.FlashLogs.{base_in, turn_of}
use Rattle.flash_device.specs.PageTables.{AreFree}
use Rattle.flash_moves.specs.Paces.{LogState, extra_slots, free_slots}
use Rattle.flash_moves.specs.Places.{log_value}
use Rattle.flash_log.specs.SlotsInTurn.{WillTake}
use Rattle.flash_moves.specs.laws.Pacing.{free_known, free_of, paced_is}
use Rattle.flash_log.specs.laws.TakingTurns.{found_takes}
use Rattle.flash_log.proofs.flash_log.FlashLog.has_free.Goals as goal

pub returns-clause-blank : goal.returns-clause-blank
returns-clause-blank g c =
    let slots = g.F.Flash.SLOTS in
    let place = c.self.inside.place in
    let m = (g.F.Flash.state c.self.inside.flash).words in
    subst (λ (l : LogState). 0 < l.free → AreFree l.raw (base_in slots (turn_of slots l.raw)) (slots - l.free) slots)
    c.self.view_is
    (λ some.
    let known = free_known g.F.Flash.PAGES slots g.F.Flash.SECTORS place 0 some in
    let at = c.self.invariant.known known.0 in
    let below = known.1 in
    let free = free_of g.F.Flash.PAGES slots g.F.Flash.SECTORS place known.0 in
    let next : place.next ≡ slots - free_slots slots place = omega (arith, free, below) in
    subst (λ (b : ℕ). AreFree m b (slots - free_slots slots place) slots) (ap (λ (t : ℕ). base_in slots t) at.turn)
    (subst (λ (n : ℕ). AreFree m (base_in slots place.turn) n slots) next at.free))

pub returns-clause-next : goal.returns-clause-next
returns-clause-next g c =
    let slots = g.F.Flash.SLOTS in
    let pages = g.F.Flash.PAGES in
    let sectors = g.F.Flash.SECTORS in
    let place = c.self.inside.place in
    let s = g.F.Flash.state c.self.inside.flash in
    subst (λ (l : LogState). l.paced ≡ true → 0 < l.free → WillTake slots l (slots - l.free)) c.self.view_is
    (λ paced some.
    let known = free_known pages slots sectors place 0 some in
    let at = c.self.invariant.known known.0 in
    let below = known.1 in
    let free = free_of pages slots sectors place known.0 in
    let next : place.next ≡ slots - free_slots slots place = omega (arith, free, below) in
    subst (WillTake slots (log_value pages slots sectors s place)) next
    (found_takes pages slots sectors s place (extra_slots place)
    (paced_is pages slots sectors (extra_slots place) place paced (omega arith))
    (subst (λ (t : ℕ). AreFree s.words (base_in slots t) place.next slots) at.turn at.free)))
