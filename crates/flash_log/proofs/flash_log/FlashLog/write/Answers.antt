use Rattle.std.proofs.Common.{◌≡◌, ◌⊎◌, ◌<◌, ◌≤◌, ◌+◌, ◌-◌, ℕ, IsErrOf, true, false, subst, arith}
use Rattle.std.proofs.lemmas.Result.{on_ok_weaker}
use Rattle.flash_moves.specs.Paces.{IsBeforeMove, IsInPace, IsInPaceFrom, IsRoomy, KeepsPace, LogState, Pauses}
use Rattle.flash_moves.specs.Paces.{RegainsSlots, StandsInPace, StaysInArea, TakesSlot, WillKeepPace}
use Rattle.flash_moves.specs.Paces.{extra_slots, failed_since, free_slots, is_paced, known_steps, lead_of, lost_since}
use Rattle.flash_moves.specs.Places.{FindsFree, log_value, state_of}
use Rattle.nvm_board.specs.declared.board.DeviceErr.TheVariants.{Fault}
use Rattle.flash_log.specs.SlotsInTurn.{BeginsBy, GivesUp, TakesInTurn, TriesOn, WillTake}
use Rattle.flash_moves.specs.laws.Pacing.{free_of, left_of, paced_is, pauses_view, stands_view, takes_view, view_stands}
use Rattle.flash_moves.specs.declared.ahead.TheConstants.{TRIES}
use Rattle.flash_log.specs.laws.Retrying.{holds_ok, ok_holds, tries_view}
use Rattle.flash_device.specs.FlashCalls.{Tries}
use Rattle.flash_log.proofs.flash_log.FlashLog.write.Goals as goal

pub returns-clause-pause : goal.returns-clause-pause
returns-clause-pause g c = λ extra.
    let slots = g.F.Flash.SLOTS in
    let pages = g.F.Flash.PAGES in
    let sectors = g.F.Flash.SECTORS in
    let old = g.F.Flash.state c.self.inside.flash in
    let new = g.F.Flash.state c.write_at.new.flash in
    let place = c.write_at.new.place in
    let start = g.F.Flash.sector_start in
    subst (λ (l : LogState). IsRoomy pages slots sectors (extra + failed_since l.flash (state_of pages slots new))
    → Pauses 37 2 l.flash (state_of pages slots new) (StandsInPace pages slots sectors start extra l)
    ((is_paced pages slots sectors place ≡ true)
    × (extra_slots place ≤ extra + failed_since l.flash (state_of pages slots new))) c.write_at.result) c.self.view_is
    (λ roomy. pauses_view pages slots sectors extra start 37 2 (extra + failed_since old new) old new
    c.self.inside.place place c.write_at.result (c.write_at.ensures.pause extra roomy))

pub returns-clause-calm : goal.returns-clause-calm
returns-clause-calm g c =
    let slots = g.F.Flash.SLOTS in
    let pages = g.F.Flash.PAGES in
    let sectors = g.F.Flash.SECTORS in
    let old = g.F.Flash.state c.self.inside.flash in
    let new = g.F.Flash.state c.write_at.new.flash in
    let place = c.write_at.new.place in
    subst (λ (l : LogState). lead_of pages sectors < l.free → new.faults ≡ l.flash.faults
    → TakesSlot l.flash (state_of pages slots new) (l.paced ≡ true) l.free (free_slots slots place) c.write_at.result)
    c.self.view_is
    (λ far same. takes_view pages slots sectors (extra_slots c.self.inside.place) old new c.self.inside.place place
    c.write_at.result far (omega arith) (c.write_at.ensures.calm far same))

pub returns-clause-slots : goal.returns-clause-slots
returns-clause-slots g c = λ n.
    let slots = g.F.Flash.SLOTS in
    let pages = g.F.Flash.PAGES in
    let sectors = g.F.Flash.SECTORS in
    let new = g.F.Flash.state c.write_at.new.flash in
    let after = log_value pages slots sectors new c.write_at.new.place in
    subst (λ (l : LogState). n + lead_of pages sectors + (new.faults - l.flash.faults) < slots → WillTake slots l n
    → TakesInTurn slots n (1 + (new.faults - l.flash.faults)) l after) c.self.view_is (c.write_at.ensures.slots n)

pub returns-clause-keeps_trying : goal.returns-clause-keeps_trying
returns-clause-keeps_trying g c = λ n far.
    let slots = g.F.Flash.SLOTS in
    let pages = g.F.Flash.PAGES in
    let old = g.F.Flash.state c.self.inside.flash in
    let new = g.F.Flash.state c.write_at.new.flash in
    subst (λ (l : LogState). WillTake slots l n → Tries TRIES l.flash (state_of pages slots new) c.write_at.result)
    c.self.view_is
    (λ takes. tries_view pages slots TRIES old new c.write_at.result (c.write_at.ensures.keeps_trying n far takes))

pub returns-clause-gives_up : goal.returns-clause-gives_up
returns-clause-gives_up g c =
    let slots = g.F.Flash.SLOTS in
    let pages = g.F.Flash.PAGES in
    let sectors = g.F.Flash.SECTORS in
    let new = g.F.Flash.state c.write_at.new.flash in
    subst (λ (l : LogState). IsErrOf c.write_at.result Fault → (l.flash.faults + TRIES ≤ new.faults)
    ⊎ GivesUp pages slots sectors g.F.Flash.sector_start c.args.page
    (log_value pages slots sectors new c.write_at.new.place)) c.self.view_is c.write_at.ensures.gives_up

pub returns-clause-begins : goal.returns-clause-begins
returns-clause-begins g c = λ extra n.
    let slots = g.F.Flash.SLOTS in
    let pages = g.F.Flash.PAGES in
    let sectors = g.F.Flash.SECTORS in
    let start = g.F.Flash.sector_start in
    let old = g.F.Flash.state c.self.inside.flash in
    let new = g.F.Flash.state c.write_at.new.flash in
    let place = c.self.inside.place in
    let after = log_value pages slots sectors new c.write_at.new.place in
    subst (λ (l : LogState). IsRoomy pages slots sectors (extra + failed_since l.flash (state_of pages slots new))
    → StandsInPace pages slots sectors start extra l → StaysInArea slots l.raw new.words → BeginsBy slots l n
    → BeginsBy slots after (n + 1 + (new.faults - l.flash.faults))) c.self.view_is
    (λ roomy stands. c.write_at.ensures.begins extra n roomy
    (stands_view pages slots sectors extra start old.words place stands))

pub returns-clause-passes : goal.returns-clause-passes
returns-clause-passes g c = λ failed extra n.
    let slots = g.F.Flash.SLOTS in
    let pages = g.F.Flash.PAGES in
    let sectors = g.F.Flash.SECTORS in
    let start = g.F.Flash.sector_start in
    let old = g.F.Flash.state c.self.inside.flash in
    let new = g.F.Flash.state c.write_at.new.flash in
    let place = c.self.inside.place in
    let after = log_value pages slots sectors new c.write_at.new.place in
    subst (λ (l : LogState). IsRoomy pages slots sectors (extra + failed_since l.flash (state_of pages slots new))
    → StandsInPace pages slots sectors start extra l → StaysInArea slots l.raw new.words → BeginsBy slots l n
    → BeginsBy slots after (n + (new.faults - l.flash.faults))) c.self.view_is
    (λ roomy stands. c.write_at.ensures.passes failed extra n roomy
    (stands_view pages slots sectors extra start old.words place stands))

pub returns-clause-steps : goal.returns-clause-steps
returns-clause-steps g c = ok_holds c.write_at.result (λ ok extra roomy.
    let slots = g.F.Flash.SLOTS in
    let pages = g.F.Flash.PAGES in
    let sectors = g.F.Flash.SECTORS in
    let old = g.F.Flash.state c.self.inside.flash in
    let new = g.F.Flash.state c.write_at.new.flash in
    let place = c.self.inside.place in
    let last = c.write_at.new.place in
    let steps = holds_ok c.write_at.result c.write_at.ensures.steps ok in
    let ready = holds_ok c.write_at.result c.write_at.ensures.ready ok in
    let left = left_of pages slots sectors last ready in
    subst (λ (l : LogState). new.faults ≡ l.flash.faults → l.paced ≡ true → l.extra ≤ extra
    → l.free ≤ lead_of pages sectors → StaysInArea slots l.raw new.words
    → known_steps pages sectors last + 1 ≤ l.left) c.self.view_is
    (λ same paced fits near stays.
    let pace = paced_is pages slots sectors extra place paced fits in
    let free = free_of pages slots sectors place pace.ready in
    let before = left_of pages slots sectors place pace.ready in
    let fewer = steps extra roomy same pace (omega (arith, free, near)) stays in
    omega (arith, fewer, left, before)))

pub returns-clause-tries : goal.returns-clause-tries
returns-clause-tries g c = λ n far.
    let new = g.F.Flash.state c.write_at.new.flash in
    subst (λ (l : LogState). WillTake g.F.Flash.SLOTS l n → new.faults ≤ l.flash.faults + TRIES) c.self.view_is
    (c.write_at.ensures.tries n far)

pub returns-clause-regains : goal.returns-clause-regains
returns-clause-regains g c =
    let slots = g.F.Flash.SLOTS in
    let pages = g.F.Flash.PAGES in
    let sectors = g.F.Flash.SECTORS in
    let old = g.F.Flash.state c.self.inside.flash in
    let new = g.F.Flash.state c.write_at.new.flash in
    let place = c.self.inside.place in
    let after = free_slots slots c.write_at.new.place in
    let given = extra_slots c.write_at.new.place in
    on_ok_weaker c.write_at.result
    (λ (regains : (extra : ℕ) → IsRoomy pages slots sectors extra → new.faults ≡ old.faults
    → KeepsPace pages slots sectors extra place → RegainsSlots pages slots extra (free_slots slots place) after given).
    λ extra roomy.
    subst (λ (l : LogState). new.faults ≡ l.flash.faults → l.paced ≡ true → l.extra ≤ extra
    → RegainsSlots pages slots extra l.free after given)
    c.self.view_is (λ same pace fits. regains extra roomy same (paced_is pages slots sectors extra place pace fits)))
    c.write_at.ensures.regains

pub returns-clause-regains_found : goal.returns-clause-regains_found
returns-clause-regains_found g c =
    let slots = g.F.Flash.SLOTS in
    let pages = g.F.Flash.PAGES in
    let sectors = g.F.Flash.SECTORS in
    let start = g.F.Flash.sector_start in
    let old = g.F.Flash.state c.self.inside.flash in
    let new = g.F.Flash.state c.write_at.new.flash in
    let place = c.self.inside.place in
    let after = free_slots slots c.write_at.new.place in
    let given = extra_slots c.write_at.new.place in
    on_ok_weaker c.write_at.result
    (λ (regains : (extra : ℕ) → IsRoomy pages slots sectors extra → new.faults ≡ old.faults
    → WillKeepPace pages slots sectors start old.words extra place
    → (n : ℕ) → FindsFree slots old.words n → RegainsSlots pages slots extra n after given). λ extra roomy.
    subst (λ (l : LogState). new.faults ≡ l.flash.faults → StandsInPace pages slots sectors start extra l
    → (n : ℕ) → FindsFree slots l.raw n → RegainsSlots pages slots extra n after given)
    c.self.view_is
    (λ same stands. regains extra roomy same
    (stands_view pages slots sectors extra start old.words place stands)))
    c.write_at.ensures.regains_found

pub returns-clause-lost : goal.returns-clause-lost
returns-clause-lost g c = λ extra roomy.
    let slots = g.F.Flash.SLOTS in
    let pages = g.F.Flash.PAGES in
    let sectors = g.F.Flash.SECTORS in
    let start = g.F.Flash.sector_start in
    let old = g.F.Flash.state c.self.inside.flash in
    let new = g.F.Flash.state c.write_at.new.flash in
    let place = c.self.inside.place in
    subst (λ (l : LogState). new.faults ≡ l.flash.faults → StandsInPace pages slots sectors start extra l
    → (l.flash.erases < new.erases) ⊎ IsBeforeMove pages slots sectors l.free l.fresh l.raw
    → IsInPace pages slots sectors start new.words extra)
    c.self.view_is
    (λ same stands. c.write_at.ensures.lost extra roomy same
    (stands_view pages slots sectors extra start old.words place stands))

pub returns-clause-stands : goal.returns-clause-stands
returns-clause-stands g c = λ extra.
    let slots = g.F.Flash.SLOTS in
    let pages = g.F.Flash.PAGES in
    let sectors = g.F.Flash.SECTORS in
    let start = g.F.Flash.sector_start in
    let old = g.F.Flash.state c.self.inside.flash in
    let new = g.F.Flash.state c.write_at.new.flash in
    let place = c.write_at.new.place in
    let after = state_of pages slots new in
    subst (λ (l : LogState). IsRoomy pages slots sectors (extra + failed_since l.flash after)
    → StandsInPace pages slots sectors start extra l
    → ((is_paced pages slots sectors place ≡ true) × (extra_slots place ≤ extra + lost_since l.flash after))
    ⊎ ((place.ready ≡ false)
    × IsInPaceFrom pages slots sectors start new.words (extra + lost_since l.flash after) place.tried))
    c.self.view_is
    (λ roomy stands. view_stands pages slots sectors (extra + lost_since old new) start new.words place
    (c.write_at.ensures.stands extra roomy
    (stands_view pages slots sectors extra start old.words c.self.inside.place stands)))

pub returns-clause-keeps_on : goal.returns-clause-keeps_on
returns-clause-keeps_on g c = λ failed extra k few.
    let slots = g.F.Flash.SLOTS in
    let pages = g.F.Flash.PAGES in
    let sectors = g.F.Flash.SECTORS in
    let new = g.F.Flash.state c.write_at.new.flash in
    let place = c.self.inside.place in
    let last = log_value pages slots sectors new c.write_at.new.place in
    subst (λ (l : LogState). IsRoomy pages slots sectors (extra + failed_since l.flash (state_of pages slots new))
    → l.paced ≡ true → l.extra ≤ extra → l.left + k ≤ l.free → StaysInArea slots l.raw new.words
    → TriesOn pages slots sectors g.F.Flash.sector_start c.args.page k l last) c.self.view_is
    (λ roomy paced fits room stays.
    let pace = paced_is pages slots sectors extra place paced fits in
    let free = free_of pages slots sectors place pace.ready in
    let left = left_of pages slots sectors place pace.ready in
    let within = pace.room in
    c.write_at.ensures.keeps_on failed extra k few roomy pace (omega (arith, free, left, room, within)) stays)
