use Rattle.std.proofs.Common.{◌≡◌, ◌<◌, ◌≤◌, ◌+◌, ◌-◌, ◌∙◌, ℕ, List, true, refl, sym, ap, subst, inr, arith}
use Rattle.std.proofs.lemmas.Result.{on_ok_weaker}
use Rattle.flash_moves.specs.declared.place.PageMap.{PageMap}
use Rattle.flash_device.specs.FlashCalls.{FlashState}
use Rattle.flash_device.specs.FlashLogs.{base_in, turn_of}
use Rattle.flash_device.specs.PageTables.{AreFree}
use Rattle.flash_moves.specs.Paces.{IsInPace, KeepsPace, lost_since, steps_left}
use Rattle.flash_moves.specs.Places.{FindsFree}
use Rattle.flash_moves.specs.laws.Lighting.{lights_once}
use Rattle.flash_moves.specs.laws.Losing.{before_found, none_copied, stands_in_pace}
use Rattle.flash_log.specs.laws.Beginning.{begins_found, begins_lost, begins_on}
use Rattle.flash_log.specs.laws.TakingTurns.{found_next, lost_next, still_next, was_lost}
use Rattle.flash_moves.specs.laws.Pacing.{caught_more, free_of, from_more, lost_so, place_in_pace, stands_more}
use Rattle.flash_moves.specs.laws.Pacing.{tried_within}
use Rattle.flash_log.proofs.steps.catch_up.Goals as goal

pub returns-clause-next : goal.returns-clause-next
returns-clause-next g c = λ ready.
    c.copy_older.ensures.next ∙ ap (λ (z : PageMap _). z.next) (c.find_pages.ensures.known ready)

pub returns-clause-unready : goal.returns-clause-unready
returns-clause-unready g c = c.copy_older.ensures.unready

pub returns-clause-found : goal.returns-clause-found
returns-clause-found g c =
    let slots = g.F.Flash.SLOTS in
    let pages = g.F.Flash.PAGES in
    let sectors = g.F.Flash.SECTORS in
    let m = (g.F.Flash.state c.args.flash.now).words in
    let q = c.find_pages.new.place in
    let there = c.in_ok-find_pages.ensures.ready in
    let last = c.copy_older.new.place in
    on_ok_weaker c.copy_older.result
    (λ (ready : last.ready ≡ true). λ unready none. subst (FindsFree slots m)
    (free_of pages slots sectors q there ∙ ap (λ (n : ℕ). slots - n) (sym c.copy_older.ensures.next)
    ∙ sym (free_of pages slots sectors last ready))
    (c.in_ok-find_pages.ensures.found unready none))
    c.copy_older.ensures.ready

pub returns-clause-free : goal.returns-clause-free
returns-clause-free g c =
    let slots = g.F.Flash.SLOTS in
    let m = (g.F.Flash.state c.args.flash.now).words in
    let q = c.find_pages.new.place in
    let there = c.in_ok-find_pages.ensures.ready in
    let mid = (g.F.Flash.state c.find_pages.new.flash).words in
    let known = c.find_pages.ensures.log.known there in
    let free : AreFree m (base_in slots (turn_of slots m)) q.next slots =
    subst (λ (l : List ℕ). AreFree l (base_in slots (turn_of slots l)) q.next slots) c.find_pages.ensures.words
    (subst (λ (t : ℕ). AreFree mid (base_in slots t) q.next slots) known.turn known.free) in
    on_ok_weaker c.copy_older.result
    (λ (ready : c.copy_older.new.place.ready ≡ true).
    subst (λ (n : ℕ). AreFree m (base_in slots (turn_of slots m)) n slots) (sym c.copy_older.ensures.next) free)
    c.copy_older.ensures.ready

pub returns-in_err-find_pages-clause-stands : goal.returns-in_err-find_pages-clause-stands
returns-in_err-find_pages-clause-stands g c = λ extra roomy stands.
    let slots = g.F.Flash.SLOTS in
    let pages = g.F.Flash.PAGES in
    let sectors = g.F.Flash.SECTORS in
    let start = g.F.Flash.sector_start in
    let q = c.find_pages.new.place in
    let old = g.F.Flash.state c.args.flash.now in
    let new = g.F.Flash.state c.find_pages.new.flash in
    let unready = c.in_err-find_pages.ensures.unready in
    inr (
      unready,
      from_more pages slots sectors start new.words extra (extra + lost_since old new) q.tried (omega arith)
          (lost_so pages slots sectors start new.words extra q (KeepsPace pages slots sectors extra q) unready
          (λ (z : KeepsPace pages slots sectors extra q). z.ready)
          (c.find_pages.ensures.stands extra (omega (arith, roomy)) stands)),
    )

pub returns-clause-stands : goal.returns-clause-stands
returns-clause-stands g c = λ extra roomy stands.
    let slots = g.F.Flash.SLOTS in
    let pages = g.F.Flash.PAGES in
    let sectors = g.F.Flash.SECTORS in
    let start = g.F.Flash.sector_start in
    let old = g.F.Flash.state c.args.flash.now in
    let mid = g.F.Flash.state c.find_pages.new.flash in
    let new = g.F.Flash.state c.copy_older.new.flash in
    let last = c.copy_older.new.place in
    let same = (c.in_ok-find_pages.ensures.light.ok refl).faults in
    let due = (c.in_ok-find_pages.ensures.light.ok refl).due in
    let fits : extra + lost_since mid new ≤ extra + lost_since old new = omega (arith, same, due) in
    stands_more pages slots sectors start new.words (extra + lost_since mid new) (extra + lost_since old new) last fits
    (caught_more pages slots sectors (extra + lost_since mid new) (extra + lost_since old new) last fits)
    (c.copy_older.ensures.stands extra (omega (arith, roomy, same))
    (c.in_ok-find_pages.ensures.in_pace extra (omega (arith, roomy)) stands))

pub returns-in_err-find_pages-clause-lost : goal.returns-in_err-find_pages-clause-lost
returns-in_err-find_pages-clause-lost g c = λ extra roomy stands before.
    let slots = g.F.Flash.SLOTS in
    let pages = g.F.Flash.PAGES in
    let sectors = g.F.Flash.SECTORS in
    let start = g.F.Flash.sector_start in
    let entries = g.F.Table.PageTable.entries in
    let m = (g.F.Flash.state c.args.flash.now).words in
    let p = c.args.place.now in
    subst (λ (l : List ℕ). IsInPace pages slots sectors start l extra) (sym c.find_pages.ensures.words)
    (stands_in_pace pages slots sectors extra entries start m p c.requires.log stands)

pub returns-clause-lost : goal.returns-clause-lost
returns-clause-lost g c = λ extra roomy stands before.
    let slots = g.F.Flash.SLOTS in
    let pages = g.F.Flash.PAGES in
    let sectors = g.F.Flash.SECTORS in
    let start = g.F.Flash.sector_start in
    let entries = g.F.Table.PageTable.entries in
    let m = (g.F.Flash.state c.args.flash.now).words in
    let p = c.args.place.now in
    let q = c.find_pages.new.place in
    let there = c.in_ok-find_pages.ensures.ready in
    let mid = (g.F.Flash.state c.find_pages.new.flash).words in
    let known = c.find_pages.ensures.log.known there in
    let pace = c.in_ok-find_pages.ensures.in_pace extra (omega (arith, roomy)) stands in
    let far = before_found pages slots sectors extra m p q there known.free.within
    (λ ready. ap (λ (z : PageMap _). z.next) (c.find_pages.ensures.known ready)) c.in_ok-find_pages.ensures.found
    before in
    let still = (c.copy_older.ensures.idle (none_copied pages slots sectors extra q far pace)).1 in
    subst (λ (f : FlashState). IsInPace pages slots sectors start f.words extra) (sym still)
    (place_in_pace pages slots sectors extra entries start mid q known pace)

pub returns-clause-idle : goal.returns-clause-idle
returns-clause-idle g c = λ ready none.
    let same = c.find_pages.ensures.known ready in
    let still = (c.copy_older.ensures.idle (ap (λ (z : PageMap _). z.copied) same ∙ none)).1 in
    ap (λ (f : FlashState). f.operations) still ∙ c.find_pages.ensures.work

pub returns-in_err-find_pages-clause-turns : goal.returns-in_err-find_pages-clause-turns
returns-in_err-find_pages-clause-turns g c = λ n far takes.
    let slots = g.F.Flash.SLOTS in
    let pages = g.F.Flash.PAGES in
    let sectors = g.F.Flash.SECTORS in
    let old = g.F.Flash.state c.args.flash.now in
    let mid = g.F.Flash.state c.find_pages.new.flash in
    let p = c.args.place.now in
    let q = c.find_pages.new.place in
    let lost = c.in_err-find_pages.ensures.unready in
    lost_next pages slots sectors old mid p q n (was_lost pages slots sectors p q lost c.find_pages.ensures.known) lost
    c.find_pages.ensures.tried c.find_pages.ensures.words c.find_pages.ensures.work c.find_pages.ensures.erases
    (lights_once old mid c.find_pages.result c.find_pages.ensures.light) takes

pub returns-clause-turns : goal.returns-clause-turns
returns-clause-turns g c = λ n far takes.
    let slots = g.F.Flash.SLOTS in
    let pages = g.F.Flash.PAGES in
    let sectors = g.F.Flash.SECTORS in
    let old = g.F.Flash.state c.args.flash.now in
    let mid = g.F.Flash.state c.find_pages.new.flash in
    let new = g.F.Flash.state c.copy_older.new.flash in
    let p = c.args.place.now in
    let q = c.find_pages.new.place in
    let there = c.in_ok-find_pages.ensures.ready in
    let known = c.find_pages.ensures.log.known there in
    let free : AreFree old.words (base_in slots (turn_of slots old.words)) q.next slots =
    subst (λ (l : List ℕ). AreFree l (base_in slots (turn_of slots l)) q.next slots) c.find_pages.ensures.words
    (subst (λ (t : ℕ). AreFree mid.words (base_in slots t) q.next slots) known.turn known.free) in
    let found = found_next pages slots sectors old mid p q n there c.find_pages.ensures.words c.find_pages.ensures.work
    c.find_pages.ensures.erases (c.in_ok-find_pages.ensures.light.ok refl).faults free c.find_pages.ensures.known
    (λ unready next. c.in_ok-find_pages.ensures.next unready n (omega (arith, far)) next)
    (c.find_pages.ensures.paced 0) far takes in
    let still = c.copy_older.ensures.idle found.1 in
    still_next pages slots sectors old mid new p q c.copy_older.new.place n still.0 still.1 found.0

pub returns-in_err-find_pages-clause-turn : goal.returns-in_err-find_pages-clause-turn
returns-in_err-find_pages-clause-turn g c = ap (turn_of g.F.Flash.SLOTS) c.find_pages.ensures.words

pub returns-clause-turn : goal.returns-clause-turn
returns-clause-turn g c =
    c.copy_older.ensures.turn ∙ ap (turn_of g.F.Flash.SLOTS) c.find_pages.ensures.words

pub returns-in_err-find_pages-clause-begins : goal.returns-in_err-find_pages-clause-begins
returns-in_err-find_pages-clause-begins g c = λ extra n roomy stands begins.
    let p = c.args.place.now in
    let q = c.find_pages.new.place in
    let lost = c.in_err-find_pages.ensures.unready in
    begins_lost g.F.Flash.PAGES g.F.Flash.SLOTS g.F.Flash.SECTORS (g.F.Flash.state c.args.flash.now)
    (g.F.Flash.state c.find_pages.new.flash) p q n
    (was_lost g.F.Flash.PAGES g.F.Flash.SLOTS g.F.Flash.SECTORS p q lost c.find_pages.ensures.known) lost
    c.find_pages.ensures.tried c.find_pages.ensures.words begins

pub returns-clause-begins : goal.returns-clause-begins
returns-clause-begins g c = λ extra n roomy stands begins.
    let slots = g.F.Flash.SLOTS in
    let pages = g.F.Flash.PAGES in
    let sectors = g.F.Flash.SECTORS in
    let start = g.F.Flash.sector_start in
    let old = g.F.Flash.state c.args.flash.now in
    let mid = g.F.Flash.state c.find_pages.new.flash in
    let new = g.F.Flash.state c.copy_older.new.flash in
    let p = c.args.place.now in
    let q = c.find_pages.new.place in
    let known = c.find_pages.ensures.log.known c.in_ok-find_pages.ensures.ready in
    let here : AreFree mid.words (base_in slots (turn_of slots mid.words)) q.next slots =
    subst (λ (t : ℕ). AreFree mid.words (base_in slots t) q.next slots) known.turn known.free in
    let free : AreFree old.words (base_in slots (turn_of slots old.words)) q.next slots =
    subst (λ (l : List ℕ). AreFree l (base_in slots (turn_of slots l)) q.next slots) c.find_pages.ensures.words here in
    let pace = c.in_ok-find_pages.ensures.in_pace extra (omega (arith, roomy)) stands in
    let most = begins_found pages slots sectors old p q n free c.find_pages.ensures.known
    (λ unready. c.in_ok-find_pages.ensures.is_next unready
    (tried_within pages slots sectors p c.requires.log.passed)) begins in
    let tried = c.copy_older.ensures.tried in
    begins_on pages slots sectors mid new q c.copy_older.new.place n here pace.passed most c.copy_older.ensures.home
    (ap (base_in slots) c.copy_older.ensures.turn) (omega (arith, tried)) (λ ready. c.copy_older.ensures.next)

pub returns-clause-steps : goal.returns-clause-steps
returns-clause-steps g c =
    let pages = g.F.Flash.PAGES in
    let sectors = g.F.Flash.SECTORS in
    let q = c.find_pages.new.place in
    let known = c.find_pages.ensures.log.known c.in_ok-find_pages.ensures.ready in
    on_ok_weaker c.copy_older.result
    (λ (steps : q.behind < g.F.Flash.SLOTS
    → steps_left pages sectors c.copy_older.new.place ≡ steps_left pages sectors q). λ extra roomy pace.
    let same = c.find_pages.ensures.known pace.ready in
    let behind : q.behind ≡ c.args.place.now.behind = ap (λ (z : PageMap _). z.behind) same in
    let copied : q.copied ≡ c.args.place.now.copied = ap (λ (z : PageMap _). z.copied) same in
    let few = pace.few in
    let most = known.spare.most in
    let whole = g.met.F.Flash.pages_fit.2 in
    steps (omega (arith, roomy, few, most, behind, copied, whole))
    ∙ ap (λ (z : PageMap _). steps_left pages sectors z) same)
    c.copy_older.ensures.steps
