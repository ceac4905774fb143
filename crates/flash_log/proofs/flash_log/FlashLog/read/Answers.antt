use Rattle.std.proofs.Common.{◌≡◌, ◌⊎◌, ◌<◌, ◌≤◌, ◌+◌, ◌-◌, ◌∙◌, ℕ, List, true, false, ap, subst, sym, arith, ⊎_elim}
use Rattle.std.proofs.Common.{true≢false}
use Rattle.std.proofs.lemmas.Bool.{cases_Bool}
use Rattle.std.proofs.lemmas.Result.{on_ok_weaker}
use Rattle.flash_moves.specs.declared.place.PageMap.{PageMap}
use Rattle.flash_moves.specs.Places.{FindsFree, log_value, state_of}
use Rattle.flash_device.specs.FlashLogs.{turn_of}
use Rattle.flash_log.specs.SlotsInTurn.{SameNext}
use Rattle.flash_log.specs.StepsLeft.{HasFewestLeft}
use Rattle.flash_log.specs.laws.Beginning.{waits_same}
use Rattle.flash_log.specs.laws.Finding.{fewest_found}
use Rattle.flash_moves.specs.Paces.{IsInPaceFrom, KeepsPace, LogState, StandsInPace, WillKeepPace, free_slots, is_fresh}
use Rattle.flash_moves.specs.Paces.{extra_of, extra_slots, is_paced, known_steps, lead_of}
use Rattle.flash_moves.specs.laws.Pacing.{free_of, free_same, fresh_is, is_paced_by, paced_is}
use Rattle.flash_moves.specs.laws.Pacing.{stands_view, view_stands}
use Rattle.flash_log.proofs.flash_log.FlashLog.read.Goals as goal

pub returns-clause-paced : goal.returns-clause-paced
returns-clause-paced g c =
    let pages = g.F.Flash.PAGES in
    let slots = g.F.Flash.SLOTS in
    let sectors = g.F.Flash.SECTORS in
    let old = c.self.inside.place in
    let new = c.read_at.new.place in
    subst (λ (l : LogState). l.paced ≡ true → (is_paced pages slots sectors new ≡ true) × (extra_slots new ≡ l.extra))
    c.self.view_is
    (λ pace.
    let same = c.read_at.ensures.known (paced_is pages slots sectors (extra_slots old) old pace
    (omega arith)).ready in (
      ap (is_paced pages slots sectors) same ∙ pace,
      ap (λ (p : PageMap _). extra_slots p) same,
    ))

pub returns-clause-free : goal.returns-clause-free
returns-clause-free g c =
    let slots = g.F.Flash.SLOTS in
    subst (λ (l : LogState). l.free ≤ free_slots slots c.read_at.new.place) c.self.view_is
    (free_same g.F.Flash.PAGES slots g.F.Flash.SECTORS c.self.inside.place c.read_at.new.place c.read_at.ensures.known)

pub returns-clause-found : goal.returns-clause-found
returns-clause-found g c =
    let slots = g.F.Flash.SLOTS in
    on_ok_weaker c.read_at.result
    (λ (finds : c.self.inside.place.ready ≡ false → c.self.inside.place.tried ≡ 0
    → FindsFree slots (g.F.Flash.state c.self.inside.flash).words (free_slots slots c.read_at.new.place)).
    subst (λ (l : LogState). l.fresh ≡ true → FindsFree slots l.raw (free_slots slots c.read_at.new.place))
    c.self.view_is
    (λ fresh.
    let is = fresh_is g.F.Flash.PAGES slots g.F.Flash.SECTORS c.self.inside.place fresh in finds is.0 is.1))
    c.read_at.ensures.found

pub returns-clause-looks : goal.returns-clause-looks
returns-clause-looks g c =
    let slots = g.F.Flash.SLOTS in
    let place = c.read_at.new.place in
    subst (λ (l : LogState). l.fresh ≡ true → (is_fresh place ≡ true) ⊎ FindsFree slots l.raw (free_slots slots place))
    c.self.view_is c.read_at.ensures.looks

pub returns-clause-in_pace : goal.returns-clause-in_pace
returns-clause-in_pace g c =
    let pages = g.F.Flash.PAGES in
    let slots = g.F.Flash.SLOTS in
    let sectors = g.F.Flash.SECTORS in
    let place = c.read_at.new.place in
    subst (λ (l : LogState). l.ready ≡ false → lead_of pages sectors < free_slots slots place
    → (is_paced pages slots sectors place ≡ true) × (extra_slots place ≡ 0))
    c.self.view_is
    (λ unready far.
    let pace = is_paced_by pages slots sectors 0 place (c.read_at.ensures.paced 0 unready far) in
    let none = pace.1 in (pace.0, omega (arith, none)))

pub returns-clause-finds : goal.returns-clause-finds
returns-clause-finds g c =
    let pages = g.F.Flash.PAGES in
    let slots = g.F.Flash.SLOTS in
    let sectors = g.F.Flash.SECTORS in
    let start = g.F.Flash.sector_start in
    let m = (g.F.Flash.state c.self.inside.flash).words in
    let place = c.read_at.new.place in
    on_ok_weaker c.read_at.result
    (λ (finds : (extra : ℕ) → extra ≤ extra_of pages slots sectors
    → WillKeepPace pages slots sectors start m extra c.self.inside.place → KeepsPace pages slots sectors extra place).
    λ extra fits.
    subst (λ (l : LogState). StandsInPace pages slots sectors start extra l
    → (is_paced pages slots sectors place ≡ true) × (extra_slots place ≤ extra))
    c.self.view_is
    (λ stands. is_paced_by pages slots sectors extra place
    (finds extra fits (stands_view pages slots sectors extra start m c.self.inside.place stands))))
    c.read_at.ensures.in_pace

pub returns-clause-stands : goal.returns-clause-stands
returns-clause-stands g c = λ extra fits.
    let pages = g.F.Flash.PAGES in
    let slots = g.F.Flash.SLOTS in
    let sectors = g.F.Flash.SECTORS in
    let start = g.F.Flash.sector_start in
    let m = (g.F.Flash.state c.self.inside.flash).words in
    let after = (g.F.Flash.state c.read_at.new.flash).words in
    let place = c.read_at.new.place in
    subst (λ (l : LogState). StandsInPace pages slots sectors start extra l
    → ((is_paced pages slots sectors place ≡ true) × (extra_slots place ≤ extra))
    ⊎ ((place.ready ≡ false) × IsInPaceFrom pages slots sectors start after extra place.tried))
    c.self.view_is
    (λ stands. view_stands pages slots sectors extra start after place
    (c.read_at.ensures.stands extra fits (stands_view pages slots sectors extra start m c.self.inside.place stands)))

pub returns-clause-fewest : goal.returns-clause-fewest
returns-clause-fewest g c =
    let pages = g.F.Flash.PAGES in
    let slots = g.F.Flash.SLOTS in
    let sectors = g.F.Flash.SECTORS in
    let start = g.F.Flash.sector_start in
    let m = (g.F.Flash.state c.self.inside.flash).words in
    let place = c.read_at.new.place in
    subst (λ (l : LogState). l.ready ≡ false → place.ready ≡ true → free_slots slots place ≤ lead_of pages sectors
    → HasFewestLeft pages slots sectors start l.raw (slots - free_slots slots place) (known_steps pages sectors place))
    c.self.view_is
    (λ unready ready few.
    let at = c.read_at.ensures.log.known ready in
    let within = at.free.within in
    let free = free_of pages slots sectors place ready in
    let due : slots ≤ place.next + lead_of pages sectors = omega (arith, few, free) in
    fewest_found pages slots sectors start m place ready (at.turn ∙ ap (turn_of slots) c.read_at.ensures.words) within
    (c.read_at.ensures.furthest unready ready due))

pub returns-clause-known : goal.returns-clause-known
returns-clause-known g c =
    let slots = g.F.Flash.SLOTS in
    let pages = g.F.Flash.PAGES in
    let sectors = g.F.Flash.SECTORS in
    let new = g.F.Flash.state c.read_at.new.flash in
    let after = log_value pages slots sectors new c.read_at.new.place in
    subst (λ (l : LogState). l.ready ≡ true → after ≡ record l { flash = state_of pages slots new }) c.self.view_is
    (λ ready. ap (λ (p : PageMap _). log_value pages slots sectors new p) (c.read_at.ensures.known ready)
    ∙ ap (λ (m : List ℕ). record (log_value pages slots sectors new c.self.inside.place) { raw = m })
    c.read_at.ensures.words)

pub returns-clause-waits : goal.returns-clause-waits
returns-clause-waits g c =
    let slots = g.F.Flash.SLOTS in
    let pages = g.F.Flash.PAGES in
    let sectors = g.F.Flash.SECTORS in
    let old = g.F.Flash.state c.self.inside.flash in
    let new = g.F.Flash.state c.read_at.new.flash in
    let p = c.self.inside.place in
    let q = c.read_at.new.place in
    subst (λ (l : LogState). q.ready ≡ false → log_value pages slots sectors new q
    ≡ record l { flash = state_of pages slots new }) c.self.view_is
    (λ lost. ⊎_elim
    (λ (ready : p.ready ≡ true). absurd (true≢false (sym ready
    ∙ sym (ap (λ (x : PageMap _). x.ready) (c.read_at.ensures.known ready)) ∙ lost)))
    (λ (unready : p.ready ≡ false). waits_same pages slots sectors old new p q unready lost c.read_at.ensures.tried
    c.read_at.ensures.words)
    (cases_Bool p.ready))

pub returns-clause-same_next : goal.returns-clause-same_next
returns-clause-same_next g c =
    let slots = g.F.Flash.SLOTS in
    let after = log_value g.F.Flash.PAGES slots g.F.Flash.SECTORS (g.F.Flash.state c.read_at.new.flash)
    c.read_at.new.place in
    subst (λ (l : LogState). SameNext slots l after) c.self.view_is c.read_at.ensures.same_next
