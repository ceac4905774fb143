use Rattle.std.proofs.Common.{◌≡◌, ◌⊎◌, ◌≤◌, ◌+◌, ◌-◌, true, false, ap, subst, arith}
use Rattle.flash_moves.specs.Paces.{HasFreeSlots, IsInPace, IsInPaceFrom, IsRoomy, LogState, RenewsOnly, StandsInPace}
use Rattle.flash_moves.specs.Paces.{extra_slots, failed_since, is_paced, lead_of, lost_since}
use Rattle.flash_moves.specs.Places.{state_of}
use Rattle.flash_moves.specs.laws.Losing.{free_in_pace, kept_slots}
use Rattle.flash_moves.specs.laws.Pacing.{is_paced_by, stands_view, view_stands}
use Rattle.flash_log.proofs.flash_log.FlashLog.renew.Goals as goal

pub returns-clause-paced : goal.returns-clause-paced
returns-clause-paced g c = λ roomy few.
    let slots = g.F.Flash.SLOTS in
    let pages = g.F.Flash.PAGES in
    let sectors = g.F.Flash.SECTORS in
    let was : (g.F.Flash.state c.self.inside.flash).faults ≡ c.args.self.now.flash.faults =
    ap (λ (l : LogState). l.flash.faults) c.self.view_is in
    let pace = is_paced_by pages slots sectors 0 c.renew_pages.new.place
    (c.in_ok-renew_pages.ensures.pace roomy (omega (arith, few, was))) in
    let none = pace.1 in (pace.0, omega (arith, none))

pub returns-clause-free : goal.returns-clause-free
returns-clause-free g c =
    let was : (g.F.Flash.state c.self.inside.flash).faults ≡ c.args.self.now.flash.faults =
    ap (λ (l : LogState). l.flash.faults) c.self.view_is in
    let free = c.in_ok-renew_pages.ensures.free in
    omega (arith, free, was)

pub returns-in_err-renew_pages-clause-lost : goal.returns-in_err-renew_pages-clause-lost
returns-in_err-renew_pages-clause-lost g c =
    let slots = g.F.Flash.SLOTS in
    let pages = g.F.Flash.PAGES in
    let sectors = g.F.Flash.SECTORS in
    let start = g.F.Flash.sector_start in
    let old = g.F.Flash.state c.self.inside.flash in
    let new = g.F.Flash.state c.renew_pages.new.flash in
    let fit = g.met.F.Flash.sectors_fit in
    subst (λ (l : LogState). pages + (new.faults - l.flash.faults) + lead_of pages sectors ≤ slots
    → HasFreeSlots slots (lead_of pages sectors) l.raw
    → HasFreeSlots slots (lead_of pages sectors) new.words × IsInPace pages slots sectors start new.words 0)
    c.self.view_is
    (λ roomy has.
    let kept = kept_slots pages slots sectors old new roomy (c.renew_pages.ensures.keeps_free has) has in (
      kept,
      free_in_pace pages slots sectors start g.met.F.Flash.sectors_rise fit.0 fit.1 fit.2 fit.4
          g.met.F.Flash.pages_fit.0 new.words kept,
    ))

pub returns-in_err-renew_pages-clause-stands : goal.returns-in_err-renew_pages-clause-stands
returns-in_err-renew_pages-clause-stands g c = λ extra.
    let slots = g.F.Flash.SLOTS in
    let pages = g.F.Flash.PAGES in
    let sectors = g.F.Flash.SECTORS in
    let start = g.F.Flash.sector_start in
    let old = g.F.Flash.state c.self.inside.flash in
    let new = g.F.Flash.state c.renew_pages.new.flash in
    let p = c.self.inside.place in
    let q = c.renew_pages.new.place in
    subst (λ (l : LogState). IsRoomy pages slots sectors (extra + failed_since l.flash (state_of pages slots new))
    → StandsInPace pages slots sectors start extra l
    → ((is_paced pages slots sectors q ≡ true)
    × (extra_slots q ≤ extra + lost_since l.flash (state_of pages slots new)))
    ⊎ ((q.ready ≡ false) × IsInPaceFrom pages slots sectors start new.words
    (extra + lost_since l.flash (state_of pages slots new)) q.tried))
    c.self.view_is
    (λ roomy stands. view_stands pages slots sectors (extra + lost_since old new) start new.words q
    (c.renew_pages.ensures.stands extra roomy
    (stands_view pages slots sectors extra start old.words p stands)))

pub returns-in_err-renew_pages-clause-calm : goal.returns-in_err-renew_pages-clause-calm
returns-in_err-renew_pages-clause-calm g c =
    let slots = g.F.Flash.SLOTS in
    let pages = g.F.Flash.PAGES in
    let sectors = g.F.Flash.SECTORS in
    let new = g.F.Flash.state c.renew_pages.new.flash in
    subst (λ (l : LogState). HasFreeSlots slots (lead_of pages sectors) l.raw
    → RenewsOnly pages sectors l.flash (state_of pages slots new)) c.self.view_is
    (λ has. let only = c.renew_pages.ensures.calm has in
    let operations = only.work.operations in
    let erases = only.erases in
    record { work = record { operations = operations }; erases = erases })

pub returns-clause-lost : goal.returns-clause-lost
returns-clause-lost g c =
    let slots = g.F.Flash.SLOTS in
    let pages = g.F.Flash.PAGES in
    let sectors = g.F.Flash.SECTORS in
    let start = g.F.Flash.sector_start in
    let old = g.F.Flash.state c.self.inside.flash in
    let new = g.F.Flash.state c.renew_pages.new.flash in
    let fit = g.met.F.Flash.sectors_fit in
    subst (λ (l : LogState). pages + (new.faults - l.flash.faults) + lead_of pages sectors ≤ slots
    → HasFreeSlots slots (lead_of pages sectors) l.raw
    → HasFreeSlots slots (lead_of pages sectors) new.words × IsInPace pages slots sectors start new.words 0)
    c.self.view_is
    (λ roomy has.
    let kept = kept_slots pages slots sectors old new roomy (c.renew_pages.ensures.keeps_free has) has in (
      kept,
      free_in_pace pages slots sectors start g.met.F.Flash.sectors_rise fit.0 fit.1 fit.2 fit.4
          g.met.F.Flash.pages_fit.0 new.words kept,
    ))

pub returns-clause-stands : goal.returns-clause-stands
returns-clause-stands g c = λ extra.
    let slots = g.F.Flash.SLOTS in
    let pages = g.F.Flash.PAGES in
    let sectors = g.F.Flash.SECTORS in
    let start = g.F.Flash.sector_start in
    let old = g.F.Flash.state c.self.inside.flash in
    let new = g.F.Flash.state c.renew_pages.new.flash in
    let p = c.self.inside.place in
    let q = c.renew_pages.new.place in
    subst (λ (l : LogState). IsRoomy pages slots sectors (extra + failed_since l.flash (state_of pages slots new))
    → StandsInPace pages slots sectors start extra l
    → ((is_paced pages slots sectors q ≡ true)
    × (extra_slots q ≤ extra + lost_since l.flash (state_of pages slots new)))
    ⊎ ((q.ready ≡ false) × IsInPaceFrom pages slots sectors start new.words
    (extra + lost_since l.flash (state_of pages slots new)) q.tried))
    c.self.view_is
    (λ roomy stands. view_stands pages slots sectors (extra + lost_since old new) start new.words q
    (c.renew_pages.ensures.stands extra roomy
    (stands_view pages slots sectors extra start old.words p stands)))

pub returns-clause-calm : goal.returns-clause-calm
returns-clause-calm g c =
    let slots = g.F.Flash.SLOTS in
    let pages = g.F.Flash.PAGES in
    let sectors = g.F.Flash.SECTORS in
    let new = g.F.Flash.state c.renew_pages.new.flash in
    subst (λ (l : LogState). HasFreeSlots slots (lead_of pages sectors) l.raw
    → RenewsOnly pages sectors l.flash (state_of pages slots new)) c.self.view_is
    (λ has. let only = c.renew_pages.ensures.calm has in
    let operations = only.work.operations in
    let erases = only.erases in
    record { work = record { operations = operations }; erases = erases })
