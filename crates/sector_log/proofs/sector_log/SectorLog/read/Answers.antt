use Rattle.std.proofs.Common.{◌≡◌, ◌<◌, ◌-◌, ◌∙◌, ℕ, List, ap, sym, subst, true≢false}
use Rattle.std.proofs.lemmas.Result.{on_ok_weaker}
use Rattle.flash_device.specs.FlashLogs.{turn_of}
use Rattle.flash_moves.specs.declared.place.PageMap.{PageMap}
use Rattle.flash_moves.specs.Paces.{free_slots}
use Rattle.flash_moves.specs.Places.{state_of}
use Rattle.flash_log.specs.SlotsInTurn.{IsNextSlot}
use Rattle.sector_moves.specs.SectorPlaces.{KeepsStep}
use Rattle.sector_moves.specs.SectorSpares.{HasFewestSteps, HasOlderCopy}
use Rattle.sector_log.specs.SectorLogs.{FindsSteps, SectorLogState, known_sector_steps, sector_log_value}
use Rattle.sector_log.specs.laws.Reading.{finds_known, next_known, none_known, waits_same}
use Rattle.sector_log.specs.laws.Trying.{by_bool, fewest_known, free_known, steps_fit, value_stays}
use Rattle.sector_log.proofs.sector_log.SectorLog.read.Goals as goal

pub returns-clause-known : goal.returns-clause-known
returns-clause-known g c =
    let pages = g.F.Flash.PAGES in
    let slots = g.F.Flash.SLOTS in
    let sectors = g.F.Flash.SECTORS in
    let old = g.F.Flash.state c.self.inside.flash in
    let new = g.F.Flash.state c.read_at.new.flash in
    subst (λ (l : SectorLogState). 0 < l.free → sector_log_value pages slots sectors new c.read_at.new.place
    ≡ record l { flash = state_of pages slots new }) c.self.view_is
    (value_stays pages slots sectors old new c.self.inside.place c.read_at.new.place c.read_at.ensures.known
    c.read_at.ensures.words)

pub returns-clause-in_step : goal.returns-clause-in_step
returns-clause-in_step g c =
    let place = c.read_at.new.place in
    on_ok_weaker c.read_at.result
    (λ ready. steps_fit g.F.Table.PageTable.entries g.F.Flash.PAGES g.F.Flash.SLOTS g.F.Flash.SECTORS
    g.F.Flash.sector_start (g.F.Flash.state c.read_at.new.flash).words place ready
    (c.read_at.ensures.log.known ready))
    c.read_at.ensures.ready

pub returns-clause-waits : goal.returns-clause-waits
returns-clause-waits g c =
    let pages = g.F.Flash.PAGES in
    let slots = g.F.Flash.SLOTS in
    let sectors = g.F.Flash.SECTORS in
    let old = g.F.Flash.state c.self.inside.flash in
    let new = g.F.Flash.state c.read_at.new.flash in
    let p = c.self.inside.place in
    let q = c.read_at.new.place in
    subst (λ (l : SectorLogState). free_slots slots q ≡ 0 → sector_log_value pages slots sectors new q
    ≡ record l { flash = state_of pages slots new }) c.self.view_is
    (λ none.
    let lost = none_known g.F.Table.PageTable.entries pages slots sectors g.F.Flash.sector_start new.words q
    c.read_at.ensures.log none in
    by_bool p.ready
    (λ ready. absurd (true≢false (sym ready
    ∙ sym (ap (λ (x : PageMap _). x.ready) (c.read_at.ensures.known ready)) ∙ lost)))
    (λ unready. waits_same pages slots sectors old new p q unready lost c.read_at.ensures.tried
    c.read_at.ensures.words))

pub returns-clause-next : goal.returns-clause-next
returns-clause-next g c =
    let pages = g.F.Flash.PAGES in
    let slots = g.F.Flash.SLOTS in
    let sectors = g.F.Flash.SECTORS in
    let start = g.F.Flash.sector_start in
    let entries = g.F.Table.PageTable.entries in
    let m = (g.F.Flash.state c.self.inside.flash).words in
    let p = c.self.inside.place in
    let q = c.read_at.new.place in
    subst (λ (l : SectorLogState). l.free ≡ 0 → 0 < free_slots slots q
    → IsNextSlot slots l.raw l.tried (slots - free_slots slots q)) c.self.view_is
    (λ none some.
    let ready = (free_known slots q some).0 in
    next_known entries pages slots sectors start m q p.tried ready
    (subst (λ (l : List ℕ). KeepsStep entries pages slots sectors start l q) c.read_at.ensures.words
    (c.read_at.ensures.log.known ready)) c.read_at.ensures.tried
    (c.read_at.ensures.first (none_known entries pages slots sectors start m p c.self.invariant none) ready))

pub returns-clause-fewest : goal.returns-clause-fewest
returns-clause-fewest g c =
    let pages = g.F.Flash.PAGES in
    let slots = g.F.Flash.SLOTS in
    let sectors = g.F.Flash.SECTORS in
    let start = g.F.Flash.sector_start in
    let entries = g.F.Table.PageTable.entries in
    let m = (g.F.Flash.state c.self.inside.flash).words in
    let p = c.self.inside.place in
    let q = c.read_at.new.place in
    subst (λ (l : SectorLogState). l.free ≡ 0 → 0 < free_slots slots q → HasFewestSteps pages slots sectors start l.raw
    (turn_of slots l.raw) (free_slots slots q) (known_sector_steps pages sectors q)) c.self.view_is
    (λ none some.
    fewest_known pages slots sectors start m q (turn_of slots m)
    (λ ready. (c.read_at.ensures.log.known ready).place.turn ∙ ap (turn_of slots) c.read_at.ensures.words)
    (c.read_at.ensures.fewest (none_known entries pages slots sectors start m p c.self.invariant none)
    (free_known slots q some).0))

pub returns-clause-finds : goal.returns-clause-finds
returns-clause-finds g c =
    let pages = g.F.Flash.PAGES in
    let slots = g.F.Flash.SLOTS in
    let sectors = g.F.Flash.SECTORS in
    let start = g.F.Flash.sector_start in
    let entries = g.F.Table.PageTable.entries in
    let m = (g.F.Flash.state c.self.inside.flash).words in
    let new = g.F.Flash.state c.read_at.new.flash in
    let p = c.self.inside.place in
    let q = c.read_at.new.place in
    subst (λ (l : SectorLogState). l.free ≡ 0 → 0 < free_slots slots q
    → FindsSteps pages slots sectors start (sector_log_value pages slots sectors new q)) c.self.view_is
    (λ none some.
    let ready = (free_known slots q some).0 in
    finds_known entries pages slots sectors start new q ready (c.read_at.ensures.log.known ready)
    (subst (λ (l : List ℕ). HasOlderCopy slots sectors start l q.turn q.copied q.older) (sym c.read_at.ensures.words)
    (c.read_at.ensures.older (none_known entries pages slots sectors start m p c.self.invariant none) ready)))
