use Rattle.std.proofs.Common.{◌≡◌, true, false, subst}
use Rattle.flash_moves.specs.Paces.{IsInPace, LogState, StandsInPace}
use Rattle.flash_moves.specs.laws.Pacing.{fresh_is, in_pace_by}
use Rattle.flash_log.proofs.flash_log.FlashLog.stays_in_pace.Goals as goal

pub returns-clause-pace : goal.returns-clause-pace
returns-clause-pace g c = λ extra.
    let pages = g.F.Flash.PAGES in
    let slots = g.F.Flash.SLOTS in
    let sectors = g.F.Flash.SECTORS in
    let start = g.F.Flash.sector_start in
    let m = (g.F.Flash.state c.self.inside.flash).words in
    subst (λ (l : LogState). StandsInPace pages slots sectors start extra l
    → IsInPace pages slots sectors start l.raw extra)
    c.self.view_is
    (in_pace_by pages slots sectors extra g.F.Table.PageTable.entries start m c.self.inside.place c.self.invariant)

pub returns-clause-fresh : goal.returns-clause-fresh
returns-clause-fresh g c =
    subst (λ (l : LogState). l.fresh ≡ true → (l.ready ≡ false) × (l.tried ≡ 0)) c.self.view_is
    (fresh_is g.F.Flash.PAGES g.F.Flash.SLOTS g.F.Flash.SECTORS c.self.inside.place)
