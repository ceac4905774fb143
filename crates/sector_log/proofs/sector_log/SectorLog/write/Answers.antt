use Rattle.std.proofs.Common.{◌<◌, ◌≤◌, ◌+◌, ℕ, IsErrOf, subst}
use Rattle.nvm_board.specs.declared.board.DeviceErr.TheVariants.{Fault}
use Rattle.sector_log.specs.SectorLogs.{GivesUpBehind, SectorLogState, sector_log_value}
use Rattle.sector_log.proofs.sector_log.SectorLog.write.Goals as goal

pub returns-clause-keeps_trying : goal.returns-clause-keeps_trying
returns-clause-keeps_trying g c =
    let slots = g.F.Flash.SLOTS in
    let pages = g.F.Flash.PAGES in
    let sectors = g.F.Flash.SECTORS in
    let start = g.F.Flash.sector_start in
    let new = g.F.Flash.state c.write_at.new.flash in
    let last = sector_log_value pages slots sectors new c.write_at.new.place in
    subst (λ (l : SectorLogState). (k : ℕ) → 0 < l.free → l.steps + k ≤ l.free → IsErrOf c.write_at.result Fault
    → GivesUpBehind pages slots sectors start c.args.page k l last) c.self.view_is c.write_at.ensures.keeps_trying
