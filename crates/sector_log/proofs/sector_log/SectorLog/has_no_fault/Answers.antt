use Rattle.std.proofs.Common.{sym, ap, ◌∙◌}
use Rattle.sector_log.specs.SectorLogs.{SectorLogState}
use Rattle.sector_log.proofs.sector_log.SectorLog.has_no_fault.Goals as goal

pub returns : goal.returns
returns g c =
    ap (λ (s : SectorLogState). s.flash.faults) (sym c.self.view_is) ∙ g.met.F.CutFlash.faultless c.self.inside.flash
