use Rattle.std.proofs.Common.{sym, ap, ◌∙◌}
use Rattle.flash_moves.specs.Paces.{LogState}
use Rattle.flash_log.proofs.flash_log.FlashLog.has_no_fault.Goals as goal

pub returns : goal.returns
returns g c =
    ap (λ (s : LogState). s.flash.faults) (sym c.self.view_is) ∙ g.met.F.CutFlash.faultless c.self.inside.flash
