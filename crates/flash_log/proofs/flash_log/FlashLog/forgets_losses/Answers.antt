use Rattle.std.proofs.Common.{◌≡◌, ◌<◌, true, subst}
use Rattle.flash_moves.specs.Paces.{LogState, lead_of}
use Rattle.flash_moves.specs.laws.Pacing.{none_given}
use Rattle.flash_log.proofs.flash_log.FlashLog.forgets_losses.Goals as goal

pub returns : goal.returns
returns g c =
    subst (λ (l : LogState). l.paced ≡ true → lead_of g.F.Flash.PAGES g.F.Flash.SECTORS < l.free → l.extra ≡ 0)
    c.self.view_is
    (none_given g.F.Flash.PAGES g.F.Flash.SLOTS g.F.Flash.SECTORS c.self.inside.place)
