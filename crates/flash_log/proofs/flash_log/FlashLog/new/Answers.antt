use Rattle.std.proofs.Common.{refl}
use Rattle.flash_moves.specs.Paces.{is_paced}
use Rattle.flash_log.proofs.flash_log.FlashLog.new.Goals as goal

pub returns : goal.returns
unfolding is_paced
returns g c = record { is = refl }
