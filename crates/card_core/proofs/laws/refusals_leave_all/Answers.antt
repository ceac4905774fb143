use Rattle.card_model.specs.CommandTable.{asked}
use Rattle.card_core.proofs.Refusing.{refusals-leave}
use Rattle.card_core.proofs.laws.refusals_leave_all.Goals as goal

pub returns : goal.returns
returns c = λ card session command. refusals-leave card session (asked command)
