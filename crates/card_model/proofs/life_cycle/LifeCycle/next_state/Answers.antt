use Rattle.std.proofs.Common.{rules}
use Rattle.card_model.proofs.life_cycle.LifeCycle.next_state.Goals as goal

pub returns-in-Activate-default : goal.returns-in-Activate-default
returns-in-Activate-default c = search rules
