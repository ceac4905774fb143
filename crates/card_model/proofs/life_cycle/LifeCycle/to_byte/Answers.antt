use Rattle.std.proofs.Common.{rules}
use Rattle.card_model.proofs.life_cycle.LifeCycle.to_byte.Goals as goal

pub returns-in-Terminated-clause-value : goal.returns-in-Terminated-clause-value
returns-in-Terminated-clause-value c = search rules
