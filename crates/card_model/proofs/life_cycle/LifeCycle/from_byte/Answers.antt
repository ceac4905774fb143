use Rattle.std.proofs.Common.{rules}
use Rattle.card_model.proofs.life_cycle.LifeCycle.from_byte.Goals as goal

pub returns-in-4 : goal.returns-in-4
returns-in-4 c = search rules
