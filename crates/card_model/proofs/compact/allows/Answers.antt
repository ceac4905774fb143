use Rattle.std.proofs.Common.{rules}
use Rattle.card_model.proofs.compact.allows.Goals as goal

pub returns-in-None : goal.returns-in-None
returns-in-None c = search rules

pub returns-in-Some : goal.returns-in-Some
returns-in-Some c = search rules
