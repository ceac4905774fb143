use Rattle.std.proofs.Common.{rules}
use Rattle.card_model.proofs.laws.status_words.Goals as goal

pub returns-clause-not_understood : goal.returns-clause-not_understood
returns-clause-not_understood c = search rules
