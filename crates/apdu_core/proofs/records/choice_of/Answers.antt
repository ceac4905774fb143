use Rattle.std.proofs.Common.{rules}
use Rattle.apdu_core.proofs.records.choice_of.Goals as goal

pub returns-in-3-clause-choice : goal.returns-in-3-clause-choice
returns-in-3-clause-choice c = record { known = search rules; named = search rules }
