-- Searched for once: a wrong body is refused at once, where the check by itself would try dearer searches.
use Rattle.std.proofs.Common.{rules}
use Rattle.card_core.proofs.card.end_command.Goals as goal

pub returns-in-Ok-clause-done : goal.returns-in-Ok-clause-done
returns-in-Ok-clause-done c = search rules

pub returns-in-Err-Fault-clause-failed : goal.returns-in-Err-Fault-clause-failed
returns-in-Err-Fault-clause-failed c = search rules
