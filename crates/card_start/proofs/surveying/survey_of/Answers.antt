-- Searched for once: a wrong body is refused at once, where the check by itself would try dearer searches.
use Rattle.std.proofs.Common.{rules}
use Rattle.card_start.proofs.surveying.survey_of.Goals as goal

pub returns-in-Ok-Some : goal.returns-in-Ok-Some
returns-in-Ok-Some c = search rules
