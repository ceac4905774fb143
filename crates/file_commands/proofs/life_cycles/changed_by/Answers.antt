-- Searched for once: a wrong body is refused at once, where the check by itself would try dearer searches.
use Rattle.std.proofs.Common.{rules}
use Rattle.file_commands.proofs.life_cycles.changed_by.Goals as goal

pub returns-in_default : goal.returns-in_default
returns-in_default c = search rules

pub returns-then-not-is_for : goal.returns-then-not-is_for
returns-then-not-is_for c = search rules
