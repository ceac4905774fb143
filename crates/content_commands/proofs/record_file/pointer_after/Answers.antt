-- Searched for once: a wrong body is refused at once, where the check by itself would try dearer searches.
use Rattle.std.proofs.Common.{rules}
use Rattle.content_commands.proofs.record_file.pointer_after.Goals as goal

pub returns-in-At : goal.returns-in-At
returns-in-At c = search rules
