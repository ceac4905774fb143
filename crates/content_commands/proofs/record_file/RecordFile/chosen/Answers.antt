-- Searched for once: a wrong body is refused at once, where the check by itself would try dearer searches.
use Rattle.std.proofs.Common.{rules}
use Rattle.content_commands.proofs.record_file.RecordFile.chosen.Goals as goal

pub returns-in-Next : goal.returns-in-Next
returns-in-Next c = search rules
