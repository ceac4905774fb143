-- Searched for once: a wrong body is refused at once, where the check by itself would try dearer searches.
use Rattle.std.proofs.Common.{rules}
use Rattle.command_base.proofs.lengths.right_length.Goals as goal

pub returns : goal.returns
returns c = search rules
