use Rattle.std.proofs.Common.{rules}
use Rattle.fcp_template.proofs.reading.can_exist.Goals as goal

pub returns-then-contains : goal.returns-then-contains
returns-then-contains c = search rules
