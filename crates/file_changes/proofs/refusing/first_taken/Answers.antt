use Rattle.std.proofs.Common.{rules}
use Rattle.file_changes.proofs.refusing.first_taken.Goals as goal

pub returns-then-taken-2 : goal.returns-then-taken-2
returns-then-taken-2 c = search rules
