use Rattle.std.proofs.Common.{rules}
use Rattle.simulated_boards.proofs.arming.nearer.Goals as goal

pub returns-clause-before : goal.returns-clause-before
returns-clause-before c = search rules
