use Rattle.card_bench.proofs.BlocksOnLine.{arriving-later, line_after-later}
use Rattle.card_bench.proofs.laws.faults_fall_due_in_turn.Goals as goal

pub returns-clause-later : goal.returns-clause-later
returns-clause-later c = line_after-later

pub returns-clause-due : goal.returns-clause-due
returns-clause-due c = arriving-later
