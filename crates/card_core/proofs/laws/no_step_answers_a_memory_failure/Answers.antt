use Rattle.card_core.proofs.Failing.{never-failing}
use Rattle.card_core.proofs.laws.no_step_answers_a_memory_failure.Goals as goal

pub returns : goal.returns
returns c = never-failing
