use Rattle.bench_turns.proofs.FewGuesses.{few-unblocking, few-values}
use Rattle.bench_turns.proofs.laws.guesses_are_few.Goals as goal

pub returns-clause-values : goal.returns-clause-values
returns-clause-values c = few-values

pub returns-clause-unblocking_values : goal.returns-clause-unblocking_values
returns-clause-unblocking_values c = few-unblocking
