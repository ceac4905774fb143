use Rattle.std.proofs.Common.{refl}
use Rattle.bench_turns.proofs.FewGuesses.{pays-nothing, pays-on}
use Rattle.bench_turns.proofs.laws.guesses_add_up.Goals as goal

pub returns-clause-none : goal.returns-clause-none
returns-clause-none c = λ old. pays-nothing old old refl refl

pub returns-clause-on : goal.returns-clause-on
returns-clause-on c = pays-on
