use Rattle.card_bench.proofs.ScriptInWorld.{power-on-begins, line-goes_on}
use Rattle.card_bench.proofs.laws.script_goes_on_in_a_world.Goals as goal

pub returns-clause-begins : goal.returns-clause-begins
returns-clause-begins c = power-on-begins

pub returns-clause-goes_on : goal.returns-clause-goes_on
returns-clause-goes_on c = line-goes_on
