use Rattle.card_bench.proofs.ExchangeInWorld.{exchange-runs}
use Rattle.card_bench.proofs.laws.exchange_is_a_run_of_the_world.Goals as goal

pub returns : goal.returns
returns c = exchange-runs
