use Rattle.std.proofs.Common.{ap}
use Rattle.nvm_board.specs.Facts.{Facts}
use Rattle.bench_turns.specs.BenchStates.{off}
use Rattle.card_turns.proofs.playing.Bench.new.Goals as goal

pub returns : goal.returns
returns g c = ap (λ (f : Facts). off f) c.power_off.ensures
