use Rattle.bench_turns.proofs.TurnsTold.{good-turn}
use Rattle.card_turns.proofs.playing.BenchTurnPlayer.turn_well.Goals as goal

pub returns : goal.returns
returns g c = λ good.
    good-turn _ _ _ _ _ c.has_no_fault.ensures.faults c.has_no_fault.ensures.due good c.turn-turned.ensures
