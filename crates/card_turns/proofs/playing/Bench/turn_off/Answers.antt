use Rattle.bench_turns.proofs.PowerTurns.{turns_off}
use Rattle.card_turns.proofs.playing.Bench.turn_off.Goals as goal

pub returns : goal.returns
returns g c = rw (← c.self.view_is) (turns_off _ _ c.replace_with.ensures.0)
