-- The result of a turn at the bench.
use Rattle.std.specs.Prelude.{Bool, true, false}
use Rattle.bench_turns.specs.declared.turn_result.TurnResult.{TurnResult}
use Rattle.bench_turns.specs.declared.turn_result.TurnResult.TheVariants.{Atr, Quiet, Mute, Dark, Reply}

-- true if it is a successful power-on
abbrev pub is_started : TurnResult → Bool
is_started Atr = true
is_started Quiet = false
is_started Mute = false
is_started Dark = false
is_started Reply = false
