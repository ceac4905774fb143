use Rattle.std.proofs.Common.{take}
use Rattle.bench_turns.specs.Plays.{PlaysAll}
use Rattle.card_turns.proofs.playing.Bench.play.Given as goal

abbrev pub invariant-loop-i : goal.invariant-loop-i
invariant-loop-i g l = record {
  so_far : PlaysAll l.initial.self (take l.i l.turns) (take l.i l.trace) l.self;
}
