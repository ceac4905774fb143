use Rattle.std.proofs.Common.{◌≡◌, ◌≤◌, ◌-◌}
use Rattle.t1_link.specs.declared.reader_end.Phase.TheVariants.{Busy}
use Rattle.bench_turns.specs.BenchStates.{IsOn}
use Rattle.card_bench.specs.EndsParts.{ends_of}
use Rattle.card_bench.specs.ExchangeValues.{next_block}
use Rattle.bench_turns.specs.Plays.{IsGood}
use Rattle.card_bench.proofs.ExchangeRuns.{HasPassed}
use Rattle.card_bench.proofs.exchange.pass_blocks.Given as goal

abbrev pub invariant-loop : goal.invariant-loop
invariant-loop g l = record {
  busy : l.ends.reader.phase ≡ Busy;
  good : IsGood (g.P.TurnPlayer.state l.ends.bench);
  power : IsOn (g.P.TurnPlayer.state l.ends.bench);
  within : l.counter ≤ l.limit;
  run : HasPassed l.limit (ends_of g.P.TurnPlayer.state l.initial.ends)
      (next_block l.initial.toward l.initial.ends.blocks) (l.limit - l.counter)
      (ends_of g.P.TurnPlayer.state l.ends) (next_block l.toward l.ends.blocks);
}
