use Rattle.std.proofs.Common.{◌≡◌, ◌+◌, ◌-◌, suc, arith}
use Rattle.card_bench.specs.EndsParts.{ends_of}
use Rattle.card_bench.specs.ExchangeValues.{next_block}
use Rattle.card_bench.proofs.ExchangeRuns.{begins, ends, gives_up, goes_on}
use Rattle.card_bench.proofs.exchange.pass_blocks.Goals as goal

pub returns-in-Break-clause-run : goal.returns-in-Break-clause-run
returns-in-Break-clause-run g c = ends _ _ _ _ _ _ c.loop.invariant.run _ _ (omega arith) c.in-Break.ensures.passes

pub loop-init : goal.loop-init
loop-init g c = record {
  busy = c.requires.busy;
  good = c.requires.bench.good;
  power = c.requires.bench.power;
  within = omega arith;
  run = begins _ _ _ _ (omega arith);
}

pub loop-preserved : goal.loop-preserved
loop-preserved g c =
    let one : suc (c.args.limit - (c.loop.counter + 1)) ≡ c.args.limit - c.loop.counter = omega arith in
    record {
      busy = c.in-Continue.ensures.busy;
      good = c.in-Continue.ensures.good;
      power = c.in-Continue.ensures.power;
      within = omega arith;
      run = goes_on _ _ _ _ _ _ c.loop.invariant.run
          (ends_of g.P.TurnPlayer.state c.pass.new.ends) (next_block c.in-Continue.next c.pass.new.ends.blocks)
          (c.args.limit - (c.loop.counter + 1)) one c.in-Continue.ensures.passes;
    }

pub returns-clause-run : goal.returns-clause-run
returns-clause-run g c = gives_up _ _ _ _ _ _ c.loop.invariant.run (omega arith)

pub pass-requires-clause-bench : goal.pass-requires-clause-bench
pass-requires-clause-bench g c = record {
  good = c.loop.invariant.good;
  power = c.loop.invariant.power;
}
