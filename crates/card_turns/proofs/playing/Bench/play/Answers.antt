use Rattle.std.specs.Prelude.{◌<◌, List, length, take}
use Rattle.std.proofs.Common.{arith, subst}
use Rattle.std.proofs.lemmas.List.{take_all, take_more, take_more_set}
use Rattle.bench_turns.specs.declared.turn.Turn.{Turn}
use Rattle.bench_turns.specs.declared.turn.Turn.TheVariants.{On}
use Rattle.bench_turns.specs.declared.turn.Item.{Item}
use Rattle.bench_turns.specs.BenchStates.{bench_facts}
use Rattle.bench_turns.specs.FaultTurns.{IsTraceWithFaults}
use Rattle.bench_turns.specs.Turns.{CountsLosses, Runs, darks}
use Rattle.bench_turns.proofs.PlayedTurns.{plays_none, plays_more, traced}
use Rattle.card_turns.proofs.playing.Bench.play.Goals as goal

pub loop-i-init : goal.loop-i-init
loop-i-init g c = record { so_far = plays_none _ }

pub loop-i-preserved : goal.loop-i-preserved
loop-i-preserved g c =
    let lt : c.loop-i.i < length c.loop-i.trace = omega (arith, c.requires, c.loop-i.auto.trace) in
    record {
      so_far = rw (
        take_more c.args.turns.now c.loop-i.i On c.loop-i-test.true,
        take_more_set c.loop-i.trace c.loop-i.i
            c.item.result lt,
      ) (plays_more _ _ _ _ _ _ _ c.loop-i.invariant.so_far c.item.ensures);
    }

pub returns-clause-has_card : goal.returns-clause-has_card
returns-clause-has_card g c = c.loop-i.invariant.so_far.has_card

pub returns-clause-guesses : goal.returns-clause-guesses
returns-clause-guesses g c = c.loop-i.invariant.so_far.guesses

pub returns-clause-counts : goal.returns-clause-counts
returns-clause-counts g c =
    let all = take_all c.loop-i.i c.loop-i.trace
    (omega (arith, c.requires, c.loop-i.auto.trace, c.loop-i-test.false)) in
    subst (λ (t : List Item). CountsLosses (darks t) (bench_facts c.args.self.now) (bench_facts c.loop-i.self)) all
    c.loop-i.invariant.so_far.counts

pub returns-clause-costs : goal.returns-clause-costs
returns-clause-costs g c =
    let all = take_all c.loop-i.i c.loop-i.trace
    (omega (arith, c.requires, c.loop-i.auto.trace, c.loop-i-test.false)) in
    let turns = take_all c.loop-i.i c.args.turns.now c.loop-i-test.false in
    let so_far = take c.loop-i.i c.loop-i.trace in
    λ has good. subst (λ (t : List Item). Runs c.args.self.now c.args.turns.now t c.loop-i.self) all
    (subst (λ (u : List Turn). Runs c.args.self.now u so_far c.loop-i.self) turns
    (c.loop-i.invariant.so_far.runs has good))

pub returns-clause-runs : goal.returns-clause-runs
returns-clause-runs g c = λ good. (
  c.loop-i.invariant.so_far.well good,
  λ has. traced c.args.self.now c.args.turns.now c.loop-i.trace c.loop-i.self (returns-clause-costs g c has good),
)

pub returns-clause-faulty : goal.returns-clause-faulty
returns-clause-faulty g c =
    let all = take_all c.loop-i.i c.loop-i.trace
    (omega (arith, c.requires, c.loop-i.auto.trace, c.loop-i-test.false)) in
    let turns = take_all c.loop-i.i c.args.turns.now c.loop-i-test.false in
    let so_far = take c.loop-i.i c.loop-i.trace in
    λ has. subst (λ (t : List Item). IsTraceWithFaults c.args.self.now c.args.turns.now t c.loop-i.self) all
    (subst (λ (u : List Turn). IsTraceWithFaults c.args.self.now u so_far c.loop-i.self) turns
    (c.loop-i.invariant.so_far.any has))
