use Rattle.std.specs.Prelude.{Bool, Err, List, None, Ok, Some, ℕ, if◌then◌else◌}
use Rattle.std.proofs.Common.{◌∙◌, ap, subst, sym}
use Rattle.bench_turns.specs.declared.turn.Turn.TheVariants as turn
use Rattle.card_bench.specs.Exchanges.{power_lost, toward_reader}
use Rattle.card_bench.specs.declared.reader_turns.Toward.{Toward}
use Rattle.card_bench.specs.EndsParts.{ends_of}
use Rattle.card_bench.specs.ExchangeValues.{next_block}
use Rattle.card_bench.specs.Exchanges.{Passes}
use Rattle.bench_turns.specs.Turns.{GoodBlock, GoodTurn}
use Rattle.card_bench.proofs.ExchangeRuns.{takes_there}
use Rattle.bench_turns.proofs.TurnsTold.{good-block, lost-so, replies-on, tells-so}
use Rattle.card_bench.proofs.exchange.pass.Goals as goal

pub returns-in-Reply-clause-passes : goal.returns-in-Reply-clause-passes
returns-in-Reply-clause-passes g c =
    let state = g.P.TurnPlayer.state in
    let put = c.put.new.block in
    let came = sym c.put.ensures.arrives ∙ ap (λ (b : Bool). if b then Some put else None) c.if-not-put.false
    ∙ ap (λ (got : List ℕ). Some got) (sym c.deref.ensures.0) in
    subst (λ (t : Toward). Passes
    (ends_of state c.args.ends.now) (next_block t c.args.ends.now.blocks)
    (record { bench = state c.turn_well.new.self; reader = c.args.ends.now.reader; line = c.put.new.self })
    (Ok (toward_reader c.turn_well.new.reply)))
    (sym c.in-Card.is)
    (takes_there _ _ _ _ _ _ c.deref.result.now (Ok (toward_reader c.turn_well.new.reply)) c.put.ensures.after came
    (good-block _ _ c.deref.result _ (c.in-Reply.ensures c.requires.bench.good).1))

pub returns-in-Reply-clause-power : goal.returns-in-Reply-clause-power
returns-in-Reply-clause-power g c =
    replies-on _ _ c.deref.result.now c.turn_well.new.reply c.requires.bench.power (c.in-Reply.ensures
    c.requires.bench.good).1.one

pub returns-in_default-clause-passes : goal.returns-in_default-clause-passes
returns-in_default-clause-passes g c =
    let state = g.P.TurnPlayer.state in
    let put = c.put.new.block in
    let came = sym c.put.ensures.arrives ∙ ap (λ (b : Bool). if b then Some put else None) c.if-not-put.false
    ∙ ap (λ (got : List ℕ). Some got) (sym c.deref.ensures.0) in
    subst (λ (t : Toward). Passes
    (ends_of state c.args.ends.now) (next_block t c.args.ends.now.blocks)
    (record { bench = state c.turn_well.new.self; reader = c.args.ends.now.reader; line = c.put.new.self })
    (Err power_lost))
    (sym c.in-Card.is)
    (takes_there _ _ _ _ _ _ c.deref.result.now (Err power_lost) c.put.ensures.after came
    (lost-so c.turn_well.result c.turn_well.new.reply c.deref.result.now _ _ c.requires.bench.power
    (tells-so c.turn_well.result c.turn_well.new.reply (λ i. GoodTurn _ (turn.Block c.deref.result) i _)
    (λ i. GoodBlock _ c.deref.result.now i _) (good-block _ _ c.deref.result)
    (c.turn_well.ensures c.requires.bench.good).1) c.in_default.not-Reply))
