use Rattle.bench_turns.proofs.TurnsTold.{plays-block, tells-so}
use Rattle.std.proofs.Common.{subst, sym}
use Rattle.bench_turns.specs.declared.turn.Turn.{Turn}
use Rattle.bench_turns.specs.declared.turn.Turn.TheVariants as turn
use Rattle.bench_turns.specs.declared.turn.Item.TheVariants.{Quiet}
use Rattle.bench_turns.specs.Plays.{Plays, PlaysBlock, TellsItem}
use Rattle.card_turns.proofs.playing.Bench.turn.Goals as goal

pub returns-in-Block : goal.returns-in-Block
returns-in-Block g c =
    let old = c.args.self.now in
    let new = c.send.new.self in
    let reply = c.send.new.reply in
    subst (λ (t : Turn). TellsItem c.send.result reply (λ i. Plays old t i new)) (sym c.in-Block.is)
    (tells-so c.send.result reply (λ i. PlaysBlock old c.in-Block.block.now i new)
    (λ i. Plays old (turn.Block c.in-Block.block) i new) (plays-block old new c.in-Block.block) c.send.ensures)

pub returns-in-On : goal.returns-in-On
returns-in-On g c =
    let old = c.args.self.now in
    let new = c.turn_on.new.self in
    let reply = c.args.reply.now in
    subst (λ (t : Turn). TellsItem c.turn_on.result reply (λ i. Plays old t i new)) (sym c.in-On.is)
    (c.turn_on.ensures reply)

pub returns-in-Off : goal.returns-in-Off
returns-in-Off g c =
    subst (λ (t : Turn). Plays c.args.self.now t Quiet c.turn_off.new.self) (sym c.in-Off.is) c.turn_off.ensures
