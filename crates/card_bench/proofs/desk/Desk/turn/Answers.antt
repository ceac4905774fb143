use Rattle.std.proofs.Common.{refl, subst, sym}
use Rattle.card_bench.specs.DeskStates.{DeskState, print_of, reader_there}
use Rattle.card_bench.specs.Performing.{TakesTurn}
use Rattle.bench_turns.specs.Plays.{IsGood}
use Rattle.card_bench.proofs.DeskTurns.{turn-taken}
use Rattle.card_bench.proofs.desk.Desk.turn.Goals as goal

pub returns-clause-taken : goal.returns-clause-taken
returns-clause-taken g c =
    let good = subst (λ (d : DeskState). IsGood d.desk.bench) (sym c.self.view_is) c.requires.good in
    let turned = c.turn_well-turned in
    let reader = c.reset.new.self in
    subst (λ (d : DeskState). TakesTurn c.args.turn d.desk (record {
      bench = g.P.TurnPlayer.state turned.new.self;
      reader = reader_there c.is_started-self-inside.result reader;
      line = c.self.inside.ends.line;
    }) (print_of c.of_turn.result reader.answer turned.new.reply)) c.self.view_is
    (turn-taken turned.result reader.answer turned.new.reply c.args.turn _ _ _ _ reader
    c.is_started-self-inside.ensures c.reset.ensures (turned.ensures good).1
    (c.of_turn.ensures reader.answer turned.new.reply) refl refl)
