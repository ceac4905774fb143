use Rattle.std.proofs.Common.{◌≡◌, OnOk, IfErr, IfSome, ap, subst}
use Rattle.card_bench.specs.ScriptEndings.{IsRunToEnd, RunStopsBy, StopsBehind}
use Rattle.card_bench.specs.Exchanges.{Desk}
use Rattle.card_bench.specs.Prints.{LacksNoWrite, desk_of}
use Rattle.nvm_board.specs.Facts.{Facts}
use Rattle.card_bench.proofs.script.run_card.Goals as goal

pub returns-in-Ok-clause-run : goal.returns-in-Ok-clause-run
returns-in-Ok-clause-run g c =
    let K : Facts → Type 0 = LacksNoWrite _ g.P.Board.Board.facts g.P.Board.Followed.has_kept in
    let first : desk_of c.in-Ok.board ≡ desk_of (g.P.Board.Board.facts c.args.board) =
    ap desk_of c.in-Ok.ensures.facts in
    let script = g.R.Read.remaining c.args.reader.now in
    let left = g.R.Read.remaining c.run_on.new.reader in
    let old = g.W.Write.contents c.args.writer.now in
    let new = g.W.Write.contents c.run_on.new.writer in
    record {
      done = subst (λ (d : Desk). OnOk c.run_on.result (IfSome script (λ bytes. IsRunToEnd K d bytes old new))) first
          c.run_on.ensures.done;
      stopped = subst (λ (d : Desk). IfErr c.run_on.result (λ fault. RunStopsBy K d fault script left old new)) first
          c.run_on.ensures.stopped;
      behind = λ unkept. let behind = c.run_on.ensures.behind unkept in (
        behind.0,
        behind.1,
        subst (λ (d : Desk). StopsBehind K d (g.P.Board.Board.facts behind.0) script left old new) first behind.2,
      );
      unread = λ none. absurd (c.run_on.ensures.memory none);
      unwritten = λ none. absurd (c.run_on.ensures.memory none);
    }
