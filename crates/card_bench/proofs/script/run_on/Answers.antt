use Rattle.std.proofs.Common.{◌∙◌, OnOk, IfErr, IfSome, ap, subst}
use Rattle.card_bench.specs.ScriptEndings.{IsRunToEnd, RunStopsBy, StopsBehind}
use Rattle.card_bench.specs.Exchanges.{Desk}
use Rattle.card_bench.specs.Prints.{LacksNoWrite, desk_of}
use Rattle.nvm_board.specs.Facts.{Facts}
use Rattle.card_bench.proofs.FirstDesks.{desk_is}
use Rattle.card_bench.proofs.script.run_on.Goals as goal

pub returns-clause-done : goal.returns-clause-done
returns-clause-done g c =
    let K : Facts → Type 0 = LacksNoWrite _ g.P.Board.Board.facts g.P.Board.Followed.has_kept in
    let first = desk_is c.new-desk.result.desk (g.P.Board.Board.facts c.board.inside.board) c.new-desk.ensures.bench
    c.new-desk.ensures.reader c.new-desk.ensures.line ∙ ap desk_of c.board.view_is in
    subst (λ (d : Desk). OnOk c.run_lines.result (IfSome (g.R.Read.remaining c.args.reader.now)
    (λ script. IsRunToEnd K d script (g.W.Write.contents c.args.writer.now)
    (g.W.Write.contents c.run_lines.new.writer)))) first c.run_lines.ensures.done

pub returns-clause-stopped : goal.returns-clause-stopped
returns-clause-stopped g c =
    let K : Facts → Type 0 = LacksNoWrite _ g.P.Board.Board.facts g.P.Board.Followed.has_kept in
    let first = desk_is c.new-desk.result.desk (g.P.Board.Board.facts c.board.inside.board) c.new-desk.ensures.bench
    c.new-desk.ensures.reader c.new-desk.ensures.line ∙ ap desk_of c.board.view_is in
    subst (λ (d : Desk). IfErr c.run_lines.result (λ fault. RunStopsBy K d fault (g.R.Read.remaining c.args.reader.now)
    (g.R.Read.remaining c.run_lines.new.reader) (g.W.Write.contents c.args.writer.now)
    (g.W.Write.contents c.run_lines.new.writer))) first c.run_lines.ensures.stopped

pub returns-clause-behind : goal.returns-clause-behind
returns-clause-behind g c = λ unkept.
    let K : Facts → Type 0 = LacksNoWrite _ g.P.Board.Board.facts g.P.Board.Followed.has_kept in
    let first = desk_is c.new-desk.result.desk (g.P.Board.Board.facts c.board.inside.board) c.new-desk.ensures.bench
    c.new-desk.ensures.reader c.new-desk.ensures.line ∙ ap desk_of c.board.view_is in
    let behind = c.run_lines.ensures.behind unkept in (
      behind.0,
      behind.1,
      subst (λ (d : Desk). StopsBehind K d (g.P.Board.Board.facts behind.0) (g.R.Read.remaining c.args.reader.now)
          (g.R.Read.remaining c.run_lines.new.reader) (g.W.Write.contents c.args.writer.now)
          (g.W.Write.contents c.run_lines.new.writer)) first behind.2,
    )
