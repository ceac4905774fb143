use Rattle.std.proofs.Common.{string_bytes}
use Rattle.command_base.specs.Finding.{HasCard}
use Rattle.sweep_reports.specs.ReportParts.{AddsText, sweeping_of}
use Rattle.sweep_reports.specs.Reporting.{IsCutText, TextsInTurn}
use Rattle.sweep_reports.proofs.plan.push_write.Given as goal

abbrev pub invariant-loop-i : goal.invariant-loop-i
invariant-loop-i g l = HasCard (g.P.Board.Board.facts l.plan.runs.board.now).words
    → AddsText (TextsInTurn (IsCutText (sweeping_of g.P.Board.Board.facts g.P.Board.Sweepable.torn l.plan) l.write
    l.before l.made) l.i) (string_bytes l.fn.text) (string_bytes l.text)
