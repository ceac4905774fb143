use Rattle.std.proofs.Common.{◌≡◌, length, string_bytes}
use Rattle.command_base.specs.Finding.{HasCard}
use Rattle.sweep_reports.specs.ReportParts.{AddsText, sweeping_of}
use Rattle.sweep_reports.specs.Reporting.{WritesInTurn}
use Rattle.sweep_reports.proofs.plan.push_writes.Given as goal

abbrev pub invariant-loop-writes : goal.invariant-loop-writes
invariant-loop-writes g l = record {
  counted : length l.all.items ≡ l.writes;
  so_far : HasCard (g.P.Board.Board.facts l.plan.runs.board.now).words
      → AddsText (WritesInTurn (sweeping_of g.P.Board.Board.facts g.P.Board.Sweepable.torn l.plan)
      (g.P.Board.Board.facts l.fn.prepared).words l.writes (g.P.Board.Board.facts l.before).words l.all.items)
      (string_bytes l.fn.text) (string_bytes l.text);
}
