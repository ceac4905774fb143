use Rattle.std.proofs.Common.{◌≤◌, ◌+◌, ◌-◌}
use Rattle.bench_turns.specs.BenchStates.{bench_facts}
use Rattle.bench_turns.specs.Plays.{IsGood}
use Rattle.bench_lines.specs.declared.reading.TheConstants.{SCRIPT_LIMIT}
use Rattle.card_bench.specs.Charges.{HasSecond}
use Rattle.card_bench.specs.Prints.{LacksNoWrite}
use Rattle.card_bench.proofs.ScriptLines.{HasRun}
use Rattle.card_bench.proofs.script.run_lines.Given as goal

abbrev pub invariant-loop-number : goal.invariant-loop-number
invariant-loop-number g l = record {
  taken : l.taken ≤ SCRIPT_LIMIT;
  turns : l.number ≤ l.taken + 1;
  good : IsGood l.desk.desk.bench;
  second : HasSecond g.P.Board.Board.facts g.P.Board.Followed.can_copy l.second (bench_facts l.desk.desk.bench);
  so_far : HasRun (LacksNoWrite _ g.P.Board.Board.facts g.P.Board.Followed.has_kept)
      l.initial.desk.desk (g.R.Read.remaining
      l.initial.reader) (g.R.Read.remaining l.reader)
      (l.number - 1) l.taken l.desk.desk (g.W.Write.contents l.initial.writer) (g.W.Write.contents l.writer);
}
