use Rattle.std.proofs.Common.{◌≤◌, ◌+◌, ◌-◌}
use Rattle.bench_lines.specs.Scripts.{CountsTaken}
use Rattle.bench_lines.specs.declared.reading.TheConstants.{SCRIPT_LIMIT}
use Rattle.card_sweeps.specs.Asking.{ReadsLines, asked_of}
use Rattle.card_sweeps.proofs.script.read_script.Given as goal

abbrev pub invariant-loop-end : goal.invariant-loop-end
invariant-loop-end g l = record {
  taken : l.taken ≤ SCRIPT_LIMIT;
  counted : 1 ≤ l.number;
  turns : l.number ≤ l.taken + 1;
  so_far : ReadsLines (l.number - 1) (g.R.Read.remaining l.initial.reader) (g.R.Read.remaining l.reader)
      (asked_of l.script);
  bytes : CountsTaken (g.R.Read.remaining l.initial.reader) (g.R.Read.remaining l.reader) 0 l.taken;
}

abbrev pub decreases-loop-end : goal.decreases-loop-end
decreases-loop-end g l = SCRIPT_LIMIT - l.taken
