use Rattle.std.proofs.Common.{◌≡◌, ◌≤◌, ◌+◌, length}
use Rattle.std.specs.Io.KnownBytes.{Consumes}
use Rattle.bench_lines.specs.Scripts.{IsInLine, IsTooLong}
use Rattle.bench_lines.specs.declared.order.TheConstants.{LINE_LIMIT}
use Rattle.bench_lines.specs.declared.reading.TheConstants.{SCRIPT_LIMIT}
use Rattle.bench_lines.proofs.reading.read_line.Given as goal

abbrev pub invariant-loop : goal.invariant-loop
invariant-loop g l = record {
  taken : l.taken ≤ SCRIPT_LIMIT;
  size : l.counter ≤ length l.line;
  room : length l.line ≤ LINE_LIMIT + 1;
  in_line : IsInLine l.line;
  so_far : Consumes (g.R.Read.remaining l.initial.reader) (g.R.Read.remaining l.reader) l.line;
  fits : IsTooLong l.line → ⊥;
  counted : l.taken ≡ l.initial.taken + length l.line;
}
