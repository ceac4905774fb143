use Rattle.std.proofs.Common.{rules}
use Rattle.bench_lines.proofs.reading.is_too_long.Goals as goal

pub returns-then-size-clause-long : goal.returns-then-size-clause-long
returns-then-size-clause-long c = search rules
