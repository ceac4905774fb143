use Rattle.std.proofs.Common.{rules}
use Rattle.bench_lines.proofs.Written.{appends_part}
use Rattle.bench_lines.proofs.printing.write_line.Goals as goal

pub loop-written-preserved : goal.loop-written-preserved
loop-written-preserved g c = record {
  within = search rules;
  so_far = appends_part _ (g.W.Write.contents c.loop-written.writer) _ c.loop-written.written c.in-Ok.count
      c.args.line.now c.loop-written.invariant.so_far c.in-Ok.ensures.bytes;
}
