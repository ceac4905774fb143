use Rattle.std.proofs.Common.{arith, append_assoc}
use Rattle.std.proofs.lemmas.Grind.{common_steps}
use Rattle.sweep_reports.proofs.lines.push_results.Goals as goal

pub loop-seen-preserved : goal.loop-seen-preserved
loop-seen-preserved c = grind (arith, common_steps, append_assoc)
