use Rattle.std.proofs.Common.{append-nil, append_assoc, arith}
use Rattle.std.proofs.lemmas.Grind.{common_steps}
use Rattle.sweep_reports.proofs.Reported.{kinds-next, kinds-none}
use Rattle.sweep_reports.proofs.device_writes.push_kinds.Goals as goal

pub loop-rest-preserved : goal.loop-rest-preserved
loop-rest-preserved c = grind (arith, common_steps, append_assoc, kinds-next)

pub returns : goal.returns
returns c = grind (arith, common_steps, append-nil, kinds-none)
