use Rattle.std.proofs.Common.{append-nil, append_assoc, arith}
use Rattle.std.proofs.lemmas.Grind.{common_steps}
use Rattle.std.proofs.lemmas.List.{drop_min, take_min}
use Rattle.sweep_reports.proofs.Reported.{looks-next, looks-none}
use Rattle.sweep_reports.proofs.lines.push_looks.Goals as goal

pub loop-sizes-preserved : goal.loop-sizes-preserved
loop-sizes-preserved c = grind (arith, common_steps, append_assoc, looks-next, take_min, drop_min)

pub returns : goal.returns
returns c = grind (arith, common_steps, append-nil, looks-none)
