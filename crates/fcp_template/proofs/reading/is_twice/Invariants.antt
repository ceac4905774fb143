use Rattle.std.proofs.Common.{◌≡◌, length}
use Rattle.fcp_template.proofs.Repeats.{repeats}
use Rattle.fcp_template.proofs.reading.is_twice.Given as goal

abbrev pub invariant-loop-object : goal.invariant-loop-object
invariant-loop-object l = repeats l.fn.objects ≡ repeats l.rest

abbrev pub decreases-loop-object : goal.decreases-loop-object
decreases-loop-object l = length l.rest
