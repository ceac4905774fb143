use Rattle.fcp_template.proofs.AnyOrder.{in_any_order}
use Rattle.fcp_template.proofs.laws.objects_in_any_order.Goals as goal

pub returns : goal.returns
returns c = in_any_order
