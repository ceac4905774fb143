use Rattle.bench_lines.specs.laws.SizedOrders.{order_of-in_range}
use Rattle.bench_lines.proofs.laws.orders_are_in_range.Goals as goal

pub returns : goal.returns
returns c = order_of-in_range
