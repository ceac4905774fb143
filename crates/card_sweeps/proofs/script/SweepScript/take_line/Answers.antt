use Rattle.std.proofs.Common.{◌≡◌, ◌∙◌, ℕ, List, Some, ap, sym}
use Rattle.bench_lines.specs.OrderViews.{order_with}
use Rattle.bench_lines.specs.Orders.{order_of}
use Rattle.bench_lines.specs.laws.SizedOrders.{order_of-in_range}
use Rattle.card_sweeps.proofs.script.SweepScript.take_line.Goals as goal

pub take_order-requires : goal.take_order-requires
take_order-requires c =
    let order = order_with c.in-Some.order c.as_slice-3.result.now in
    let good : order_of c.args.line.now ≡ Some order = sym c.in-Some.ensures
    ∙ ap (λ (l : List ℕ). Some (order_with c.in-Some.order l)) (sym c.as_slice-3.ensures) in
    (order_of-in_range _ _ good).0
