use Rattle.std.proofs.Common.{rules, subst}
use Rattle.std.specs.Prelude.{[], Result}
use Rattle.bench_lines.specs.OrderViews.{order_with}
use Rattle.card_calls.specs.Telling.{AnswersOrder}
use Rattle.card_calls.specs.declared.outcome.CallOutcome.{CallOutcome}
use Rattle.card_calls.specs.declared.outcome.OrderResult.{OrderResult}
use Rattle.soffitfennel.proofs.CallLaws.{told_tells}
use Rattle.soffitfennel.proofs.run_order.Goals as goal

pub returns-in-Ok-clause-fits : goal.returns-in-Ok-clause-fits
returns-in-Ok-clause-fits c = λ sized.
    let answers = subst (λ (r : Result OrderResult CallOutcome). AnswersOrder (order_with c.args.order [])
    c.args.card.now.value c.perform.new.card.value [] c.perform.new.out r) c.in-Ok.is c.perform.ensures in
    told_tells _ _ _ _ _ _ _ _ answers c.outcome.ensures (search rules)
