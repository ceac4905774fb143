use Rattle.std.proofs.Common.{refl, rules, subst}
use Rattle.std.specs.Prelude.{Result}
use Rattle.bench_lines.specs.OrderViews.{order_with}
use Rattle.card_calls.specs.Telling.{AnswersOrder}
use Rattle.card_calls.specs.declared.outcome.CallOutcome.{CallOutcome}
use Rattle.card_calls.specs.declared.outcome.OrderResult.{OrderResult}
use Rattle.soffitfennel.proofs.CallLaws.{failed_copies, told_copies}
use Rattle.soffitfennel.proofs.perform_into.Goals as goal

pub returns-in-Ok : goal.returns-in-Ok
returns-in-Ok c =
    let answers = subst (λ (r : Result OrderResult CallOutcome). AnswersOrder (order_with c.args.order c.args.given.now)
    c.args.card.now.value c.perform.new.card.value c.args.out.now c.perform.new.out r) c.in-Ok.is c.perform.ensures in
    told_copies _ _ _ _ _ _ _ _ _ c.requires.1 answers refl c.outcome.ensures (search rules)

pub returns-in-Err : goal.returns-in-Err
returns-in-Err c =
    let answers = subst (λ (r : Result OrderResult CallOutcome). AnswersOrder (order_with c.args.order c.args.given.now)
    c.args.card.now.value c.perform.new.card.value c.args.out.now c.perform.new.out r) c.in-Err.is c.perform.ensures in
    failed_copies _ _ _ _ _ _ _ _ answers refl (search rules)
