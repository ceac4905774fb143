use Rattle.std.proofs.Common.{rules, subst}
use Rattle.std.specs.Prelude.{[], Result}
use Rattle.bench_lines.specs.Orders.{Free}
use Rattle.card_calls.specs.Telling.{AnswersOrder}
use Rattle.card_calls.specs.declared.outcome.CallOutcome.{CallOutcome}
use Rattle.card_calls.specs.declared.outcome.OrderResult.{OrderResult}
use Rattle.soffitfennel.proofs.CallLaws.{told_space}
use Rattle.soffitfennel.proofs.soffitfennel_free_space.Goals as goal

pub returns-in-Ok : goal.returns-in-Ok
returns-in-Ok c =
    let answers = subst (λ (r : Result OrderResult CallOutcome). AnswersOrder Free c.args.card.now.value
    c.perform.new.card.value [] c.perform.new.out r) c.in-Ok.is c.perform.ensures in
    told_space _ _ _ _ _ _ _ _ _ answers c.space-space.ensures c.outcome.ensures (search rules)
