use Rattle.std.proofs.Common.{◌∙◌, ap}
use Rattle.sweep_reports.specs.Printing.{stage_head}
use Rattle.sweep_reports.proofs.Put.{puts-weaker}
use Rattle.sweep_reports.proofs.Reported.{results-under}
use Rattle.sweep_reports.proofs.plan.push_stage.Goals as goal

pub returns : goal.returns
returns g c = λ card.
    let played = c.in_ok-trace.ensures card in
    let head_is = c.deref-2.ensures ∙ c.in_ok-head.ensures
    ∙ ap (stage_head c.args.stage.now) c.deref.ensures.value in
    puts-weaker _ _ _ _ (λ text results. record {
      trace = _;
      played = played;
      results = results-under _ _ _ _ _ _ _ _ text head_is results;
    }) (c.in_ok-push_behind.ensures played.has_card)
