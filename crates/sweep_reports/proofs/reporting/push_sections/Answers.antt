use Rattle.sweep_reports.proofs.Reported.{sections-put}
use Rattle.sweep_reports.proofs.reporting.push_sections.Goals as goal

pub returns : goal.returns
returns g c = λ card. sections-put _ _ _ _ _ _ _ _ _ _ _ _ _ _ (c.in_ok-prepared.ensures card)
    (c.in_ok-ended.ensures card) c.words.ensures c.new-cuts.ensures.bytes c.deref.ensures.value c.deref-2.ensures
    (c.in_ok-all.ensures card) c.in_ok-push_rest.ensures
