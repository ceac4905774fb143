use Rattle.card_sweeps.proofs.Ended.{counts-ended, given-ended}
use Rattle.card_sweeps.proofs.whole_sweep.sweep.Goals as goal

pub returns-clause-runs : goal.returns-clause-runs
returns-clause-runs g c = given-ended _ _ _ _ _ _ c.new-sweep.ensures c.sweep_prepared-ended.result c.ended_tally.result
    c.sweep_prepared-ended.ensures c.ended_tally.ensures.seen

pub returns-clause-complete : goal.returns-clause-complete
returns-clause-complete g c = counts-ended _ _ _ _ _ _ c.new-sweep.ensures c.sweep_prepared-ended.result
    c.ended_tally.result c.sweep_prepared-ended.ensures c.ended_tally.ensures.runs c.ended_tally.ensures.seen
    c.ended_tally.ensures.end
