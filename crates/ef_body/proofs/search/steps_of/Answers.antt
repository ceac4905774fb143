use Rattle.std.proofs.Common.{sym}
use Rattle.card_model.specs.laws.Finding.{steps_forward, steps_backward}
use Rattle.ef_body.proofs.search.steps_of.Goals as goal

pub returns-in-Forward : goal.returns-in-Forward
returns-in-Forward c = sym (steps_forward c.args.direction c.args.first c.args.records c.in-Forward.is)

pub returns-in-Backward : goal.returns-in-Backward
returns-in-Backward c = sym (steps_backward c.args.direction c.args.first c.args.records c.in-Backward.is)
