-- Searched for once: a wrong body is refused at once, where the check by itself would try dearer searches.
use Rattle.std.proofs.Common.{rules}
use Rattle.card_core.proofs.card.Card.arm.Goals as goal

pub returns-clause-same : goal.returns-clause-same
returns-clause-same g c = search rules

pub invariant_of-self : goal.invariant_of-self
invariant_of-self g c = search rules
