-- Searched for once: a wrong body is refused at once, where the check by itself would try dearer searches.
use Rattle.std.proofs.Common.{rules}
use Rattle.card_core.proofs.card.Card.free.Goals as goal

pub returns : goal.returns
returns g c = search rules
