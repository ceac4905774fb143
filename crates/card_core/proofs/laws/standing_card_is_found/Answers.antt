use Rattle.card_start.proofs.FactoryFound.{stands-found}
use Rattle.card_core.proofs.laws.standing_card_is_found.Goals as goal

pub returns : goal.returns
returns _ = λ m card sized stands. stands-found m sized stands.shut card stands
