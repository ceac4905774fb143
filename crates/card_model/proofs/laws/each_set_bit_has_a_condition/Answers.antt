use Rattle.card_model.proofs.Places.{condition-set}
use Rattle.card_model.proofs.laws.each_set_bit_has_a_condition.Goals as goal

pub returns : goal.returns
returns c = condition-set
