use Rattle.card_core.proofs.FoundFiles.{found_is_well_formed}
use Rattle.card_core.proofs.laws.found_is_well_formed.Goals as goal

pub returns : goal.returns
returns c = λ m there. found_is_well_formed m there
