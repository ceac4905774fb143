use Rattle.command_base.specs.laws.FoundLaws.{found_is_proper}
use Rattle.card_core.proofs.laws.found_is_proper.Goals as goal

pub returns : goal.returns
returns c = λ m there. found_is_proper m there
