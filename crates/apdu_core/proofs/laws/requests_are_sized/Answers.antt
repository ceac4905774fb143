use Rattle.card_model.specs.laws.RowLaws.{asked-sized}
use Rattle.apdu_core.proofs.laws.requests_are_sized.Goals as goal

pub returns : goal.returns
returns c = λ command. asked-sized command
