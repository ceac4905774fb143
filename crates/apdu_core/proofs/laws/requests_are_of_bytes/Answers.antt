use Rattle.card_model.specs.laws.RowLaws.{asked-of_bytes}
use Rattle.apdu_core.proofs.laws.requests_are_of_bytes.Goals as goal

pub returns : goal.returns
returns c = λ command all. asked-of_bytes command all
