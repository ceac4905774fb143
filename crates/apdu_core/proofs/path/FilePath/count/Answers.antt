use Rattle.std.proofs.Common.{rules}
use Rattle.card_model.specs.laws.Identifiers.{identifiers_counted}
use Rattle.apdu_core.proofs.path.FilePath.count.Goals as goal

pub returns : goal.returns
returns c = search (rules, identifiers_counted)
