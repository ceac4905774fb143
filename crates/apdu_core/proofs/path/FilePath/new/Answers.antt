use Rattle.std.proofs.Common.{rules}
use Rattle.card_model.specs.laws.Identifiers.{identifiers_counted}
use Rattle.apdu_core.proofs.path.FilePath.new.Goals as goal

pub returns-then-contains-clause-identifiers : goal.returns-then-contains-clause-identifiers
returns-then-contains-clause-identifiers c = search rules

pub returns-then-contains-clause-ranges : goal.returns-then-contains-clause-ranges
returns-then-contains-clause-ranges c = search (rules, identifiers_counted)
