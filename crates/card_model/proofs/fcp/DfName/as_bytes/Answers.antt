use Rattle.std.proofs.Common.{rules}
use Rattle.card_model.proofs.fcp.DfName.as_bytes.Goals as goal

pub returns-clause-value : goal.returns-clause-value
returns-clause-value c = search rules
