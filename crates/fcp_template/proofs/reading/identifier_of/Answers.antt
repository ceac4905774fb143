use Rattle.std.proofs.Common.{rules}
use Rattle.fcp_template.proofs.reading.identifier_of.Goals as goal

pub returns-in_default-from_be_bytes-clause-value : goal.returns-in_default-from_be_bytes-clause-value
returns-in_default-from_be_bytes-clause-value c = search rules
