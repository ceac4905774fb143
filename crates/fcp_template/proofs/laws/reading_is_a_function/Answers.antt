use Rattle.fcp_template.proofs.OneReading as one
use Rattle.fcp_template.proofs.laws.reading_is_a_function.Goals as goal

pub returns : goal.returns
returns c = one.reading_is_a_function
