use Rattle.std.proofs.Common.{rules}
use Rattle.fcp_template.proofs.reading.has_no_place_in_a_df.Goals as goal

pub returns-then-has-2 : goal.returns-then-has-2
returns-then-has-2 c = search rules

pub returns-else-has-2 : goal.returns-else-has-2
returns-else-has-2 c = search rules
