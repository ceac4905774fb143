use Rattle.fcp_template.proofs.ReadAgain.{read_again}
use Rattle.fcp_template.proofs.laws.template_read_again.Goals as goal

pub returns : goal.returns
returns c = read_again
