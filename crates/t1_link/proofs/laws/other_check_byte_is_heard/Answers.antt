use Rattle.t1_link.specs.laws.Blocks.{heard-other_check}
use Rattle.t1_link.proofs.laws.other_check_byte_is_heard.Goals as goal

pub returns : goal.returns
returns c = heard-other_check
