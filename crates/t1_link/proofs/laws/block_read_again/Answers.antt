use Rattle.t1_link.specs.laws.Blocks.{heard-frame}
use Rattle.t1_link.proofs.laws.block_read_again.Goals as goal

pub returns : goal.returns
returns c = heard-frame
