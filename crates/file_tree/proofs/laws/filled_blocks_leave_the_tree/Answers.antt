use Rattle.file_tree.specs.laws.Rewriting.{filled}
use Rattle.file_tree.proofs.laws.filled_blocks_leave_the_tree.Goals as goal

pub returns : goal.returns
returns c = filled
