use Rattle.file_tree.specs.laws.Indexed.{life_leaves}
use Rattle.file_tree.proofs.index_laws.life_cycles_leave_the_index.Goals as goal

pub returns : goal.returns
returns c = life_leaves
