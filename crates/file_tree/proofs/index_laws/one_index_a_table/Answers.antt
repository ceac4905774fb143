use Rattle.file_tree.specs.laws.Indexed.{one_index}
use Rattle.file_tree.proofs.index_laws.one_index_a_table.Goals as goal

pub returns : goal.returns
returns c = one_index
