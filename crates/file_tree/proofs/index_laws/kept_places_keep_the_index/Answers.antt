use Rattle.file_tree.specs.laws.Indexed.{index_kept}
use Rattle.file_tree.proofs.index_laws.kept_places_keep_the_index.Goals as goal

pub returns : goal.returns
returns c = index_kept
