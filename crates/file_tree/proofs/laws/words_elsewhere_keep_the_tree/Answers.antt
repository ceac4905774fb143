use Rattle.file_tree.specs.laws.Footprints.{tree_kept}
use Rattle.file_tree.proofs.laws.words_elsewhere_keep_the_tree.Goals as goal

pub returns : goal.returns
returns c = λ m after sized keeps stands. tree_kept m after sized keeps stands
