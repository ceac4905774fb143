use Rattle.std.proofs.Common.{◌∙◌, List, ap}
use Rattle.file_tree.specs.declared.steps.Place.{Place}
use Rattle.file_tree.specs.Table.{table}
use Rattle.file_tree.specs.IndexParts.{parent_by}
use Rattle.file_tree.specs.laws.Above.{parent_is}
use Rattle.file_tree.proofs.index.Index.parent.Goals as goal

pub returns : goal.returns
returns c = λ m rules used is.
    c.parent_of.ensures ∙ ap (λ (ps : List Place). parent_by ps c.args.entry) c.as_slice.ensures.value
    ∙ parent_is (table m) c.args.self.now rules is c.args.entry used
