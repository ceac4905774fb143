use Rattle.std.proofs.Common.{◌∙◌, ap, List, filter}
use Rattle.file_tree.specs.declared.steps.Place.{Place}
use Rattle.file_tree.specs.declared.index.Index.{Index}
use Rattle.file_tree.specs.IndexParts.{is_outside}
use Rattle.file_tree.specs.laws.Pruning.{pruned}
use Rattle.file_tree.proofs.index.Index.without.Goals as goal

pub returns : goal.returns
returns c = record {
  deleted = λ m after stands above used deletes is.
      let new : Index = record { places = c.places_outside-self.result } in
      pruned m after c.args.entry c.args.self.now stands above used deletes is new
      (c.places_outside-self.ensures
      ∙ ap (λ (ps : List Place). filter (is_outside ps c.args.entry) ps) c.as_slice.ensures.value);
}
