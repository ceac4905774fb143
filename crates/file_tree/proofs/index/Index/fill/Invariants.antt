use Rattle.std.proofs.Common.{◌<◌, length}
use Rattle.file_tree.specs.IndexParts.{ArePlacesTo}
use Rattle.file_tree.proofs.index.Index.fill.Given as goal

abbrev pub invariant-loop-e : goal.invariant-loop-e
invariant-loop-e l = record {
  size : length l.self.places.items < l.e;
  so_far : ArePlacesTo l.entries l.e l.self.places.items;
}
