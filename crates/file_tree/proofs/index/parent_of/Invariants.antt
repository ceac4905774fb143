use Rattle.std.proofs.Common.{◌≡◌, drop}
use Rattle.file_tree.specs.IndexParts.{parent_by}
use Rattle.file_tree.proofs.index.parent_of.Given as goal

abbrev pub invariant-loop-place : goal.invariant-loop-place
invariant-loop-place l = record {
  rest : parent_by l.places l.entry ≡ parent_by (drop l.place-index l.places) l.entry;
}
