use Rattle.std.proofs.Common.{◌≡◌, ◌≤◌, length, take, filter}
use Rattle.file_tree.specs.IndexParts.{is_outside}
use Rattle.file_tree.proofs.index.places_outside.Given as goal

abbrev pub invariant-loop-place : goal.invariant-loop-place
invariant-loop-place l = record {
  size : length l.outside.items ≤ l.place-index;
  so_far : l.outside.items ≡ filter (is_outside l.places l.top) (take l.place-index l.places);
}
