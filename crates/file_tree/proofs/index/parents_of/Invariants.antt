use Rattle.std.proofs.Common.{◌≡◌, ◌<◌, ◌≤◌, ℕ, length, drop, slice_index}
use Rattle.file_tree.specs.IndexParts.{parent_by}
use Rattle.file_tree.proofs.index.parents_of.Given as goal

abbrev pub invariant-loop-left : goal.invariant-loop-left
invariant-loop-left l = record {
  within : l.left ≤ length l.places;
  long : length l.parents ≡ 256;
  so_far : (e : ℕ) → e < 256 → slice_index l.parents e ≡ parent_by (drop l.left l.places) e;
}

abbrev pub decreases-loop-left : goal.decreases-loop-left
decreases-loop-left l = l.left
