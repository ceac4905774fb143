use Rattle.std.proofs.Common.{◌≡◌, ◌≤◌, length, take}
use Rattle.file_tree.specs.Table.{extents}
use Rattle.tree_check.proofs.table.list_extents.Given as goal

abbrev pub invariant-loop-entry : goal.invariant-loop-entry
invariant-loop-entry l = record {
  few : length l.list.items ≤ l.entry-index;
  so_far : l.list.items ≡ extents (take l.entry-index l.entries);
}
