use Rattle.std.proofs.Common.{◌≡◌, ◌≤◌, take}
use Rattle.file_tree.specs.Table.{free_entries}
use Rattle.tree_check.proofs.table.count_free.Given as goal

abbrev pub invariant-loop-entry : goal.invariant-loop-entry
invariant-loop-entry l = record {
  few : l.free ≤ l.entry-index;
  so_far : l.free ≡ free_entries (take l.entry-index l.entries);
}
