use Rattle.std.proofs.Common.{◌≤◌, length}
use Rattle.undo_journal.specs.Memory.{committed, IsReady}
use Rattle.undo_journal.specs.StoreCalls.{OnlyReads}
use Rattle.file_tree.specs.Table.{table}
use Rattle.file_changes.specs.laws.Parts.{IsPartTo}
use Rattle.file_changes.proofs.deleting.fill_part.Given as goal

abbrev pub invariant-loop-number : goal.invariant-loop-number
invariant-loop-number g l = record {
  ready : IsReady l.store;
  reads : OnlyReads l.fn.store l.store;
  few : length l.part.extents.items ≤ l.number;
  so_far : IsPartTo (table (committed l.fn.store)) l.top l.number l.part;
}
