use Rattle.std.proofs.Common.{◌≡◌, length, take}
use Rattle.undo_journal.specs.Memory.{committed, IsReady}
use Rattle.undo_journal.specs.StoreCalls.{OnlyReads}
use Rattle.file_tree.specs.Table.{table}
use Rattle.file_lookup.proofs.reading.fill_table.Given as goal

abbrev pub invariant-loop-number : goal.invariant-loop-number
invariant-loop-number g l = record {
  ready : IsReady l.store;
  reads : OnlyReads l.initial.store l.store;
  size : length l.entries.items ≡ l.number;
  so_far : l.entries.items ≡ take l.number (table (committed l.initial.store));
}
