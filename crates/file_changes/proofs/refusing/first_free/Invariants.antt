use Rattle.std.proofs.Common.{◌≢◌, ◌<◌, ℕ}
use Rattle.undo_journal.specs.Memory.{committed, IsReady}
use Rattle.undo_journal.specs.StoreCalls.{OnlyReads}
use Rattle.file_tree.specs.Table.{table, entry_in}
use Rattle.file_changes.proofs.refusing.first_free.Given as goal

abbrev pub invariant-loop-number : goal.invariant-loop-number
invariant-loop-number g l = let t = table (committed l.initial.store) in record {
  ready : IsReady l.store;
  reads : OnlyReads l.initial.store l.store;
  none : (f : ℕ) → f < l.number → (entry_in t f).kind ≢ 0;
}
