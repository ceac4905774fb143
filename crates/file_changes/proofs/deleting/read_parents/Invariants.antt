use Rattle.std.proofs.Common.{◌≡◌, ◌≤◌, ◌<◌, ℕ, length, slice_index}
use Rattle.undo_journal.specs.Memory.{committed, IsReady}
use Rattle.undo_journal.specs.StoreCalls.{OnlyReads}
use Rattle.file_tree.specs.Table.{table, entry_in}
use Rattle.file_changes.proofs.deleting.read_parents.Given as goal

abbrev pub invariant-loop-number : goal.invariant-loop-number
invariant-loop-number g l = let t = table (committed l.initial.store) in record {
  ready : IsReady l.store;
  reads : OnlyReads l.initial.store l.store;
  long : length l.parents ≡ 256;
  told : (f : ℕ) → f < l.number → slice_index l.parents f ≡ (entry_in t f).parent;
  rest : (f : ℕ) → l.number ≤ f → f < 256 → slice_index l.parents f ≡ 0;
}
