use Rattle.std.proofs.Common.{◌<◌, ◌≡◌, ℕ}
use Rattle.undo_journal.specs.Memory.{committed, IsReady}
use Rattle.undo_journal.specs.StoreCalls.{OnlyReads}
use Rattle.file_tree.specs.Table.{table, entry_in, IsChild}
use Rattle.file_lookup.proofs.look_up.first_child.Given as goal

abbrev pub invariant-loop-number : goal.invariant-loop-number
invariant-loop-number g l = let t = table (committed l.initial.store) in record {
  ready : IsReady l.store;
  reads : OnlyReads l.initial.store l.store;
  none : (e : ℕ) → e < l.number → IsChild t l.df e → (entry_in t e).short ≡ l.short → ⊥;
}
