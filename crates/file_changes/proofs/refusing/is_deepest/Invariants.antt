use Rattle.std.proofs.Common.{◌≡◌, ◌-◌}
use Rattle.undo_journal.specs.Memory.{committed, IsReady}
use Rattle.undo_journal.specs.StoreCalls.{OnlyReads}
use Rattle.file_tree.specs.Table.{table, ancestor, IsUsed}
use Rattle.file_changes.proofs.refusing.is_deepest.Given as goal

abbrev pub invariant-loop-step : goal.invariant-loop-step
invariant-loop-step g l = let t = table (committed l.initial.store) in record {
  ready : IsReady l.store;
  reads : OnlyReads l.initial.store l.store;
  used : IsUsed t l.at;
  left : ancestor t 6 l.fn.df ≡ ancestor t (7 - l._step) l.at;
}
