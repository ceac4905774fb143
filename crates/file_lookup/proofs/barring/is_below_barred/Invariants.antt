use Rattle.std.proofs.Common.{◌≡◌, ◌-◌}
use Rattle.undo_journal.specs.Memory.{committed, IsReady}
use Rattle.undo_journal.specs.StoreCalls.{OnlyReads}
use Rattle.file_tree.specs.Table.{table, entry_in, IsUsed}
use Rattle.file_tree.specs.States.{barred_up}
use Rattle.file_lookup.proofs.barring.is_below_barred.Given as goal

-- `at` is a file that was met, `above` its parent; what stands above `at` is left to be told
abbrev pub invariant-loop-step : goal.invariant-loop-step
invariant-loop-step g l = let t = table (committed l.initial.store) in record {
  ready : IsReady l.store;
  reads : OnlyReads l.initial.store l.store;
  used : IsUsed t l.at;
  parent : l.above ≡ (entry_in t l.at).parent;
  left : barred_up t 7 l.fn.e ≡ barred_up t (7 - l._step) l.at;
}
