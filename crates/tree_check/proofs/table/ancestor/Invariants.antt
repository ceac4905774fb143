use Rattle.std.proofs.Common.{◌≡◌, ◌-◌}
use Rattle.file_tree.specs.Table.{ancestor}
use Rattle.tree_check.proofs.table.ancestor.Given as goal

abbrev pub invariant-loop-step : goal.invariant-loop-step
invariant-loop-step l = ancestor l.entries l.steps l.fn.e ≡ ancestor l.entries (l.steps - l._step) l.at
