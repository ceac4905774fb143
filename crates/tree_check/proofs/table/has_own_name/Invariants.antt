use Rattle.std.proofs.Common.{◌<◌, ℕ}
use Rattle.file_tree.specs.Table.{entry_in, IsUsed}
use Rattle.file_tree.specs.TreeParts.{BearOneName}
use Rattle.tree_check.proofs.table.has_own_name.Given as goal

abbrev pub invariant-loop-f : goal.invariant-loop-f
invariant-loop-f l = (f : ℕ) → f < l.f → l.fn.e < f → IsUsed l.entries f
    → BearOneName (entry_in l.entries l.fn.e) (entry_in l.entries f) → ⊥
