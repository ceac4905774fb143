use Rattle.std.proofs.Common.{◌<◌, ℕ}
use Rattle.file_tree.specs.Table.{entry_in, IsUsed}
use Rattle.file_tree.specs.TreeParts.{ShareShort}
use Rattle.tree_check.proofs.table.has_own_short.Given as goal

abbrev pub invariant-loop-f : goal.invariant-loop-f
invariant-loop-f l = (f : ℕ) → f < l.f → l.fn.e < f → IsUsed l.entries f
    → ShareShort l.fn.e (entry_in l.entries l.fn.e) (entry_in l.entries f) → ⊥
