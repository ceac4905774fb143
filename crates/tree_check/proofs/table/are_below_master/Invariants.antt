use Rattle.std.proofs.Common.{◌<◌, ℕ}
use Rattle.file_tree.specs.Table.{IsUsed, IsBelowMaster}
use Rattle.tree_check.proofs.table.are_below_master.Given as goal

abbrev pub invariant-loop-e : goal.invariant-loop-e
invariant-loop-e l = (e : ℕ) → 0 < e → e < l.e → IsUsed l.entries e → IsBelowMaster l.entries e
