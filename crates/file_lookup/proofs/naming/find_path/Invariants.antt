use Rattle.std.proofs.Common.{drop, ℕ, List}
use Rattle.file_tree.specs.Table.{table, IsUsed}
use Rattle.file_tree.specs.Trees.{TreeStands}
use Rattle.file_tree.specs.Indexes.{IsIndex}
use Rattle.file_tree.specs.laws.Selecting.{IsOnWay}
use Rattle.file_lookup.proofs.naming.find_path.Given as goal

abbrev pub invariant-loop-k : goal.invariant-loop-k
invariant-loop-k l = record {
  way : (m : List ℕ) → TreeStands m → IsUsed (table m) l.fn.df → IsIndex (table m) l.index
      → IsOnWay m l.fn.df l.at l.path (drop l.k l.path);
}
