use Rattle.std.proofs.Common.{◌≡◌, ◌≢◌, ◌≤◌, ℕ, true, length, slice_index_or}
use Rattle.std.specs.Prelude.{Bool}
use Rattle.file_tree.specs.Table.{entry_in, IsUsed}
use Rattle.file_tree.specs.TreeParts.{HasOwnShort}
use Rattle.tree_check.specs.SumParts.{short_sum}
use Rattle.tree_check.proofs.table.have_own_shorts.Given as goal

abbrev pub invariant-loop-e : goal.invariant-loop-e
invariant-loop-e l = record {
  within : l.e ≤ length l.entries;
  long : length l.met ≡ 256;
  met : (f : ℕ) (d : Bool) → l.e ≤ f → IsUsed l.entries f → (entry_in l.entries f).short ≢ 0
      → slice_index_or l.met (short_sum (entry_in l.entries f)) d ≡ true;
  own : (e : ℕ) → l.e ≤ e → IsUsed l.entries e → HasOwnShort l.entries e;
}

abbrev pub decreases-loop-e : goal.decreases-loop-e
decreases-loop-e l = l.e
