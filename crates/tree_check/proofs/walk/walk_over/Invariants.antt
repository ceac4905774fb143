use Rattle.std.proofs.Common.{◌≡◌, ◌≤◌, ◌-◌, slice_index}
use Rattle.undo_journal.specs.Memory.{committed, IsReady}
use Rattle.undo_journal.specs.StoreCalls.{OnlyReads}
use Rattle.block_chain.specs.Chains.{pages_from}
use Rattle.tree_check.proofs.Following.{IsFollowed}
use Rattle.tree_check.proofs.walk.walk_over.Given as goal

abbrev pub invariant-loop-first : goal.invariant-loop-first
invariant-loop-first g l = let m = committed l.fn.store in record {
  ready : IsReady l.store;
  reads : OnlyReads l.fn.store l.store;
  within : l.left ≤ l.most;
  walked : IsFollowed l.end m l.first (l.most - l.left) l.page;
  last : l.last ≡ slice_index (pages_from m (l.most - l.left) l.first) (l.most - l.left - 1);
}

abbrev pub decreases-loop-first : goal.decreases-loop-first
decreases-loop-first g l = l.left
