use Rattle.std.proofs.Common.{◌≡◌, ◌≤◌, length, slice_index, ◌-◌}
use Rattle.undo_journal.specs.Memory.{committed, IsReady}
use Rattle.undo_journal.specs.StoreCalls.{OnlyReads}
use Rattle.block_chain.specs.Chains.{free_chain}
use Rattle.block_store.proofs.free.free_count.Given as goal

abbrev pub invariant-loop-page : goal.invariant-loop-page
invariant-loop-page g l = let first = l.fn.store in record {
  ready : IsReady l.store;
  reads : OnlyReads first l.store;
  within : l.count ≤ length (free_chain (committed first));
  place : l.page ≡ slice_index (free_chain (committed first)) l.count;
}

abbrev pub decreases-loop-page : goal.decreases-loop-page
decreases-loop-page g l = length (free_chain (committed l.fn.store)) - l.count
