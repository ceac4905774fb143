use Rattle.std.proofs.Common.{◌≡◌, ◌≤◌, ◌-◌, length, drop}
use Rattle.undo_journal.specs.Memory.{current, IsOpen}
use Rattle.undo_journal.specs.Lent.{memory_of}
use Rattle.undo_journal.specs.StoreCalls.{Sets}
use Rattle.block_chain.specs.ChainParts.{first_block, joined_chains}
use Rattle.block_store.proofs.free.join_chains.Given as goal

abbrev pub invariant-loop-left : goal.invariant-loop-left
invariant-loop-left g l = let m = current (memory_of l.fn.txn) in record {
  within : l.left ≤ length l.chains;
  ready : IsOpen (memory_of l.txn);
  sets : Sets (length l.chains - l.left) l.fn.txn l.txn;
  page : l.page ≡ first_block m (drop l.left l.chains);
  words : current (memory_of l.txn) ≡ joined_chains m (drop l.left l.chains);
}

abbrev pub decreases-loop-left : goal.decreases-loop-left
decreases-loop-left g l = l.left
