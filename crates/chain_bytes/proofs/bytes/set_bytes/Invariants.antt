use Rattle.std.proofs.Common.{◌≤◌, ◌-◌, ◌/◌}
use Rattle.undo_journal.specs.Memory.{current, IsIdle, IsOpen}
use Rattle.undo_journal.specs.Lent.{memory_of}
use Rattle.undo_journal.specs.StoreCalls.{Sets}
use Rattle.block_chain.specs.Chains.{chain_of}
use Rattle.chain_bytes.proofs.Puts.{IsPutSoFar}
use Rattle.chain_bytes.proofs.RunCosts.{AreRunsSoFar}
use Rattle.chain_bytes.proofs.Counting.{IsCounted}
use Rattle.chain_bytes.proofs.bytes.set_bytes.Given as goal

abbrev pub invariant-loop-k : goal.invariant-loop-k
invariant-loop-k g l = let m = current (memory_of l.fn.txn) in record {
  within : l.k ≤ l.end;
  ready : IsOpen (memory_of l.txn);
  sets : Sets (l.k - l.offset / 4) l.fn.txn l.txn;
  runs : AreRunsSoFar (l.offset / 4) l.k l.page (memory_of l.fn.txn) (memory_of l.txn);
  counted : IsIdle (memory_of l.fn.txn)
      → IsCounted (chain_of m l.fn.chain) (l.offset / 4) l.k (memory_of l.fn.txn) (memory_of l.txn);
  put : IsPutSoFar m (chain_of m l.fn.chain) l.offset l.bytes l.k l.page (current (memory_of l.txn));
}

abbrev pub decreases-loop-k : goal.decreases-loop-k
decreases-loop-k g l = l.end - l.k
