use Rattle.std.proofs.Common.{◌≡◌, slice_index}
use Rattle.undo_journal.specs.Memory.{current, IsOpen}
use Rattle.undo_journal.specs.Lent.{memory_of}
use Rattle.undo_journal.specs.StoreCalls.{TxnReads}
use Rattle.block_chain.specs.Chains.{chain}
use Rattle.block_links.proofs.words.walk.Given as goal

abbrev pub invariant-loop-i : goal.invariant-loop-i
invariant-loop-i g l = record {
  ready : IsOpen (memory_of l.txn);
  reads : TxnReads l.fn.txn l.txn;
  place : l.page ≡ slice_index (chain (current (memory_of l.fn.txn)) l.first) l._i;
}
