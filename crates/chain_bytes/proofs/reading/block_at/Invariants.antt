use Rattle.std.proofs.Common.{◌≡◌, slice_index}
use Rattle.undo_journal.specs.Memory.{committed, IsReady}
use Rattle.undo_journal.specs.StoreCalls.{OnlyReads}
use Rattle.block_chain.specs.Chains.{chain}
use Rattle.chain_bytes.proofs.reading.block_at.Given as goal

abbrev pub invariant-loop-i : goal.invariant-loop-i
invariant-loop-i g l = record {
  ready : IsReady l.store;
  reads : OnlyReads l.fn.store l.store;
  place : l.page ≡ slice_index (chain (committed l.fn.store) l.first) l._i;
}
