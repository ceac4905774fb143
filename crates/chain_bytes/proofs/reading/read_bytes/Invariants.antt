use Rattle.std.proofs.Common.{◌≡◌, ◌-◌, ◌/◌, ◌%◌}
use Rattle.undo_journal.specs.Memory.{committed, IsReady}
use Rattle.undo_journal.specs.StoreCalls.{OnlyReads}
use Rattle.block_chain.specs.Chains.{chain_of}
use Rattle.block_chain.specs.declared.layout.TheConstants.{BLOCK_WORDS}
use Rattle.chain_bytes.proofs.Runs.{IsRead}
use Rattle.chain_bytes.proofs.reading.read_bytes.Given as goal

abbrev pub invariant-loop-at : goal.invariant-loop-at
invariant-loop-at g l = let m = committed l.fn.store in record {
  ready : IsReady l.store;
  placed : l.place ≡ l.at / 4 % BLOCK_WORDS;
  reads : OnlyReads l.fn.store l.store;
  bytes : IsRead m (chain_of m l.fn.chain) l.offset l.count l.fn.out.items l.at l.page l.out.items;
}

abbrev pub decreases-loop-at : goal.decreases-loop-at
decreases-loop-at g l = l.end - l.at
