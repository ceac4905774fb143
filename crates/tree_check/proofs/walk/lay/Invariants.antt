use Rattle.std.proofs.Common.{ℕ, ◌≡◌, ◌≤◌, ◌+◌, List, ◌++◌, length, take}
use Rattle.undo_journal.specs.Memory.{committed, IsReady}
use Rattle.undo_journal.specs.StoreCalls.{OnlyReads}
use Rattle.block_chain.specs.declared.layout.TheConstants.{FIRST_BLOCK_PAGE}
use Rattle.block_chain.specs.Chains.{free_chain}
use Rattle.block_chain.specs.Layout.{laid_out}
use Rattle.block_chain.specs.laws.Laying.{AreLaidSoFar}
use Rattle.tree_check.proofs.ChainEnds.{AreEnds}
use Rattle.tree_check.proofs.walk.lay.Given as goal

abbrev pub invariant-loop-i : goal.invariant-loop-i
invariant-loop-i g l = let m = committed l.fn.store in record {
  ready : IsReady l.store;
  reads : OnlyReads l.fn.store l.store;
  in_range : l._i ≤ length l.extents;
  most : l.blocks ≤ l.count;
  free : l.free.blocks ≡ length (free_chain m);
  so_far : (seen : List ℕ) × AreLaidSoFar (FIRST_BLOCK_PAGE + l.count) m l.extents l._i seen l.blocks;
  room : length l.ends ≡ 512;
  ends : AreEnds m l.ends (free_chain m ++ laid_out m (take l._i l.extents));
}
