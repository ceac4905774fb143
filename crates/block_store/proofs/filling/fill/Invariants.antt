use Rattle.std.proofs.Common.{◌≡◌, ◌≤◌, ◌+◌, ◌-◌, slice_index, take, None}
use Rattle.undo_journal.specs.Memory.{committed}
use Rattle.undo_journal.specs.StoreCalls.{Changes}
use Rattle.block_chain.specs.Chains.{free_chain}
use Rattle.block_chain.specs.ChainChanges.{OnlyContent}
use Rattle.block_chain.specs.ChainParts.{filled_word}
use Rattle.block_chain.specs.laws.Filling.{AreFilled}
use Rattle.block_store.proofs.filling.fill.Given as goal

abbrev pub invariant-loop-i : goal.invariant-loop-i
invariant-loop-i g l = let m = committed l.fn.store in record {
  in_range : l._i ≤ l.fn.n;
  only : OnlyContent m (take l.fn.n (free_chain m)) (committed l.store);
  filled : AreFilled (committed l.store) (take l._i (free_chain m)) (filled_word l.fn.byte);
  last : 1 ≤ l._i → l.last ≡ slice_index (free_chain m) (l._i - 1);
  page : l.page ≡ slice_index (free_chain m) l._i;
  changes : Changes l._i l.fn.store l.store None;
  counted : l.store.facts.writes ≡ l.fn.store.facts.writes + l._i;
}
