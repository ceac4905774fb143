use Rattle.std.proofs.Common.{◌≡◌, ◌<◌, ◌+◌, ℕ, length, slice_index}
use Rattle.undo_journal.specs.Memory.{committed, IsReady}
use Rattle.undo_journal.specs.StoreCalls.{OnlyReads}
use Rattle.block_chain.specs.BlockWords.{word}
use Rattle.file_lookup.proofs.reading.read_entry_words.Given as goal

abbrev pub invariant-loop-k : goal.invariant-loop-k
invariant-loop-k g l = record {
  ready : IsReady l.store;
  reads : OnlyReads l.initial.store l.store;
  size : length l.words ≡ 11;
  so_far : (k : ℕ) → k < l.k → slice_index l.words k ≡ word (committed l.initial.store) (1 + l.fn.e) k;
}
