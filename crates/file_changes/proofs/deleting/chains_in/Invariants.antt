use Rattle.std.proofs.Common.{◌≡◌, length, take}
use Rattle.block_chain.specs.Layout.{chains_of}
use Rattle.file_changes.proofs.deleting.chains_in.Given as goal

abbrev pub invariant-loop-extent : goal.invariant-loop-extent
invariant-loop-extent l = record {
  size : length l.chains.items ≡ l.extent-index;
  so_far : l.chains.items ≡ chains_of (take l.extent-index l.extents);
}
