use Rattle.std.proofs.Common.{◌≡◌, ◌++◌, take, drop}
use Rattle.block_chain.specs.BlockWords.{word_bytes}
use Rattle.chain_bytes.proofs.reading.append_part.Given as goal

abbrev pub invariant-loop-i : goal.invariant-loop-i
invariant-loop-i g l = record {
  so_far : l.out.items ≡ l.initial.out.items ++ take l.i (drop l.from (word_bytes l.word));
}
