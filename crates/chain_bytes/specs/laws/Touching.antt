-- The words and blocks that few bytes touch.
use Rattle.std.proofs.Common.{arith}
use Rattle.std.specs.Prelude.{◌≤◌, ℕ, zero, suc}
use Rattle.block_chain.specs.ChainChanges.{touched_words, touched_blocks}

-- 255 bytes touch at most 65 words
pub touched_few : (offset count : ℕ) → count ≤ 255 → touched_words offset count ≤ 65
touched_few offset zero few = omega arith
touched_few offset (suc n) few = omega (arith, few)

-- and at most six blocks
pub touched_few_blocks : (offset count : ℕ) → count ≤ 255 → touched_blocks offset count ≤ 6
touched_few_blocks offset zero few = omega arith
touched_few_blocks offset (suc n) few = omega (arith, few)
