-- How much of a file some bytes touch, and what it costs to change them.
use Rattle.std.specs.Prelude.{◌≤◌, ◌+◌, ◌/◌, ℕ, zero, suc}
use Rattle.std.proofs.Common.{arith}
use Rattle.block_chain.specs.ChainChanges.{touched_blocks, touched_words}

-- some bytes touch a quarter as many words as they are, rounded up, and one more at most
pub few_words : (offset n : ℕ) → touched_words offset n ≤ (n + 3) / 4 + 1
few_words offset zero = omega arith
few_words offset (suc n) = omega arith

-- and a sixtieth as many blocks, rounded up, and one more at most
pub few_blocks : (offset n : ℕ) → touched_blocks offset n ≤ (n + 59) / 60 + 1
few_blocks offset zero = omega arith
few_blocks offset (suc n) = omega arith
