-- The most device writes of an update.
use Rattle.std.proofs.Common.{arith}
use Rattle.std.specs.Prelude.{◌≤◌, ℕ, zero, suc}
use Rattle.undo_journal.specs.Spending.{transaction_writes}
use Rattle.block_chain.specs.ChainChanges.{touched_words, touched_blocks}
use Rattle.ef_contents.specs.UpdateWrites.{update_writes}

-- bytes touch few words, and few blocks
pub touched_most : (offset count : ℕ)
    → transaction_writes (touched_words offset count) (touched_blocks offset count) ≤ update_writes count
touched_most offset zero = omega arith
touched_most offset (suc n) = omega arith
