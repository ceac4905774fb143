-- Bytes that a ready store takes: what an update of them requires.
use Rattle.std.specs.Prelude.{ℕ, ◌≤◌}
use Rattle.undo_journal.specs.Memory.{Memory, committed, IsReady}
use Rattle.block_chain.specs.declared.chain.Chain.{Chain}
use Rattle.block_links.specs.StoredBlocks.{LieIn}

-- The store is ready, and at most 255 bytes from an offset on lie in a chain.
pub record TakesBytes (m : Memory) (blocks : Chain) (offset count : ℕ) : Type 0 where
  pub ready : IsReady m
  pub lie : LieIn (committed m) blocks offset count
  pub few : count ≤ 255
