-- The marks that close the three blocks.
use Rattle.std.specs.Prelude.{◌≡◌, ◌*◌, ℕ, List}
use Rattle.flash_device.specs.FlashBlocks.{witness_start}
use Rattle.flash_device.specs.FlashLogs.{close_b, is_closed}

-- Some block is closed, and some is open. So exactly one open block stands behind a closed one in the ring.
abbrev pub IsRing : ℕ → List ℕ → Type 0
IsRing slots m = is_closed m (20 * slots) ≡ is_closed m (close_b slots)
    → is_closed m (close_b slots) ≡ is_closed m (witness_start slots) → ⊥

-- The marks that close the blocks are the same.
pub record SameMarks (slots : ℕ) (m after : List ℕ) : Type 0 where
  pub a : is_closed after (20 * slots) ≡ is_closed m (20 * slots)
  pub b : is_closed after (close_b slots) ≡ is_closed m (close_b slots)
  pub c : is_closed after (witness_start slots) ≡ is_closed m (witness_start slots)
