-- What putting a record leaves.
use Rattle.std.specs.Prelude.{◌≡◌, ◌⊎◌, ◌+◌, ℕ, true, false, List}
use Rattle.flash_device.specs.FlashCalls.{SameElsewhere, IsThere}
use Rattle.flash_device.specs.FlashLogs.{is_marked}

-- The slot has the record and its mark.
pub record IsPut (m : List ℕ) (at : ℕ) (words : List ℕ) : Type 0 where
  pub marked : is_marked m (at + 18) ≡ true
  pub there : IsThere m at words

-- The slot has no mark, or it has the record and its mark. No word outside of it changed.
pub record PutsInSlot (m : List ℕ) (at : ℕ) (words after : List ℕ) : Type 0 where
  pub elsewhere : SameElsewhere m at 20 after
  pub whole : (is_marked after (at + 18) ≡ false) ⊎ IsPut after at words
