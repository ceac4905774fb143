-- A flash that has nothing but the pages as they are.
use Rattle.std.specs.Prelude.{◌≡◌, ◌⊎◌, ◌<◌, ◌*◌, ℕ, true, List}
use Rattle.flash_device.specs.declared.flash.TheConstants.{BLANK, BLOCKS}
use Rattle.flash_device.specs.FlashBlocks.{witness_start}
use Rattle.flash_device.specs.FlashCalls.{AreFilled}
use Rattle.flash_device.specs.FlashLogs.{base_in, close_b, close_of, is_marked, slot_of, turn_of}
use Rattle.flash_area.specs.HeldPages.{HoldsPage}
use Rattle.flash_area.specs.Spares.{spare_in}

-- A slot is blank, or holds a page as it is.
abbrev pub IsCleanSlot : ℕ → ℕ → List ℕ → ℕ → ℕ → Type 0
IsCleanSlot pages slots m base s = AreFilled m (slot_of base s) 20 BLANK ⊎ HoldsPage pages slots m base s

-- Each slot below one is blank, or holds a page as it is.
pub record AreClean (pages slots : ℕ) (m : List ℕ) (base next : ℕ) : Type 0 where
  pub each : (s : ℕ) → s < next → IsCleanSlot pages slots m base s

-- The flash has nothing but the pages as they are. Each slot of the area in use is blank or holds a page, the other
-- area is blank, and so is each place of a mark that closes a block, or it has the mark. These are all words.
pub record HoldsOnlyPages (pages slots : ℕ) (m : List ℕ) : Type 0 where
  pub home : AreClean pages slots m (base_in slots (turn_of slots m)) slots
  pub other : AreFilled m (spare_in slots (turn_of slots m)) (20 * slots) BLANK
  pub marks : (block : ℕ) → block < BLOCKS
      → AreFilled m (close_of slots block) 2 BLANK ⊎ (is_marked m (close_of slots block) ≡ true)

-- The block that was closed last has the mark, in turns 0 and 2.
pub record HasLastMark (slots : ℕ) (m : List ℕ) (turn : ℕ) : Type 0 where
  pub zero : turn ≡ 0 → is_marked m (witness_start slots) ≡ true
  pub two : turn ≡ 2 → is_marked m (close_b slots) ≡ true
