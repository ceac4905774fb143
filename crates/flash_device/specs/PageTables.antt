-- The table of a board's pages, and the free slots.
use Rattle.std.specs.Prelude.{◌≡◌, ◌≤◌, ◌<◌, ℕ, List, slice_index}
use Rattle.flash_device.specs.declared.flash.TheConstants.{BLANK}
use Rattle.flash_device.specs.FlashCalls.{AreFilled}
use Rattle.flash_device.specs.FlashLogs.{find, slot_of}

-- The table has the slot of each page, by the first n slots.
pub record IsPageTable (pages : ℕ) (m : List ℕ) (base n : ℕ) (table : List ℕ) : Type 0 where
  pub each : (p : ℕ) → p < pages → slice_index table p ≡ find m base n p

-- From a slot on, up to the nth, all are blank.
pub record AreFree (m : List ℕ) (base next n : ℕ) : Type 0 where
  pub within : next ≤ n
  pub free : (s : ℕ) → next ≤ s → s < n → AreFilled m (slot_of base s) 20 BLANK

-- No more slots are blank at the end: those that are, up to the nth, begin at this one, or behind it.
pub record IsFirstFreeSlot (m : List ℕ) (base next n : ℕ) : Type 0 where
  pub first : (s : ℕ) → AreFree m base s n → next ≤ s
