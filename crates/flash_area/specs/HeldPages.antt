-- Slots that hold pages as they are.
use Rattle.std.specs.Prelude.{◌≡◌, ◌<◌, ◌+◌, ℕ, suc, List, slice_index}
use Rattle.flash_device.specs.FlashLogs.{find, slot_of}

-- A slot holds a page as it is: the page is found there, so in no other slot. The word that isn't used is 0.
pub record HoldsPage (pages slots : ℕ) (m : List ℕ) (base s : ℕ) : Type 0 where
  pub page : ℕ
  pub below : page < pages
  pub found : find m base slots page ≡ suc s
  pub unused : slice_index m (slot_of base s + 17) ≡ 0

-- Each slot below one holds a page as it is.
pub record HavePages (pages slots : ℕ) (m : List ℕ) (base next : ℕ) : Type 0 where
  pub each : (s : ℕ) → s < next → HoldsPage pages slots m base s
