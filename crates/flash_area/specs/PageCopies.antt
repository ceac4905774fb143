-- Copies of pages to the other area.
use Rattle.std.specs.Prelude.{◌≡◌, ◌≢◌, ◌<◌, ◌≤◌, ◌+◌, ◌*◌, ℕ, List, slice_index}
use Rattle.flash_device.specs.declared.layout.TheConstants.{SPARES}
use Rattle.flash_device.specs.FlashCalls.{SameElsewhere}
use Rattle.flash_device.specs.PageTables.{AreFree}
use Rattle.flash_device.specs.FlashLogs.{find, page_word}

-- A page is copied: it reads the same in the other area, and the table names its new slot. All other pages of that
-- area are as before, and all other numbers of the table.
pub record CopiesPage (slots : ℕ) (m table : List ℕ) (from to page : ℕ) (after then : List ℕ) (next : ℕ) : Type 0 where
  pub words : (k : ℕ) → k < 16 → page_word after to slots page k ≡ page_word m from slots page k
  pub others : (p k : ℕ) → p ≢ page → k < 16 → page_word after to slots p k ≡ page_word m to slots p k
  pub found : (p : ℕ) → p ≢ page → find after to slots p ≡ find m to slots p
  pub entry : slice_index then page ≡ find after to slots page
  pub entries : (p : ℕ) → p ≢ page → slice_index then p ≡ slice_index table p
  pub free : AreFree after to next slots

-- The first so many pages are copied.
pub record HasCopied (slots : ℕ) (m table : List ℕ) (from to page : ℕ) (after then : List ℕ) (next : ℕ) : Type 0 where
  pub elsewhere : SameElsewhere m to (20 * slots) after
  pub below : next ≤ page + SPARES
  pub words : (p k : ℕ) → p < page → k < 16 → page_word after to slots p k ≡ page_word m from slots p k
  pub entries : (p : ℕ) → p < page → slice_index then p ≡ find after to slots p
  pub left : (p : ℕ) → page ≤ p → find after to slots p ≡ 0
  pub kept : (p : ℕ) → page ≤ p → slice_index then p ≡ slice_index table p
  pub free : AreFree after to next slots

-- A record of a page was put into an area, whole or not. All other pages of the area are as before, and from a slot on
-- all are free.
pub record KeepsOthers (slots : ℕ) (m : List ℕ) (base page : ℕ) (after : List ℕ) (next : ℕ) : Type 0 where
  pub others : (p k : ℕ) → p ≢ page → k < 16 → page_word after base slots p k ≡ page_word m base slots p k
  pub found : (p : ℕ) → p ≢ page → find after base slots p ≡ find m base slots p
  pub free : AreFree after base next slots
