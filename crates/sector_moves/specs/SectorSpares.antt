-- The other area of a flash whose sectors are small: each step of a move erases a sector of it and copies pages there.
use Rattle.std.specs.Prelude.{◌≡◌, ◌≢◌, ◌<◌, ◌≤◌, ◌+◌, ◌-◌, ◌*◌, ◌/◌, ℕ, List, slice_index, nat_eq, if◌then◌else◌}
use Rattle.flash_device.specs.declared.flash.TheConstants.{BLANK}
use Rattle.flash_device.specs.declared.layout.TheConstants.{STEP_PAGES}
use Rattle.flash_device.specs.FlashBlocks.{steps_of}
use Rattle.flash_device.specs.FlashCalls.{AreFilled, FlashState}
use Rattle.flash_device.specs.FlashLogs.{base_in, find, page_word, turn_of, words_of}
use Rattle.flash_device.specs.PageTables.{AreFree}
use Rattle.flash_area.specs.Spares.{spare_in, spare_sector}
use Rattle.flash_moves.specs.declared.ahead.TheConstants.{TRIES}

-- the number of slots of an area that end where a sector begins, or before
abbrev pub slots_before : (ℕ → ℕ) → ℕ → ℕ → ℕ
slots_before start base sector = (start sector - base) / 20

-- the first slot of an area that begins where a sector does, or behind
abbrev pub slot_from : (ℕ → ℕ) → ℕ → ℕ → ℕ
slot_from start base sector = (start sector - base + 19) / 20

-- the number of slots of the other area that end before one of its sectors
abbrev pub spare_slots : ℕ → ℕ → (ℕ → ℕ) → ℕ → ℕ → ℕ
spare_slots slots sectors start turn n = slots_before start (spare_in slots turn) (spare_sector sectors turn + n)

-- the first slot of the other area in one of its sectors
abbrev pub spare_slot : ℕ → ℕ → (ℕ → ℕ) → ℕ → ℕ → ℕ
spare_slot slots sectors start turn n = slot_from start (spare_in slots turn) (spare_sector sectors turn + n)

-- The sector of each step holds so many slots behind those of its pages: one for a page that is copied again, and
-- those that may fail.
pub record HoldsSlots (pages slots sectors : ℕ) (start : ℕ → ℕ) (t : ℕ) : Type 0 where
  pub each : (turn n : ℕ) → n < steps_of pages
      → spare_slot slots sectors start turn n + STEP_PAGES + t ≤ spare_slots slots sectors start turn (n + 1)

-- By its first slots, an area has the first so many pages of these words, but for one page at most, whose copy may be
-- older: its number and 1, or 0. It has no later page that the area in use lacks.
pub record HasSectorCopies (pages slots : ℕ) (m words : List ℕ) (home base below copied older : ℕ) : Type 0 where
  pub each : (p k : ℕ) → p < copied → p + 1 ≢ older → k < 16
      → page_word m base below p k ≡ slice_index words (16 * p + k)
  pub left : (p : ℕ) → copied ≤ p → p < pages → find m home slots p ≡ 0 → find m base below p ≡ 0

-- So many steps have copied pages to the other area, each into a sector of its own.
abbrev pub HasStepCopies : ℕ → ℕ → ℕ → (ℕ → ℕ) → List ℕ → ℕ → ℕ → ℕ → Type 0
HasStepCopies pages slots sectors start m turn copied older =
    HasSectorCopies pages slots m (words_of pages slots m) (base_in slots turn) (spare_in slots turn)
    (spare_slots slots sectors start turn copied) (STEP_PAGES * copied) older

-- the number of sectors of an area behind those of the steps
abbrev pub last_sectors : ℕ → ℕ → ℕ
last_sectors pages sectors = sectors - steps_of pages

-- where these begin in the other area
abbrev pub last_start : ℕ → ℕ → (ℕ → ℕ) → ℕ → ℕ → ℕ
last_start pages sectors start turn n = start (spare_sector sectors turn + (steps_of pages + n))

-- How far the move has come: so many of the last sectors are erased, and if these are all, so many steps have copied
-- pages. In turn 1 it has not begun. The sector of the next step may hold anything.
pub record IsSectorSpare (pages slots sectors : ℕ) (start : ℕ → ℕ) (m : List ℕ) (turn erased copied older : ℕ)
    : Type 0 where
  pub within : erased ≤ last_sectors pages sectors
  pub most : copied < steps_of pages
  pub idle : turn ≡ 1 → erased ≡ 0
  pub fresh : erased < last_sectors pages sectors → copied ≡ 0
  pub few : older ≤ STEP_PAGES * copied
  pub blank : AreFilled m (last_start pages sectors start turn 0)
      (last_start pages sectors start turn erased - last_start pages sectors start turn 0) BLANK
  pub copies : HasStepCopies pages slots sectors start m turn copied older

-- The steps that are left until the pages have moved. From turn 1 the first one passes the turn to the witness.
abbrev pub sector_steps : ℕ → ℕ → ℕ → ℕ → ℕ → ℕ
sector_steps pages sectors turn erased copied =
    (if nat_eq turn 1 then 1 else 0) + (last_sectors pages sectors - erased) + (steps_of pages - copied)

-- the number of free slots at which a move begins: one for each step, and those of the tries of a write that may fail
abbrev pub sector_lead : ℕ → ℕ
sector_lead sectors = sectors + 1 + TRIES

-- By what the flash holds, the area in use has a free slot for each step that is left of the move, behind those that
-- writes have tried.
pub record HasRoomForSteps (pages slots sectors : ℕ) (start : ℕ → ℕ) (m : List ℕ) (tried : ℕ) : Type 0 where
  pub erased : ℕ
  pub copied : ℕ
  pub older : ℕ
  pub next : ℕ
  pub spare : IsSectorSpare pages slots sectors start m (turn_of slots m) erased copied older
  pub free : AreFree m (base_in slots (turn_of slots m)) next slots
  pub room : sector_steps pages sectors (turn_of slots m) erased copied + next ≤ slots
  pub passed : tried ≤ next

-- No more steps are left than by any progress that the flash shows, if that fits the free slots, and leaves at most one
-- more of them over than a write has tries.
pub record HasFewestSteps (pages slots sectors : ℕ) (start : ℕ → ℕ) (m : List ℕ) (turn free steps : ℕ)
    : Type 0 where
  pub fewest : (erased copied older : ℕ) → IsSectorSpare pages slots sectors start m turn erased copied older
      → sector_steps pages sectors turn erased copied ≤ free
      → free ≤ sector_steps pages sectors turn erased copied + TRIES + 1
      → steps ≤ sector_steps pages sectors turn erased copied

-- At most two programs are begun for each slot from one to another: of its record, and of its mark.
abbrev pub SpendsSlots : ℕ → ℕ → FlashState → FlashState → Type 0
SpendsSlots from to old new = new.operations + 2 * from ≤ old.operations + 2 * to

-- A page is put into an area, by its slots below one: there it reads as in the area in use. All other pages are as
-- before, and from a slot on all are free.
pub record PutsPage (slots : ℕ) (m : List ℕ) (home base below page : ℕ) (after : List ℕ) (next : ℕ) : Type 0 where
  pub same : (k : ℕ) → k < 16 → page_word after base below page k ≡ page_word m home slots page k
  pub others : (p k : ℕ) → p ≢ page → k < 16 → page_word after base below p k ≡ page_word m base below p k
  pub found : (p : ℕ) → p ≢ page → find after base below p ≡ find m base below p
  pub free : AreFree after base next below

-- A page reads the same in the first slots of an area as in the area in use.
pub record ReadsAsCopy (slots : ℕ) (m : List ℕ) (home base below page : ℕ) : Type 0 where
  pub each : (k : ℕ) → k < 16 → page_word m base below page k ≡ page_word m home slots page k

-- The copy of one page, by its number and 1, differs from the page, where so many steps have copied pages. 0 stands for
-- no page.
abbrev pub HasOlderCopy : ℕ → ℕ → (ℕ → ℕ) → List ℕ → ℕ → ℕ → ℕ → Type 0
HasOlderCopy slots sectors start m turn copied older = older ≢ 0
    → ¬ ReadsAsCopy slots m (base_in slots turn) (spare_in slots turn)
    (spare_slots slots sectors start turn copied) (older - 1)

-- All steps have copied pages to the other area, and it is free behind them.
pub record HasMovedSteps (pages slots sectors : ℕ) (start : ℕ → ℕ) (m : List ℕ) (turn : ℕ) : Type 0 where
  pub copies : HasStepCopies pages slots sectors start m turn (steps_of pages) 0
  pub blank : AreFilled m (last_start pages sectors start turn 0)
      (last_start pages sectors start turn (last_sectors pages sectors) - last_start pages sectors start turn 0) BLANK
