-- The other area, to which the pages move step by step.
use Rattle.std.specs.Prelude.{◌≡◌, ◌≢◌, ◌⊎◌, ◌<◌, ◌≤◌, ◌+◌, ◌-◌, ◌*◌, ℕ, false, List, slice_index, nat_eq}
use Rattle.std.specs.Prelude.{if◌then◌else◌}
use Rattle.flash_device.specs.declared.flash.TheConstants.{BLANK}
use Rattle.flash_device.specs.declared.layout.TheConstants.{STEP_PAGES}
use Rattle.flash_device.specs.FlashBlocks.{area_size, steps_of}
use Rattle.flash_device.specs.FlashCalls.{AreFilled}
use Rattle.flash_device.specs.FlashLogs.{base_in, find, is_closed, page_word, words_of}
use Rattle.flash_device.specs.PageTables.{AreFree}

-- where the pages move to in a turn
abbrev pub spare_in : ℕ → ℕ → ℕ
spare_in slots turn = if nat_eq turn 0 then area_size slots else 0

-- the number of its first sector
abbrev pub spare_sector : ℕ → ℕ → ℕ
spare_sector sectors turn = if nat_eq turn 0 then sectors else 0

-- The area is open. It has the first so many pages of these words, but for one page at most, whose copy may be older:
-- its number and 1, or 0. It has no later page that the area in use lacks. From a slot on all are free.
pub record HasCopies (pages slots : ℕ) (m words : List ℕ) (home base copied behind older : ℕ) : Type 0 where
  pub opened : is_closed m (base + 20 * slots) ≡ false
  pub free : AreFree m base behind slots
  pub each : (p k : ℕ) → p < copied → p < pages → p + 1 ≢ older → k < 16
      → page_word m base slots p k ≡ slice_index words (16 * p + k)
  pub left : (p : ℕ) → copied ≤ p → p < pages → find m home slots p ≡ 0 → find m base slots p ≡ 0

-- The slots that the copies of so many steps take at most in a move that is in pace: one for each page, one for each
-- write between two steps, and those that steps took which lost power.
abbrev pub copies_most : ℕ → ℕ → ℕ
copies_most copied extra = STEP_PAGES * copied + (copied - 1) + extra

-- How far the move has come: so many sectors are erased, and if these are all, so many steps have copied pages. In
-- turn 1 it has not begun.
pub record IsSpare (pages slots sectors : ℕ) (start : ℕ → ℕ) (m words : List ℕ)
    (turn erased copied behind older : ℕ) : Type 0 where
  pub within : erased ≤ sectors
  pub most : copied < steps_of pages
  pub idle : turn ≡ 1 → erased ≡ 0
  pub fresh : erased < sectors → (copied ≡ 0) × (behind ≡ 0)
  pub blank : erased < sectors
      → AreFilled m (spare_in slots turn) (start (spare_sector sectors turn + erased) - spare_in slots turn) BLANK
  pub few : older ≤ STEP_PAGES * copied
  pub copies : erased ≡ sectors → HasCopies pages slots m words (base_in slots turn) (spare_in slots turn)
      (STEP_PAGES * copied) behind older

-- the steps that are left of a move that has come so far; from turn 1 the first one passes the turn to the witness
abbrev pub steps_from : ℕ → ℕ → ℕ → ℕ → ℕ → ℕ
steps_from pages sectors turn erased copied =
    (if nat_eq turn 1 then 1 else 0) + (sectors - erased) + (steps_of pages - copied)

-- The area in use has a free slot for each step that is left.
abbrev pub StepsFit : ℕ → ℕ → ℕ → ℕ → ℕ → ℕ → ℕ → Type 0
StepsFit pages slots sectors turn erased copied next = steps_from pages sectors turn erased copied + next ≤ slots

-- How far a move has come keeps its pace if any progress does that the flash shows: its steps fit, and its copies are
-- in as few slots.
abbrev pub KeepsSteps : ℕ → ℕ → ℕ → (ℕ → ℕ) → List ℕ → ℕ → ℕ → ℕ → ℕ → ℕ → ℕ → Type 0
KeepsSteps pages slots sectors start m turn next most erased copied behind = (extra e c b o : ℕ) → extra ≤ most
    → IsSpare pages slots sectors start m (words_of pages slots m) turn e c b o → b ≤ copies_most c extra
    → StepsFit pages slots sectors turn e c next
    → (behind ≤ copies_most copied extra) × StepsFit pages slots sectors turn erased copied next

-- No progress that the flash shows has more sectors erased, but for one that has them all.
abbrev pub KeepsSectors : ℕ → ℕ → ℕ → (ℕ → ℕ) → List ℕ → ℕ → ℕ → Type 0
KeepsSectors pages slots sectors start m turn erased = (e c b o : ℕ) → e < sectors
    → IsSpare pages slots sectors start m (words_of pages slots m) turn e c b o → e ≤ erased

-- Of all progress that the flash shows, with copies in at most so many slots more than without a power loss, this
-- leaves the fewest steps.
pub record IsFurthest (pages slots sectors : ℕ) (start : ℕ → ℕ) (m : List ℕ)
    (turn extra erased copied behind older : ℕ) : Type 0 where
  pub spare : IsSpare pages slots sectors start m (words_of pages slots m) turn erased copied behind older
  pub few : behind ≤ copies_most copied extra
  pub fewest : (e c b o : ℕ) → IsSpare pages slots sectors start m (words_of pages slots m) turn e c b o
      → b ≤ copies_most c extra → steps_from pages sectors turn erased copied ≤ steps_from pages sectors turn e c

-- The move can begin anew behind so many blank sectors, maybe none: from one slot on there are as many as its steps.
-- None need be left for a record.
pub record CanBeginAnew (pages slots sectors : ℕ) (start : ℕ → ℕ) (m : List ℕ) (turn next erased : ℕ) : Type 0 where
  pub spare : IsSpare pages slots sectors start m (words_of pages slots m) turn erased 0 0 0
  pub fits : StepsFit pages slots sectors turn erased 0 next

-- A move that has come so far goes on: none has come further. Its copies lost no slot, or it can't begin anew.
pub record MoveGoesOn (pages slots sectors : ℕ) (start : ℕ → ℕ) (m : List ℕ)
    (turn next extra erased copied behind older : ℕ) : Type 0 where
  pub furthest : IsFurthest pages slots sectors start m turn extra erased copied behind older
  pub stays : copies_most copied 0 < behind → (e : ℕ) → ¬ CanBeginAnew pages slots sectors start m turn next e

-- A move begins anew: it can, and whichever has come furthest lost slots.
pub record MoveBeginsAnew (pages slots sectors : ℕ) (start : ℕ → ℕ) (m : List ℕ) (turn next extra erased : ℕ)
    : Type 0 where
  pub can : CanBeginAnew pages slots sectors start m turn next erased
  pub lost : (e c b o : ℕ) → IsFurthest pages slots sectors start m turn extra e c b o → copies_most c 0 < b

-- What is found leaves no more steps than each move that goes on by what the flash shows, and has the same older copy
-- or none. It leaves no more than each that begins anew, and then no copy is older.
pub record FindsFurthest (pages slots sectors : ℕ) (start : ℕ → ℕ) (m : List ℕ)
    (turn next extra erased copied older : ℕ) : Type 0 where
  pub on : (e c b o : ℕ) → MoveGoesOn pages slots sectors start m turn next extra e c b o
      → (steps_from pages sectors turn erased copied ≤ steps_from pages sectors turn e c)
      × ((older ≡ 0) ⊎ (older ≡ o))
  pub anew : (e : ℕ) → MoveBeginsAnew pages slots sectors start m turn next extra e
      → (steps_from pages sectors turn erased copied ≤ steps_from pages sectors turn e 0) × (older ≡ 0)
