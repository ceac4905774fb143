-- The slots that a write takes, each try the next one, and when none is left.
use Rattle.std.specs.Prelude.{◌≡◌, ◌≢◌, ◌⊎◌, ◌↔◌, ◌<◌, ◌≤◌, ◌+◌, ◌-◌, ◌*◌, ℕ, true, List, if◌then◌else◌}
use Rattle.flash_area.specs.Spares.{MoveBeginsAnew, MoveGoesOn, steps_from}
use Rattle.flash_device.specs.FlashCalls.{SameElsewhere}
use Rattle.flash_device.specs.FlashLogs.{base_in, slot_of, turn_of}
use Rattle.flash_device.specs.PageTables.{AreFree}
use Rattle.flash_moves.specs.Paces.{LogState, extra_of, move_steps_of}
use Rattle.flash_moves.specs.declared.ahead.TheConstants.{TRIES}

-- the slots that the log has passed: those that aren't free, or before it has found its pages those that writes tried
abbrev pub passed_slots : ℕ → LogState → ℕ
passed_slots slots l = if l.ready then slots - l.free else l.tried

-- The first slot from one on that is free with all behind it.
pub record IsNextSlot (slots : ℕ) (m : List ℕ) (from n : ℕ) : Type 0 where
  pub free : AreFree m (base_in slots (turn_of slots m)) n slots
  pub passed : from ≤ n
  pub first : (s : ℕ) → AreFree m (base_in slots (turn_of slots m)) s slots → from ≤ s → n ≤ s

-- The next write begins at this slot. If the log has found its pages it is in pace.
pub record WillTake (slots : ℕ) (l : LogState) (n : ℕ) : Type 0 where
  pub next : IsNextSlot slots l.raw (passed_slots slots l) n
  pub paced : l.ready ≡ true → l.paced ≡ true

-- The next slot is the same.
abbrev pub SameNext : ℕ → LogState → LogState → Type 0
SameNext slots old new = (n : ℕ)
    → IsNextSlot slots old.raw (passed_slots slots old) n ↔ IsNextSlot slots new.raw (passed_slots slots new) n

-- The next slot is this one, or before it.
abbrev pub BeginsBy : ℕ → LogState → ℕ → Type 0
BeginsBy slots l n = (k : ℕ) → IsNextSlot slots l.raw (passed_slots slots l) k → k ≤ n

-- A write passed over fewer slots than it met Faults.
abbrev pub PassesFewer : ℕ → LogState → LogState → Type 0
PassesFewer slots old new = (n : ℕ) → BeginsBy slots old n
    → BeginsBy slots new (n + (new.flash.faults - old.flash.faults - 1))

-- A write met more than so many Faults, or it passed over fewer slots than it met Faults.
abbrev pub MeetsMoreOrPassesFewer : ℕ → ℕ → LogState → LogState → Type 0
MeetsMoreOrPassesFewer slots k old new = (old.flash.faults + k < new.flash.faults) ⊎ PassesFewer slots old new

-- Tries of a write take slots from n on, so many at most, and the next write begins behind them: until power-on no slot
-- is taken again, even if it reads blank. Together they got at most two programs a slot, of a record and its mark. No
-- other word of the flash changed, and nothing was erased.
pub record TakesInTurn (slots n most : ℕ) (old new : LogState) : Type 0 where
  pub next : ℕ
  pub takes : WillTake slots new next
  pub on : n ≤ next
  pub few : next ≤ n + most
  pub programs : new.flash.operations + 2 * n ≤ old.flash.operations + 2 * next
  pub erases : new.flash.erases ≡ old.flash.erases
  pub only : SameElsewhere old.raw (slot_of (base_in slots (turn_of slots old.raw)) n) (20 * (next - n)) new.raw
  pub turn : turn_of slots new.raw ≡ turn_of slots old.raw

-- The slot of a write's next try is found, if no call fails: it isn't after one Fault. Nothing changed in the flash.
pub record FindsNext (slots n : ℕ) (old new : LogState) : Type 0 where
  pub once : new.flash.faults ≤ old.flash.faults + 1
  pub none : new.ready ≡ true → new.flash.faults ≡ old.flash.faults
  pub raw : new.raw ≡ old.raw
  pub operations : new.flash.operations ≡ old.flash.operations
  pub erases : new.flash.erases ≡ old.flash.erases
  pub takes : WillTake slots new n

-- No slot from one on is left for a record of a page: the steps of each move that goes on, and has no older copy but
-- that of this page, need them all, and so do those of each that begins anew, and of one that begins in turn 1.
pub record HasNoSlot (pages slots sectors : ℕ) (start : ℕ → ℕ) (m : List ℕ) (page n : ℕ) : Type 0 where
  pub on : (e c b o : ℕ)
      → MoveGoesOn pages slots sectors start m (turn_of slots m) n (extra_of pages slots sectors) e c b o
      → (o ≡ 0) ⊎ (o ≡ page + 1)
      → slots ≤ steps_from pages sectors (turn_of slots m) e c + n
  pub anew : (e : ℕ)
      → MoveBeginsAnew pages slots sectors start m (turn_of slots m) n (extra_of pages slots sectors) e
      → slots ≤ steps_from pages sectors (turn_of slots m) e 0 + n
  pub whole : slots ≤ move_steps_of pages sectors + n

-- A write of a page has no slot left for its next try.
pub record GivesUp (pages slots sectors : ℕ) (start : ℕ → ℕ) (page : ℕ) (l : LogState) : Type 0 where
  pub next : ℕ
  pub is : IsNextSlot slots l.raw (passed_slots slots l) next
  pub none : HasNoSlot pages slots sectors start l.raw page next

-- Each move that goes on has an older copy, of another page than this one. No move begins anew: that needs more slots
-- than are left from one on.
pub record HasOthersOlder (pages slots sectors : ℕ) (start : ℕ → ℕ) (m : List ℕ) (page n : ℕ) : Type 0 where
  pub on : (e c b o : ℕ)
      → MoveGoesOn pages slots sectors start m (turn_of slots m) n (extra_of pages slots sectors) e c b o
      → (o ≢ 0) × (o ≢ page + 1)
  pub anew : (e : ℕ)
      → ¬ MoveBeginsAnew pages slots sectors start m (turn_of slots m) n (extra_of pages slots sectors) e
  pub whole : slots ≤ move_steps_of pages sectors + n

-- A write of a page found the pages, and has no slot, but its step isn't taken: no fewer steps are left than before, or
-- the copy of another page is older. So one of its Faults took no slot.
pub record TakesNoStep (pages slots sectors : ℕ) (start : ℕ → ℕ) (page : ℕ) (old new : LogState) : Type 0 where
  pub found : new.ready ≡ true
  pub left : (old.left ≤ new.left) ⊎ HasOthersOlder pages slots sectors start new.raw page (passed_slots slots new)
  pub fewer : PassesFewer slots old new

-- A write of a page gave up, with so many slots beside those of the steps. It met a Fault in each try, or passed over
-- more slots than these, or its step isn't taken.
pub record TriesOn (pages slots sectors : ℕ) (start : ℕ → ℕ) (page k : ℕ) (old new : LogState) : Type 0 where
  pub meets : MeetsMoreOrPassesFewer slots k old new
  pub passes : (old.flash.faults + TRIES ≤ new.flash.faults)
      ⊎ ((passed_slots slots old + k < passed_slots slots new)
      ⊎ TakesNoStep pages slots sectors start page old new)
