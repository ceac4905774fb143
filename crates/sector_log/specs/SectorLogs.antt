-- What contracts know of the log of a flash with small sectors, and what its writes leave.
use Rattle.std.specs.Prelude.{◌≡◌, ◌≢◌, ◌⊎◌, ◌<◌, ◌≤◌, ◌+◌, ℕ, Bool, true, List, if◌then◌else◌}
use Rattle.flash_device.specs.FlashCalls.{FlashState}
use Rattle.flash_moves.specs.declared.ahead.TheConstants.{TRIES}
use Rattle.flash_moves.specs.declared.place.PageMap.{PageMap}
use Rattle.flash_moves.specs.Paces.{free_slots, is_fresh}
use Rattle.flash_moves.specs.Places.{state_of}
use Rattle.flash_device.specs.FlashLogs.{turn_of}
use Rattle.sector_moves.specs.SectorPlaces.{place_steps}
use Rattle.sector_moves.specs.SectorSpares.{HasOlderCopy, HoldsSlots, IsSectorSpare, sector_steps}

-- All that contracts know of a log: its flash, with the words of the board in place of its own, whether it has yet to
-- look for its pages, and has tried no slot, up to which slot writes were tried, the free slots of the area in use that
-- it knows, the steps of the move that it knows to be left, the page whose copy may be older, by its number and 1, or
-- 0, and its own words.
pub record SectorLogState : Type 0 where
  pub flash : FlashState
  pub fresh : Bool
  pub tried : ℕ
  pub free : ℕ
  pub steps : ℕ
  pub older : ℕ
  pub raw : List ℕ

-- the steps that the log knows to be left; none before it has found the pages
abbrev pub known_sector_steps : {T : Type 0} → ℕ → ℕ → PageMap T → ℕ
known_sector_steps pages sectors p = if p.ready then place_steps pages sectors p else 0

-- the page whose copy may be older, by its number and 1, or 0, as far as the log knows it
abbrev pub known_older : {T : Type 0} → PageMap T → ℕ
known_older p = if p.ready then p.older else 0

-- what contracts know of a log, by its flash and its place
abbrev pub sector_log_value : {T : Type 0} → ℕ → ℕ → ℕ → FlashState → PageMap T → SectorLogState
sector_log_value pages slots sectors s p = record {
  flash = state_of pages slots s;
  fresh = is_fresh p;
  tried = p.tried;
  free = free_slots slots p;
  steps = known_sector_steps pages sectors p;
  older = known_older p;
  raw = s.words;
}

-- the log of a flash whose pages are not found yet
abbrev pub new_sector_log : ℕ → ℕ → FlashState → SectorLogState
new_sector_log pages slots s = record {
  flash = state_of pages slots s;
  fresh = true;
  tried = 0;
  free = 0;
  steps = 0;
  older = 0;
  raw = s.words;
}

-- The flash shows a progress of the move that leaves as many steps, and the same copy that may be older.
pub record ShowsSteps (pages slots sectors : ℕ) (start : ℕ → ℕ) (l : SectorLogState) : Type 0 where
  pub erased : ℕ
  pub copied : ℕ
  pub spare : IsSectorSpare pages slots sectors start l.raw (turn_of slots l.raw) erased copied l.older
  pub steps : l.steps ≡ sector_steps pages sectors (turn_of slots l.raw) erased copied

-- What a search finds: the flash shows it, and only a copy that differs may be older.
pub record FindsSteps (pages slots sectors : ℕ) (start : ℕ → ℕ) (l : SectorLogState) : Type 0 where
  pub shows : ShowsSteps pages slots sectors start l
  pub older : HasOlderCopy slots sectors start l.raw (turn_of slots l.raw) shows.copied l.older

-- A write stops at its step: the copy of another page may be older, and the step that copies it again failed. No step
-- is taken, and no slot is passed over. Behind fewer faults than its sector has slots over, up to seven, it fails only
-- where nothing but its erase was begun.
pub record StopsAtStep (pages slots sectors : ℕ) (start : ℕ → ℕ) (page : ℕ) (old new : SectorLogState)
    : Type 0 where
  pub some : old.older ≢ 0
  pub other : old.older ≢ page + 1
  pub older : new.older ≡ old.older
  pub steps : new.steps ≡ old.steps
  pub free : new.free ≡ old.free
  pub why : (t : ℕ) → t < TRIES → HoldsSlots pages slots sectors start t
      → (old.flash.faults + t ≤ new.flash.faults) ⊎ (new.flash.operations ≤ old.flash.operations + 1)

-- A write gives up behind eight faults; or behind more than these, where the steps need all slots that are left; or it
-- stops at its step.
abbrev pub GivesUpBehind : ℕ → ℕ → ℕ → (ℕ → ℕ) → ℕ → ℕ → SectorLogState → SectorLogState → Type 0
GivesUpBehind pages slots sectors start page k old new = (old.flash.faults + TRIES ≤ new.flash.faults)
    ⊎ (((old.flash.faults + k < new.flash.faults) × (0 < new.free) × (new.free ≤ new.steps))
    ⊎ StopsAtStep pages slots sectors start page old new)

-- Beside the slots of the steps, no fewer are free than before, or than the tries of a write, but for one for each
-- fault of the flash.
pub record KeepsBeside (old new : SectorLogState) : Type 0 where
  pub beside : (new.steps + old.free + old.flash.faults ≤ old.steps + new.free + new.flash.faults)
      ⊎ (new.steps + TRIES + old.flash.faults ≤ new.free + new.flash.faults)

-- The log stays in step behind a record of a page: a slot is free beside those of the steps that are left, and no copy
-- but that of this page may be older.
pub record StaysInStep {T : Type 0} (pages slots sectors page : ℕ) (p : PageMap T) : Type 0 where
  pub ready : p.ready ≡ true
  pub room : place_steps pages sectors p + p.next < slots
  pub older : (p.older ≡ 0) ⊎ (p.older ≡ page + 1)

-- A write can put its record: beside the slots of the steps, one more is free than before, or than the tries of a
-- write, but for one for each fault between two numbers.
pub record HasBeside {T : Type 0} (pages slots sectors before after : ℕ) (p q : PageMap T) : Type 0 where
  pub beside : (place_steps pages sectors q + q.next + 1 + before ≤ place_steps pages sectors p + p.next + after)
      ⊎ (place_steps pages sectors q + q.next + TRIES + 1 + before ≤ slots + after)
