-- The map of the sectors that are worn, and what a log sees of the device.
use Rattle.std.specs.Prelude.{◌≡◌, ◌≢◌, ◌⊎◌, ◌<◌, ◌≤◌, ◌+◌, ◌-◌, ◌*◌, ℕ, true, List, Some, max, Result, IsOk, IsErrOf}
use Rattle.nvm_board.specs.declared.board.DeviceErr.{DeviceErr}
use Rattle.nvm_board.specs.declared.board.DeviceErr.TheVariants.{Fault}
use Rattle.flash_device.specs.FlashCalls.{FlashState}
use Rattle.flash_device.specs.FlashLogs.{find}
use Rattle.flash_device.specs.PageTables.{AreFree, IsPageTable}
use Rattle.spare_sectors.specs.declared.spare_calls.SectorMap.{SectorMap}
use Rattle.spare_sectors.specs.declared.map_device.SparePart.TheVariants.{Entry, Map, Sector}
use Rattle.spare_sectors.specs.SparePlaces.{lies_in, spare_words}
use Rattle.spare_sectors.specs.SpareStates.{SpareState}

-- The table in working memory has the spare of each sector, and the entries from one on are free.
pub record KnowsMap (sectors spares : ℕ) (map table : List ℕ) (next : ℕ) : Type 0 where
  pub index : IsPageTable (2 * sectors + 1) map 0 spares table
  pub free : AreFree map 0 next spares

-- The layer knows where each sector lies, if it says so. It takes no entry of the map for used in which, or behind
-- which, no program was begun. It absorbed no more Faults than the device had, each for an entry of its own.
pub record HasSpares {T : Type 0} (entries : T → List ℕ) (sectors spares : ℕ) (s : SpareState) (p : SectorMap T)
    : Type 0 where
  pub known : p.ready ≡ true → KnowsMap sectors spares s.map (entries p.table) p.next
  pub few : p.next ≤ spares
  pub used : p.next ≤ s.begun
  pub fewer : p.absorbed ≤ p.next
  pub counted : p.absorbed ≤ s.flash.faults

-- Another sector lies where it lay.
pub record MovesOnly (spares : ℕ) (map : List ℕ) (sector : ℕ) (after : List ℕ) : Type 0 where
  pub others : (s : ℕ) → s ≢ sector → find after 0 spares s ≡ find map 0 spares s

-- A sector is put into the spare of an entry: it lies there, or the program of the entry or the erase of the spare
-- failed.
pub record TriesSpare {T : Type 0} (sectors spares sector entry : ℕ) (old new : SpareState)
    (result : Result T DeviceErr) : Type 0 where
  pub begun : new.begun ≡ max old.begun (entry + 1)
  pub lies : IsOk result → lies_in sectors spares new.map sector ≡ 2 * sectors + 1 + entry
  pub same : IsOk result → new.failed ≡ old.failed
  pub fault : IsErrOf result Fault
      → (new.failed ≡ Some (Sector (2 * sectors + 1 + entry))) ⊎ (new.failed ≡ Some (Entry entry))

-- A sector lies in a spare that was free, since it couldn't be erased where it lay.
pub record IsMoved (sectors spares sector : ℕ) (old new : SpareState) : Type 0 where
  pub entry : ℕ
  pub below : entry < spares
  pub free : AreFree old.map 0 entry spares
  pub lies : lies_in sectors spares new.map sector ≡ 2 * sectors + 1 + entry
  pub worn : new.failed ≡ Some (Sector (lies_in sectors spares old.map sector))
  pub once : new.flash.faults ≡ old.flash.faults + 1

-- No spare is taken: each sector lies where it lay, and no entry more is used.
pub record TakesNone (old new : SpareState) : Type 0 where
  pub map : new.map ≡ old.map
  pub begun : new.begun ≡ old.begun

-- The map couldn't be read, and nothing else failed.
pub record IsUnread (old new : SpareState) : Type 0 where
  pub none : TakesNone old new
  pub failed : new.failed ≡ Some Map
  pub once : new.flash.faults ≡ old.flash.faults + 1

-- A sector couldn't be erased where it lay, and no spare was free: a program was begun in the last entry before.
pub record IsSpent (sectors spares sector : ℕ) (old new : SpareState) : Type 0 where
  pub none : TakesNone old new
  pub worn : new.failed ≡ Some (Sector (lies_in sectors spares old.map sector))
  pub once : new.flash.faults ≡ old.flash.faults + 1
  pub used : spares ≤ old.begun

-- Something failed, and then a spare that was free was tried and failed too: its erase, or the program of its entry.
pub record HasFailedToo (sectors spares : ℕ) (old new : SpareState) : Type 0 where
  pub entry : ℕ
  pub below : entry < spares
  pub free : AreFree old.map 0 entry spares
  pub failed : (new.failed ≡ Some (Sector (2 * sectors + 1 + entry))) ⊎ (new.failed ≡ Some (Entry entry))
  pub twice : new.flash.faults ≡ old.flash.faults + 2

-- An erase of a sector takes a free spare if it fails, and one at most. It returns a Fault only if the map couldn't be
-- read, if no spare was free, or if the spare failed too.
pub record TakesSpare {T : Type 0} (sectors spares sector : ℕ) (old new : SpareState) (result : Result T DeviceErr)
    : Type 0 where
  pub few : new.begun ≤ old.begun + 1
  pub ok : IsOk result → (TakesNone old new × (new.flash.faults ≡ old.flash.faults))
      ⊎ IsMoved sectors spares sector old new
  pub fault : IsErrOf result Fault
      → IsUnread old new ⊎ (IsSpent sectors spares sector old new ⊎ HasFailedToo sectors spares old new)

-- The flash that a log sees: that of the device, with the words of the log in place of its own. A Fault that a spare
-- was tried for isn't one. Three operations of the device for each such Fault are left out, one erase among them.
abbrev pub without_spares : ℕ → ℕ → ℕ → ℕ → ℕ → ℕ → SpareState → FlashState
without_spares slots sectors each size spares absorbed s = record {
  words = spare_words slots sectors each size spares s.flash.words s.map;
  dark = s.flash.dark;
  due = s.flash.due;
  faults = s.flash.faults - absorbed;
  operations = s.flash.operations - 3 * absorbed;
  erases = s.flash.erases - absorbed;
  kept = s.flash.kept;
}
