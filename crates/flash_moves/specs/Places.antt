-- Where the pages are, as working memory knows it.
use Rattle.std.specs.Prelude.{◌≡◌, ◌<◌, ◌≤◌, ◌+◌, ℕ, true, false, List}
use Rattle.flash_moves.specs.declared.place.PageMap.{PageMap}
use Rattle.flash_device.specs.FlashCalls.{FlashState}
use Rattle.flash_moves.specs.Paces.{LogState, extra_slots, free_slots, is_fresh, is_paced, known_steps}
use Rattle.flash_device.specs.PageTables.{IsPageTable, AreFree}
use Rattle.flash_device.specs.FlashLogs.{base_in, turn_of, words_of}
use Rattle.flash_moves.specs.Rings.{IsRing}
use Rattle.flash_area.specs.Spares.{IsSpare}

-- The place is that of the flash, by the entries of its table.
pub record IsPlaceOf {T : Type 0} (entries : T → List ℕ) (pages slots sectors : ℕ) (start : ℕ → ℕ) (m : List ℕ)
    (p : PageMap T) : Type 0 where
  pub turn : p.turn ≡ turn_of slots m
  pub small : p.turn < 3
  pub index : IsPageTable pages m (base_in slots p.turn) slots (entries p.table)
  pub free : AreFree m (base_in slots p.turn) p.next slots
  pub spare : IsSpare pages slots sectors start m (words_of pages slots m) p.turn p.erased p.copied p.behind p.older

-- The flash stands for words, and the place is its own where it says so. No slot was tried that it knows to be free.
pub record IsLog {T : Type 0} (entries : T → List ℕ) (pages slots sectors : ℕ) (start : ℕ → ℕ) (m : List ℕ)
    (p : PageMap T) : Type 0 where
  pub ring : IsRing slots m
  pub known : p.ready ≡ true → IsPlaceOf entries pages slots sectors start m p
  pub passed : p.tried + free_slots slots p ≤ slots

-- A flash with the words of its board in place of its own.
abbrev pub state_of : ℕ → ℕ → FlashState → FlashState
state_of pages slots s =
    record {
      words = words_of pages slots s.words;
      dark = s.dark;
      due = s.due;
      faults = s.faults;
      operations = s.operations;
      erases = s.erases;
      kept = s.kept;
    }

-- what contracts know of a log, by its flash and its place
abbrev pub log_value : {T : Type 0} → ℕ → ℕ → ℕ → FlashState → PageMap T → LogState
log_value pages slots sectors s p = record {
  flash = state_of pages slots s;
  paced = is_paced pages slots sectors p;
  extra = extra_slots p;
  ready = p.ready;
  tried = p.tried;
  fresh = is_fresh p;
  free = free_slots slots p;
  left = known_steps pages sectors p;
  raw = s.words;
}

-- The log of a flash whose pages are not found yet.
abbrev pub new_log : ℕ → ℕ → FlashState → LogState
new_log pages slots s = record {
  flash = state_of pages slots s;
  paced = false;
  extra = 0;
  ready = false;
  tried = 0;
  fresh = true;
  free = 0;
  left = 0;
  raw = s.words;
}

-- Each slot that is blank at the end of the area in use is known to be free.
pub record FindsFree (slots : ℕ) (m : List ℕ) (free : ℕ) : Type 0 where
  pub all : (s : ℕ) → AreFree m (base_in slots (turn_of slots m)) s slots → slots ≤ s + free
