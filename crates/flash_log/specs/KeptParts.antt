-- What a log still knows of its pages behind a record that failed: all but their table.
use Rattle.std.specs.Prelude.{◌≡◌, ◌<◌, ◌≤◌, ◌+◌, ℕ, Bool, true, false, List}
use Rattle.flash_area.specs.Spares.{IsSpare, copies_most}
use Rattle.flash_device.specs.FlashLogs.{base_in, turn_of, words_of}
use Rattle.flash_device.specs.PageTables.{AreFree}
use Rattle.flash_moves.specs.declared.place.PageMap.{PageMap}
use Rattle.flash_moves.specs.Paces.{OwnsOlder, WillKeepPace, lead_of, steps_left}

-- The turn, the slots behind those tried, and how far the move has come are those of the flash. No copy but that of a
-- page may be older.
pub record KeepsPlace {T : Type 0} (pages slots sectors : ℕ) (start : ℕ → ℕ) (m : List ℕ) (page : ℕ) (p : PageMap T)
    : Type 0 where
  pub turn : p.turn ≡ turn_of slots m
  pub small : p.turn < 3
  pub free : AreFree m (base_in slots p.turn) p.tried slots
  pub spare : IsSpare pages slots sectors start m (words_of pages slots m) p.turn p.erased p.copied p.behind p.older
  pub own : OwnsOlder page p
  pub goes_on : 0 < p.copied + p.behind → slots ≤ p.tried + lead_of pages sectors

-- By these the log is in pace once it has its table: a slot is free for each step that is left.
pub record IsPacedBehind {T : Type 0} (pages slots sectors extra : ℕ) (p : PageMap T) : Type 0 where
  pub room : steps_left pages sectors p + p.tried ≤ slots
  pub few : p.behind ≤ copies_most p.copied extra

-- The log will be in pace once it has read its table, or has looked for all that it doesn't know.
pub record WillPace {T : Type 0} (kept : Bool) (pages slots sectors : ℕ) (start : ℕ → ℕ) (m : List ℕ) (extra : ℕ)
    (p : PageMap T) : Type 0 where
  pub known : kept ≡ true → IsPacedBehind pages slots sectors extra p
  pub looks : kept ≡ false → WillKeepPace pages slots sectors start m extra p
