-- The steps that the log knows to be left of a move, and what the flash shows of it.
use Rattle.std.specs.Prelude.{◌≡◌, ◌≤◌, ℕ, List}
use Rattle.flash_area.specs.Spares.{IsSpare, MoveBeginsAnew, MoveGoesOn, steps_from}
use Rattle.flash_device.specs.FlashLogs.{turn_of, words_of}
use Rattle.flash_moves.specs.Paces.{extra_of}

-- The flash shows a move that has come so far that as many steps are left.
pub record ShowsLeft (pages slots sectors : ℕ) (start : ℕ → ℕ) (m : List ℕ) (left : ℕ) : Type 0 where
  pub erased : ℕ
  pub copied : ℕ
  pub behind : ℕ
  pub older : ℕ
  pub spare : IsSpare pages slots sectors start m (words_of pages slots m) (turn_of slots m) erased copied behind older
  pub steps : left ≡ steps_from pages sectors (turn_of slots m) erased copied

-- No more steps are left than by each move that goes on, by what the flash shows, or begins anew.
pub record HasFewestLeft (pages slots sectors : ℕ) (start : ℕ → ℕ) (m : List ℕ) (next left : ℕ) : Type 0 where
  pub on : (e c b o : ℕ)
      → MoveGoesOn pages slots sectors start m (turn_of slots m) next (extra_of pages slots sectors) e c b o
      → left ≤ steps_from pages sectors (turn_of slots m) e c
  pub anew : (e : ℕ)
      → MoveBeginsAnew pages slots sectors start m (turn_of slots m) next (extra_of pages slots sectors) e
      → left ≤ steps_from pages sectors (turn_of slots m) e 0
