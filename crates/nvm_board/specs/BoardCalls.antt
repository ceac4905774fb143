-- The calls of a board: their results and their effects.
use Rattle.std.specs.Prelude.{◌≡◌, ◌⊎◌, ◌+◌, ◌↔◌, if◌then◌else◌, ℕ, List, Bool, Result, IsTrue, IfOk, OnOk, OnErr, ◌<◌}
use Rattle.std.specs.Prelude.{◌≤◌, ◌-◌, Some, false, length, slice_index}
use Rattle.nvm_board.specs.declared.board.DeviceErr.{DeviceErr}
use Rattle.nvm_board.specs.declared.board.TheConstants.{PAGE_WORDS}
use Rattle.nvm_board.specs.Facts.{Facts, Answered, IsLostRightly, RisesAt, raised, pages_of}
use Rattle.nvm_board.specs.Aims.{AimStays, AimsAtWrite}
use Rattle.nvm_board.specs.History.{and_run, run_in, written}
use Rattle.nvm_board.specs.Torn.{Torn}

-- A read returns the word at an address. Words and counts of writes, comparisons and matches are unchanged.
pub record TellsWord (at : ℕ) (old new : Facts) (result : Result ℕ DeviceErr) : Type 0 where
  pub word : IfOk result (λ w. w ≡ slice_index old.words at)
  pub light : Answered old new result
  pub worn : IsLostRightly old new result
  pub cut : AimStays old new
  pub words : new.words ≡ old.words
  pub writes : new.writes ≡ old.writes
  pub compares : new.compares ≡ old.compares
  pub matches : new.matches ≡ old.matches

-- The arguments of a write: words that lie in one page of the board, from the page's word `first` on.
pub record FitsPage (number first : ℕ) (words : List ℕ) (board : Facts) : Type 0 where
  pub page : number < pages_of board.words
  pub some : 0 < length words
  pub run : first + length words ≤ PAGE_WORDS

-- A write turns each word of a run, from an address on, from old to new. After an error each of them is old or new,
-- independently of the others. A powered board with a log has the run in it, as the write left it. No other call raises
-- the count of writes.
pub record Writes {T : Type 0} (at : ℕ) (run : List ℕ) (old new : Facts) (result : Result T DeviceErr) : Type 0 where
  pub done : OnOk result (new.words ≡ written old.words at run)
  pub torn : Torn old.words at run new.words
  pub light : Answered old new result
  pub worn : IsLostRightly old new result
  pub cut : AimsAtWrite at run old new
  pub counted : OnOk result (new.writes ≡ old.writes + 1)
  pub counted_err : OnErr result ((new.writes ≡ old.writes) ⊎ (new.writes ≡ old.writes + 1))
  pub log : old.dark ≡ false → new.log ≡ and_run old.log (run_in new.words at (length run))
  pub compares : new.compares ≡ old.compares
  pub matches : new.matches ≡ old.matches

-- The presented bytes equal the stored ones, and both the comparison and the match are counted.
abbrev pub CountsMatch : ℕ → List ℕ → List ℕ → Facts → Facts → Type 0
CountsMatch secret kept shown old new = (kept ≡ shown) × (new.compares ≡ raised old.compares secret)
    × (new.matches ≡ raised old.matches secret)

-- A comparison returns true if the presented bytes equal the stored ones of a secret. It is counted, and so is a
-- match. A call that fails counts a match only of equal bytes. No other call raises these counts.
pub record Compares (secret : ℕ) (kept shown : List ℕ) (old new : Facts) (result : Result Bool DeviceErr)
    : Type 0 where
  pub equal : IfOk result (λ e. IsTrue e ↔ (kept ≡ shown))
  pub light : Answered old new result
  pub worn : IsLostRightly old new result
  pub cut : AimStays old new
  pub words : new.words ≡ old.words
  pub writes : new.writes ≡ old.writes
  pub compared : OnOk result (new.compares ≡ raised old.compares secret)
  pub compared_err : OnErr result (RisesAt old.compares secret new.compares)
  pub matched : IfOk result (λ e. new.matches ≡ (if e then raised old.matches secret else old.matches))
  pub matched_err : OnErr result ((new.matches ≡ old.matches) ⊎ CountsMatch secret kept shown old new)

-- Sets a cut or a fault at write `k` with this mask. It replaces what was set before. Nothing else changes, but that
-- a cut may be due.
pub record Arms (k mask : ℕ) (old new : Facts) : Type 0 where
  pub due : new.due ≤ 1
  pub same : new ≡ record old { due = new.due; pending = Some (record { whole_writes = k - 1; mask = mask }) }
