-- The cost of calls on a board, in device writes.
use Rattle.std.specs.Prelude.{◌≡◌, ◌⊎◌, ◌==◌, ◌+◌, ◌*◌, ◌/◌, ◌≤◌, ℕ, if◌then◌else◌, Result, OnOk, slice_set}
use Rattle.nvm_board.specs.declared.board.DeviceErr.{DeviceErr}
use Rattle.nvm_board.specs.Aims.{AimStays, AimsOn}
use Rattle.nvm_board.specs.Facts.{Facts, Answered}
use Rattle.undo_journal.specs.Commits.{CommitsLast}
use Rattle.undo_journal.specs.Undo.{gate}

-- At most n device writes, which bring a set cut nearer, and no comparison.
pub record WritesAtMost (n : ℕ) (old new : Facts) : Type 0 where
  pub writes : new.writes ≤ old.writes + n
  pub more : old.writes ≤ new.writes
  pub cut : AimsOn old new
  pub compares : new.compares ≡ old.compares
  pub matches : new.matches ≡ old.matches

-- One word is written in one device write. After an error it is old or new.
pub record WritesWord {T : Type 0} (at word : ℕ) (old new : Facts) (result : Result T DeviceErr) : Type 0 where
  pub done : OnOk result (new.words ≡ slice_set old.words at word)
  pub torn : (new.words ≡ old.words) ⊎ (new.words ≡ slice_set old.words at word)
  pub light : Answered old new result
  pub counted : OnOk result (new.writes ≡ old.writes + 1)
  pub writes : WritesAtMost 1 old new
  pub between : CommitsLast old new

-- The count of writes doesn't fall. A set cut stays at its write, or falls.
pub record Advances (old new : Facts) : Type 0 where
  pub more : old.writes ≤ new.writes
  pub cut : AimsOn old new

-- The board's words and counts are unchanged, but for cuts and faults. A set cut comes no nearer.
pub record KeepsBoard (old new : Facts) : Type 0 where
  pub cut : AimStays old new
  pub words : new.words ≡ old.words
  pub writes : new.writes ≡ old.writes
  pub compares : new.compares ≡ old.compares
  pub matches : new.matches ≡ old.matches

-- If no pair counts, opening doesn't change words or counts of the board.
abbrev pub KeepsShut : Facts → Facts → Type 0
KeepsShut old new = gate old.words ≡ 0 → KeepsBoard old new

-- The device writes of a rollback: one per pair and one for the gate; none if no pair counts.
abbrev pub rollback_writes : ℕ → ℕ
rollback_writes pairs = if pairs == 0 then 0 else pairs + 1

-- The device writes of an open that is done; one that stops makes no more.
abbrev pub start_writes : Facts → ℕ
start_writes facts = rollback_writes (gate facts.words)

-- The device writes of a transaction with its commit, at most. Each eight sets take three: pairs, gate and words.
-- Each run but the first takes one more, and the gate of the commit one.
abbrev pub transaction_writes : ℕ → ℕ → ℕ
transaction_writes sets runs = 3 * ((sets + 7) / 8) + runs
