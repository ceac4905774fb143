-- The words that a device write changes, and those that a cut of it with a mask makes new.
use Rattle.std.specs.Prelude.{◌≡◌, ◌≢◌, ◌<◌, ◌+◌, ◌&&◌, ℕ, zero, suc, List, Option, Some, None, length, nat_le, nat_lt}
use Rattle.std.specs.Prelude.{slice_index, if◌then◌else◌}

-- The lowest address at which two memories differ, if there is one.
abbrev pub IsFirstChange : List ℕ → List ℕ → Option ℕ → Type 0
IsFirstChange before after None =
    (a : ℕ) → a < length before → a < length after → slice_index before a ≡ slice_index after a
IsFirstChange before after (Some at) = (slice_index before at ≢ slice_index after at)
    × ((a : ℕ) → a < at → slice_index before a ≡ slice_index after a)

-- A device write: its first address, the number of its words, and the memories before and after it.
pub record WrittenRun : Type 0 where
  pub at : ℕ
  pub words : ℕ
  pub before : List ℕ
  pub after : List ℕ

-- The memory is `after` at the addresses from `first` up to before `end`, and `before` at all others.
pub record IsNewWithin (first end : ℕ) (before after left : List ℕ) : Type 0 where
  pub sized : (length left ≡ length before) × (length after ≡ length before)
  pub words : (a : ℕ) → a < length before
      → slice_index left a ≡ (if nat_le first a && nat_lt a end then slice_index after a else slice_index before a)

-- The memory that a cut with mask number i has to leave: no word of the write is new, all are, or one is.
abbrev pub IsMasked : WrittenRun → ℕ → List ℕ → Type 0
IsMasked run zero left = IsNewWithin run.at run.at run.before run.after left
IsMasked run (suc zero) left = IsNewWithin run.at (run.at + run.words) run.before run.after left
IsMasked run (suc (suc bit)) left = IsNewWithin (run.at + bit) (run.at + bit + 1) run.before run.after left
