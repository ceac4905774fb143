-- The words that a program must find blank.
use Rattle.std.specs.Prelude.{ℕ, List, Bool, not, ◌&&◌, nat_eq, slice_index}
use Rattle.std.specs.List.{count_by, range_with_len}
use Rattle.flash_device.specs.declared.flash.TheConstants.{BLANK}

-- a word that isn't blank, or was programmed since its erase
abbrev pub used_at : List ℕ → List ℕ → ℕ → Bool
used_at words programs at = not (nat_eq (slice_index words at) BLANK && nat_eq (slice_index programs at) 0)

-- how many words of a run are used
abbrev pub used_in : List ℕ → List ℕ → ℕ → ℕ → ℕ
used_in words programs at size = count_by (used_at words programs) (range_with_len at size)
