-- The words of a log on a device with program units.
use Rattle.std.specs.Prelude.{◌≡◌, ◌<◌, ◌+◌, ◌-◌, ◌*◌, ℕ, zero, suc, Bool, true, List, slice_index}
use Rattle.std.specs.Prelude.{◌&&◌, not, nat_eq, nat_le, if◌then◌else◌}
use Rattle.flash_device.specs.declared.flash.TheConstants.{BLANK}
use Rattle.flash_device.specs.FlashBlocks.{flash_size}
use Rattle.flash_device.specs.FlashCalls.{AreFilled, FlashState}
use Rattle.flash_device.specs.FlashLogs.{image}
use Rattle.program_units.specs.declared.unit_frames.TheConstants.{FRAME_WORDS, MARK_PLACE}
use Rattle.program_units.specs.UnitFrames.{IsFramePart, frame_of, place_in, rank_of, span_of}
use Rattle.program_units.specs.UnitStates.{UnitState}

-- so many words are blank
unfoldable pub is_blank_run : List ℕ → ℕ → ℕ → Bool
is_blank_run m at zero = true
is_blank_run m at (suc n) = is_blank_run m at n && nat_eq (slice_index m (at + n)) BLANK

-- where the words begin that fill the last unit of a record or of a mark
abbrev pub rest_at : ℕ → ℕ → ℕ
rest_at frame rank = FRAME_WORDS * frame + (if nat_le 18 rank then MARK_PLACE + 2 else 18)

-- A word of the log. The last two words of a record, and those of a mark, count as garbage if the rest of their unit is
-- not blank: so a unit looks blank only if all of it is.
unfoldable pub frame_word : ℕ → List ℕ → ℕ → ℕ → ℕ
frame_word unit m frame rank =
    if nat_le 16 rank && not (is_blank_run m (rest_at frame rank) (unit - 2)) then 0
    else slice_index m (place_in frame rank)

-- all words of the log
unfoldable pub unit_words : ℕ → ℕ → List ℕ → List ℕ
unit_words unit slots m = image (λ a. frame_word unit m (frame_of slots a) (rank_of slots a)) 0 (flash_size slots)

-- the flash that a log sees: that of the device, with the words of the log in place of its own
abbrev pub translated : ℕ → ℕ → FlashState → FlashState
translated unit slots s = record {
  words = unit_words unit slots s.words;
  dark = s.dark;
  due = s.due;
  faults = s.faults;
  operations = s.operations;
  erases = s.erases;
  kept = s.kept;
}

-- All words of a part of a frame look blank.
pub record LooksBlank (unit : ℕ) (m : List ℕ) (frame rank size : ℕ) : Type 0 where
  pub each : (k : ℕ) → k < size → frame_word unit m frame (rank + k) ≡ BLANK

-- No unit of what looks blank was programmed since its erase.
pub record HasFreshUnits (unit : ℕ) (s : UnitState) : Type 0 where
  pub each : (frame rank size : ℕ) → IsFramePart rank size → LooksBlank unit s.flash.words frame rank size
      → AreFilled s.programs (place_in frame rank) (span_of unit size) 0
