-- Where the words of a log lie on a device with program units. The device has frames, one behind the other: one for
-- each slot of area A, one for its close mark, the same for area B, and one for the witness. A frame has the words of a
-- record first, and from MARK_PLACE on a mark.
use Rattle.std.specs.Prelude.{◌≡◌, ◌≢◌, ◌⊎◌, ◌<◌, ◌≤◌, ◌+◌, ◌-◌, ◌*◌, ◌/◌, ◌%◌, ℕ, max, nat_le}
use Rattle.std.specs.Prelude.{if◌then◌else◌}
use Rattle.flash_device.specs.FlashBlocks.{area_size, flash_size, witness_start}
use Rattle.program_units.specs.declared.unit_frames.TheConstants.{FRAME_WORDS, MARK_PLACE}

-- the number of frames of a device
abbrev pub frame_count : ℕ → ℕ
frame_count slots = 2 * slots + 3

-- the number of words of a device
abbrev pub device_size : ℕ → ℕ
device_size slots = FRAME_WORDS * frame_count slots

-- the frame of a word, by its address in its area
abbrev pub frame_in : ℕ → ℕ → ℕ
frame_in slots r = if nat_le (20 * slots) r then slots else r / 20

-- the rank of a word in its frame: 0 to 17 in a record, 18 and 19 in a mark
abbrev pub rank_in : ℕ → ℕ → ℕ
rank_in slots r = if nat_le (20 * slots) r then 18 + (r - 20 * slots) else r % 20

-- the same by the address in the log
unfoldable pub frame_of : ℕ → ℕ → ℕ
frame_of slots a =
    if nat_le (witness_start slots) a then 2 * slots + 2
    else if nat_le (area_size slots) a then slots + 1 + frame_in slots (a - area_size slots)
    else frame_in slots a

unfoldable pub rank_of : ℕ → ℕ → ℕ
rank_of slots a =
    if nat_le (witness_start slots) a then 18 + (a - witness_start slots)
    else if nat_le (area_size slots) a then rank_in slots (a - area_size slots)
    else rank_in slots a

-- the place of a word of a frame on the device
unfoldable pub place_in : ℕ → ℕ → ℕ
place_in frame rank = FRAME_WORDS * frame + (if nat_le 18 rank then MARK_PLACE + (rank - 18) else rank)

-- the place of a word of the log on the device
abbrev pub log_place : ℕ → ℕ → ℕ
log_place slots a = place_in (frame_of slots a) (rank_of slots a)

-- the first address of the log that lies in a frame or behind it
unfoldable pub frame_start : ℕ → ℕ → ℕ
frame_start slots frame =
    if nat_le frame slots then 20 * frame
    else if nat_le frame (2 * slots + 1) then 20 * frame - 18
    else if nat_le frame (2 * slots + 2) then witness_start slots
    else flash_size slots

-- The two parts of a frame, by the rank of the first word and the number of words: a record, or a mark.
pub record IsFramePart (rank size : ℕ) : Type 0 where
  pub is : ((rank ≡ 0) × (size ≡ 18)) ⊎ ((rank ≡ 18) × (size ≡ 2))

-- the number of words that a part takes on the device: its last two words have a unit to themselves
abbrev pub span_of : ℕ → ℕ → ℕ
span_of unit size = size - 2 + max 2 unit

-- Whole units, of so many words each.
pub record AreUnits (unit at size : ℕ) : Type 0 where
  pub begins : at % unit ≡ 0
  pub ends : size % unit ≡ 0

-- A run in one frame, with some words.
pub record IsFrameRun (at size : ℕ) : Type 0 where
  pub some : 0 < size
  pub fits : at % FRAME_WORDS + size ≤ FRAME_WORDS

-- The units of a record, or those of a mark: all of them, and no word more.
pub record IsPartRun (unit at size : ℕ) : Type 0 where
  pub is : ((at % FRAME_WORDS ≡ 0) × (size ≡ span_of unit 18))
      ⊎ ((at % FRAME_WORDS ≡ MARK_PLACE) × (size ≡ span_of unit 2))

-- The sizes of a unit.
pub record IsUnit (unit : ℕ) : Type 0 where
  pub is : ((unit ≡ 1) ⊎ (unit ≡ 2)) ⊎ ((unit ≡ 4) ⊎ (unit ≡ 8))

-- No two words of the log have one place.
pub record KeepsWordsApart (slots : ℕ) : Type 0 where
  pub each : (a b : ℕ) → a < flash_size slots → b < flash_size slots → log_place slots a ≡ log_place slots b → a ≡ b

-- No unit has words of a record and of a mark.
pub record KeepsMarksApart (unit slots : ℕ) : Type 0 where
  pub each : (a b : ℕ) → a < flash_size slots → b < flash_size slots → rank_of slots a < 18 → 18 ≤ rank_of slots b
      → log_place slots a / unit ≢ log_place slots b / unit
