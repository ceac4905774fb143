-- Where the frames of a log lie on a device with program units and spare sectors. An area has the frames that fit into
-- each of its sectors, and its last sector has the rest. The witness has a sector of its own. The spare sectors lie
-- behind it.
use Rattle.std.specs.Prelude.{◌<◌, ◌≤◌, ◌+◌, ◌-◌, ◌*◌, ◌/◌, ◌^◌, ℕ, List}
use Rattle.std.specs.Prelude.{nat_le, nat_lt, if◌then◌else◌}
use Rattle.spare_units.specs.MovedSectors.{moved_cell, moved_words}
use Rattle.spare_sectors.specs.SparePlaces.{all_sectors}
use Rattle.spare_sectors.specs.SpareStates.{SpareState}
use Rattle.program_units.specs.UnitFrames.{device_size, frame_count}
use Rattle.program_units.specs.UnitStates.{UnitState}
use Rattle.program_units.specs.declared.unit_frames.TheConstants.{FRAME_WORDS}

-- the sector of a frame, by its number in its area
abbrev pub frame_part : ℕ → ℕ → ℕ → ℕ
frame_part sectors each f = if nat_lt (f / each) (sectors - 1) then f / each else sectors - 1

-- the sector of a frame of the log
unfoldable pub frame_sector : ℕ → ℕ → ℕ → ℕ → ℕ
frame_sector slots sectors each f =
    if nat_le (2 * slots + 2) f then 2 * sectors
    else if nat_le (slots + 1) f then sectors + frame_part sectors each (f - (slots + 1))
    else frame_part sectors each f

-- the first frame of a sector
unfoldable pub sector_frame : ℕ → ℕ → ℕ → ℕ → ℕ
sector_frame slots sectors each s =
    if nat_lt s sectors then each * s
    else if nat_lt s (2 * sectors) then slots + 1 + each * (s - sectors)
    else if nat_le s (2 * sectors) then 2 * slots + 2
    else frame_count slots

-- the sector of a word
unfoldable pub word_sector : ℕ → ℕ → ℕ → ℕ → ℕ
word_sector slots sectors each a = frame_sector slots sectors each (a / FRAME_WORDS)

-- the first word of a sector
abbrev pub word_start : ℕ → ℕ → ℕ → ℕ → ℕ
word_start slots sectors each s = FRAME_WORDS * sector_frame slots sectors each s

-- the place of a word on the device
abbrev pub unit_cell : ℕ → ℕ → ℕ → ℕ → List ℕ → ℕ → ℕ
unit_cell slots sectors each spares map a =
    moved_cell (word_sector slots sectors each) (word_start slots sectors each) (FRAME_WORDS * each) sectors spares
    map a

-- the words of all frames
abbrev pub unit_list : ℕ → ℕ → ℕ → ℕ → List ℕ → List ℕ → List ℕ
unit_list slots sectors each spares m map =
    moved_words (word_sector slots sectors each) (word_start slots sectors each) (device_size slots)
    (FRAME_WORDS * each) sectors spares m map

-- The sectors of a device take the frames of a log: each one has as many as are put there, and the last one of an area
-- has the rest of it. Places have 32 bits, and numbers of sectors 16.
pub record TakesFrames (slots sectors each spares : ℕ) : Type 0 where
  pub some : 0 < sectors
  pub few : sectors < 32768
  pub frame : 0 < each
  pub last : each * (sectors - 1) ≤ slots
  pub rest : slots + 1 ≤ each * (sectors - 1) + each
  pub numbers : all_sectors sectors spares < 65536
  pub places : FRAME_WORDS * each * all_sectors sectors spares < 2 ^ 32

-- the words of all sectors, and how often they were programmed
abbrev pub own_units : SpareState → UnitState
own_units s = record { flash = s.flash; programs = s.programs }

-- The device that a log with units sees: that of the chip, with the words of the log in place of its own, and how
-- often they were programmed. What a spare was tried for is left out, as by `without_spares`.
abbrev pub without_spare_units : ℕ → ℕ → ℕ → ℕ → ℕ → SpareState → UnitState
without_spare_units slots sectors each spares absorbed s = record {
  flash = record {
    words = unit_list slots sectors each spares s.flash.words s.map;
    dark = s.flash.dark;
    due = s.flash.due;
    faults = s.flash.faults - absorbed;
    operations = s.flash.operations - 3 * absorbed;
    erases = s.flash.erases - absorbed;
    kept = s.flash.kept;
  };
  programs = unit_list slots sectors each spares s.programs s.map;
}
