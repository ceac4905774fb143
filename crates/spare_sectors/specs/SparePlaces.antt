-- Where the words of a log lie on a device with spare sectors. An area has the slots that fit into each of its sectors,
-- and its last sector has the rest, with the close mark. The witness has a sector of its own. The spare sectors lie
-- behind it.
use Rattle.std.specs.Prelude.{◌<◌, ◌≤◌, ◌+◌, ◌-◌, ◌*◌, ◌/◌, ◌^◌, ℕ, List, slice_index}
use Rattle.std.specs.Prelude.{nat_eq, nat_le, nat_lt, if◌then◌else◌}
use Rattle.flash_device.specs.FlashBlocks.{area_size, flash_size, witness_start}
use Rattle.flash_device.specs.FlashLogs.{find, image}

-- the sector of a word, by its address in its area
abbrev pub part_in : ℕ → ℕ → ℕ → ℕ
part_in sectors each r = if nat_lt (r / 20 / each) (sectors - 1) then r / 20 / each else sectors - 1

-- the sector of a word of the log
unfoldable pub sector_of : ℕ → ℕ → ℕ → ℕ → ℕ
sector_of slots sectors each a =
    if nat_le (witness_start slots) a then 2 * sectors
    else if nat_le (area_size slots) a then sectors + part_in sectors each (a - area_size slots)
    else part_in sectors each a

-- the first address of a sector
unfoldable pub part_start : ℕ → ℕ → ℕ → ℕ → ℕ
part_start slots sectors each s =
    if nat_lt s sectors then 20 * (each * s)
    else if nat_lt s (2 * sectors) then area_size slots + 20 * (each * (s - sectors))
    else if nat_le s (2 * sectors) then witness_start slots
    else flash_size slots

-- the number of sectors of a device, with the spare ones
abbrev pub all_sectors : ℕ → ℕ → ℕ
all_sectors sectors spares = 2 * sectors + 1 + spares

-- The sector of the device that has a sector of the log: the spare of the last entry of the map that names it, else its
-- own. What is found is 1 more than the number of the entry, or 0.
abbrev pub lies_by : ℕ → ℕ → ℕ → ℕ
lies_by sectors found s = if nat_eq found 0 then s else 2 * sectors + found

unfoldable pub lies_in : ℕ → ℕ → List ℕ → ℕ → ℕ
lies_in sectors spares map s = lies_by sectors (find map 0 spares s) s

-- the place of a word of the log on the device, whose sectors have so many words
abbrev pub cell_of : ℕ → ℕ → ℕ → ℕ → ℕ → List ℕ → ℕ → ℕ
cell_of slots sectors each size spares map a =
    size * lies_in sectors spares map (sector_of slots sectors each a)
    + (a - part_start slots sectors each (sector_of slots sectors each a))

-- all words of the log
unfoldable pub spare_words : ℕ → ℕ → ℕ → ℕ → ℕ → List ℕ → List ℕ → List ℕ
spare_words slots sectors each size spares m map =
    image (λ a. slice_index m (cell_of slots sectors each size spares map a)) 0 (flash_size slots)

-- The sectors of a device take a log: each one has the slots that are put there, and the last one of an area has the
-- rest of it. Places have 32 bits, and numbers of sectors 16.
pub record TakesLog (slots sectors each size spares : ℕ) : Type 0 where
  pub some : 0 < sectors
  pub few : sectors < 32768
  pub slot : 0 < each
  pub last : each * (sectors - 1) ≤ slots
  pub whole : 20 * each ≤ size
  pub rest : area_size slots ≤ 20 * (each * (sectors - 1)) + size
  pub numbers : all_sectors sectors spares < 65536
  pub places : size * all_sectors sectors spares < 2 ^ 32
