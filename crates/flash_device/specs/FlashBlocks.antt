-- Where the blocks of a flash lie, by the number of slots of an area, and how many steps a move takes.
use Rattle.std.specs.Prelude.{◌+◌, ◌*◌, ◌/◌, ℕ}
use Rattle.flash_device.specs.declared.layout.TheConstants.{STEP_PAGES}

-- the number of words of an area: its slots, and the mark that closes it
abbrev pub area_size : ℕ → ℕ
area_size slots = 20 * slots + 2

-- the address of the witness, behind both areas
abbrev pub witness_start : ℕ → ℕ
witness_start slots = area_size slots + area_size slots

-- the number of words of a flash
abbrev pub flash_size : ℕ → ℕ
flash_size slots = witness_start slots + 2

-- the number of steps that copy all pages
abbrev pub steps_of : ℕ → ℕ
steps_of pages = pages / STEP_PAGES
