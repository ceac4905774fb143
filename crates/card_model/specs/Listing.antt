-- The values that a row of the command table allows, as lists of numbers.
use Rattle.std.specs.Prelude.{ℕ, ◌%◌, Bool, List, filter}
use Rattle.std.specs.List.{range_with_len}
use Rattle.card_model.specs.CommandTable.{Row}

-- The class and the instruction of a row.
abbrev pub header : Row → ℕ × ℕ
header row = (row.class, row.instruction)

-- The bytes, 0 to 255, that satisfy a test.
abbrev pub bytes_with : (ℕ → Bool) → List ℕ
bytes_with test = filter test (range_with_len 0 256)

-- The mode of a command on records: the lower three bits of P2.
abbrev pub mode : ℕ → ℕ
mode p2 = p2 % 8

-- Each P1 that is allowed with a P2.
abbrev pub first_parameters : Row → ℕ → List ℕ
first_parameters row p2 = bytes_with (λ p1. row.parameters p1 p2)

-- The numbers of data bytes, 0 to 256, that are allowed under P1 and P2, with or without Le.
abbrev pub lengths_allowed : Row → ℕ → ℕ → Bool → List ℕ
lengths_allowed row p1 p2 le = filter (λ sent. row.lengths p1 p2 sent le) (range_with_len 0 257)
