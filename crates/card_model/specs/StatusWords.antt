-- The status words that carry a number (ISO/IEC 7816-4, 5.1.3).
use Rattle.std.specs.Prelude.{ℕ, ◌+◌, ◌%◌}
use Rattle.card_model.specs.declared.status.Sw.{Sw}

-- 63CX. X is the number of tries left.
abbrev pub tries_status : ℕ → Sw
tries_status tries = record { 0 = 0x63C0 + tries }

-- 6CXX. XX is the length of the data, at most 256, where 00 means 256.
abbrev pub length_status : ℕ → Sw
length_status length = record { 0 = 0x6C00 + length % 256 }
