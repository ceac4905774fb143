-- The sectors of a simulated flash. In each area they have one size, but for the last one, which takes the rest of the
-- area too. Behind both areas lies the witness, of two words.
use Rattle.std.specs.Prelude.{◌+◌, ◌-◌, ◌*◌, ℕ, nat_le, nat_lt, if◌then◌else◌}

-- where a sector begins, by the words of each, those of an area, and the number of sectors of an area
abbrev pub even_sector : ℕ → ℕ → ℕ → ℕ → ℕ
even_sector each area count s = if nat_lt s count then each * s
    else if nat_lt s (2 * count) then area + each * (s - count)
    else if nat_le s (2 * count) then area + area else area + area + 2

-- its number of words
abbrev pub even_size : ℕ → ℕ → ℕ → ℕ → ℕ
even_size each area count s = even_sector each area count (s + 1) - even_sector each area count s
