-- The masks of a torn write: no word new, all words new, and each single word new.
use Rattle.std.specs.Prelude.{◌+◌, ◌-◌, ◌^◌, ℕ, zero, suc, nat_lt, if◌then◌else◌}

abbrev pub mask_count_of : ℕ → ℕ
mask_count_of words = if nat_lt words 2 then words + 1 else words + 2

abbrev pub mask_of : ℕ → ℕ → ℕ
mask_of words zero = 0
mask_of words (suc zero) = 2 ^ words - 1
mask_of words (suc (suc bit)) = 2 ^ bit

-- the number of words to try for a torn write, from the number that the board reports: at least one
abbrev pub words_tried : ℕ → ℕ
words_tried told = if nat_lt told 1 then 1 else told
