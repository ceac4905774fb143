-- The number of occurrences of a number in a list.
use Rattle.std.specs.Prelude.{◌≡◌, ◌==◌, ◌≤◌, ◌+◌, ℕ, if◌then◌else◌, List, [], ◌∷◌}

-- 1 if the numbers are equal, else 0.
abbrev pub same_as : ℕ → ℕ → ℕ
same_as q p = if q == p then 1 else 0

-- The number of occurrences of a number in a list.
unfoldable pub count : ℕ → List ℕ → ℕ
count q [] = 0
count q (p ∷ ps) = same_as q p + count q ps

-- No number occurs twice.
abbrev pub NoneTwice : List ℕ → Type 0
NoneTwice ps = (q : ℕ) → count q ps ≤ 1

-- The number doesn't occur in the list.
abbrev pub IsNotIn : ℕ → List ℕ → Type 0
IsNotIn q ps = count q ps ≡ 0
