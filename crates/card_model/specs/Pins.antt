-- Sets of PINs: one flag for each of PIN 1 to 8, in this order.
use Rattle.std.specs.Prelude.{ℕ, ◌-◌, ◌≤◌, Bool, true, false, List, replicate, slice_set}
use Rattle.std.specs.List.{slice_index_or}

-- the empty set
abbrev pub no_pins : List Bool
no_pins = replicate 8 false

-- true if PIN n is in the set
abbrev pub has_pin : List Bool → ℕ → Bool
has_pin pins n = slice_index_or pins (n - 1) false

-- the set with PIN n, and the set without it
abbrev pub with_pin : List Bool → ℕ → List Bool
with_pin pins n = slice_set pins (n - 1) true

abbrev pub without_pin : List Bool → ℕ → List Bool
without_pin pins n = slice_set pins (n - 1) false

-- the valid PIN numbers
pub record IsPinNumber (n : ℕ) : Type 0 where
  pub first : 1 ≤ n
  pub last : n ≤ 8
