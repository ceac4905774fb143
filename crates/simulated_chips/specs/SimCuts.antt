-- The power losses that are set on a simulated flash.
use Rattle.std.specs.Prelude.{ℕ, Bool, nat_eq, if◌then◌else◌}

-- the number of power losses that are set, where an operation may be set to fail in their place
abbrev pub cuts_set : Bool → ℕ → ℕ
cuts_set fails left = if fails then 0 else if nat_eq left 0 then 0 else 1
