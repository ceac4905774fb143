-- What an interrupted operation leaves if nothing of it can be taken for what was to be.
use Rattle.std.specs.Prelude.{◌≡◌, ◌+◌, ◌*◌, ◌%◌, ◌^◌, ◌==◌, ◌<◌, ℕ, List, Option, None, Some, get_or}
use Rattle.std.specs.Prelude.{if◌then◌else◌}
use Rattle.std.specs.Int.{bit_not, w32}
use Rattle.flash_device.specs.declared.flash.TheConstants.{BLANK}

-- Each of these words from an address on is the complement of what it was to be: of the run, and blank behind it.
pub record AreComplements (words : List ℕ) (at size : ℕ) (run : List ℕ) : Type 0 where
  pub each : (k : ℕ) → k < size → get_or words (at + k) 0 ≡ bit_not w32 (get_or run k BLANK)

-- the random number after another, of a linear congruential generator of 64 bits
abbrev pub random_after : ℕ → ℕ
random_after random = (random * 6364136223846793005 % 2 ^ 64 + 1442695040888963407) % 2 ^ 64

-- Seed 0 has no random number. Each other seed has the one after itself.
abbrev pub IsFirstRandom : ℕ → Option ℕ → Type 0
IsFirstRandom seed random = random ≡ (if seed == 0 then None else Some (random_after seed))
