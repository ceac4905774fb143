-- What contracts know of a flash that something follows.
use Rattle.flash_device.specs.FlashCalls.{FlashState}
use Rattle.simulated_flashes.specs.GarblingStates.{garbling_state}
use Rattle.simulated_boards.specs.Handed.{FollowerState}
use Rattle.simulated_flashes.specs.declared.kept_flash.KeptFlash.{KeptFlash}

-- The state of the flash in working memory. A follower that falls behind is no fault of it.
abbrev pub kept_flash_state : {F S : Type 0} {g : _} → KeptFlash F S g → FlashState
kept_flash_state k = record (garbling_state k.flash) { kept = k.follows }

-- the follower of the flash, and whether it gets the next operation
abbrev pub flash_follower_state : {F S : Type 0} {g : _} → KeptFlash F S g → FollowerState F
flash_follower_state k = record { follower = k.follower; follows = k.follows }
