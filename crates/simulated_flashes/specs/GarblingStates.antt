-- The state of a flash that leaves garbage.
use Rattle.std.specs.Prelude.{ℕ, List, true, false, is_some, replicate, if◌then◌else◌}
use Rattle.flash_device.specs.FlashBlocks.{flash_size}
use Rattle.flash_device.specs.FlashCalls.{FlashState}
use Rattle.flash_device.specs.declared.flash.TheConstants.{BLANK}
use Rattle.simulated_flashes.specs.declared.garbling_flash.GarblingFlash.{GarblingFlash}

-- A power loss is due while one is set. The flash never fails, and nothing follows it.
abbrev pub garbling_state : {S : Type 0} {g : _} → GarblingFlash S g → FlashState
garbling_state f = record {
  words = f.words.items;
  dark = f.dark;
  due = if is_some f.cut then 1 else 0;
  faults = 0;
  operations = f.operations;
  erases = f.erases;
  kept = true;
}

-- a powered flash with these words, on which no power loss is set
abbrev pub given_garbling_state : List ℕ → FlashState
given_garbling_state words = record {
  words = words;
  dark = false;
  due = 0;
  faults = 0;
  operations = 0;
  erases = 0;
  kept = true;
}

-- a powered blank flash with so many slots in each area, on which no power loss is set
abbrev pub new_garbling_state : ℕ → FlashState
new_garbling_state slots = given_garbling_state (replicate (flash_size slots) BLANK)
