-- The state of a simulated flash with small sectors.
use Rattle.std.specs.Prelude.{true}
use Rattle.flash_device.specs.FlashCalls.{FlashState}
use Rattle.simulated_chips.specs.SimCuts.{cuts_set}
use Rattle.simulated_chips.specs.declared.small_sectors.SmallSectorFlash.{SmallSectorFlash}

abbrev pub small_state : SmallSectorFlash → FlashState
small_state f = record {
  words = f.words.items;
  dark = f.dark;
  due = cuts_set f.fails f.left;
  faults = f.faults;
  operations = f.operations;
  erases = f.erases;
  kept = true;
}
