-- The state of a simulated flash.
use Rattle.std.specs.Prelude.{true}
use Rattle.flash_device.specs.FlashCalls.{FlashState}
use Rattle.simulated_chips.specs.SimCuts.{cuts_set}
use Rattle.simulated_chips.specs.declared.sim_flash.SimFlash.{SimFlash}

abbrev pub sim_state : SimFlash → FlashState
sim_state f = record {
  words = f.words.items;
  dark = f.dark;
  due = cuts_set f.fails f.left;
  faults = f.faults;
  operations = f.operations;
  erases = f.erases;
  kept = true;
}
