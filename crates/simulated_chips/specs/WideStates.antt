-- The state of a flash with 4,096 pages.
use Rattle.std.specs.Prelude.{true, is_some, if◌then◌else◌}
use Rattle.flash_device.specs.FlashCalls.{FlashState}
use Rattle.simulated_chips.specs.declared.wide_flash.WideFlash.{WideFlash}

-- A power loss is due while one is set. The flash never fails.
abbrev pub wide_state : WideFlash → FlashState
wide_state f = record {
  words = f.words.items;
  dark = f.dark;
  due = if is_some f.cut then 1 else 0;
  faults = 0;
  operations = f.operations;
  erases = f.erases;
  kept = true;
}
