-- The state of a simulated device with program units and spare sectors.
use Rattle.std.specs.Prelude.{false, true}
use Rattle.spare_sectors.specs.SpareStates.{SpareState}
use Rattle.simulated_chips.specs.SimCuts.{cuts_set}
use Rattle.simulated_chips.specs.declared.sim_spare_units.SimSpareUnits.{SimSpareUnits}

abbrev pub sim_spare_units_state : {S : Type 0} {g : _} → SimSpareUnits S g → SpareState
sim_spare_units_state f = record {
  flash = record {
    words = f.words.items;
    dark = f.dark;
    due = cuts_set false f.left;
    faults = f.faults;
    operations = f.operations;
    erases = f.erases;
    kept = true;
  };
  programs = f.programs.items;
  map = f.map.items;
  begun = f.begun;
  failed = f.failed;
}
