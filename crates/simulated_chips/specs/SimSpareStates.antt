-- The state of a simulated device with spare sectors.
use Rattle.std.specs.Prelude.{false, true, []}
use Rattle.spare_sectors.specs.SpareStates.{SpareState}
use Rattle.simulated_chips.specs.SimCuts.{cuts_set}
use Rattle.simulated_chips.specs.declared.sim_spares.SimSpares.{SimSpares}

abbrev pub sim_spares_state : {L M : Type 0} {g h : _} → SimSpares L M g h → SpareState
sim_spares_state f = record {
  flash = record {
    words = f.words.items;
    dark = f.dark;
    due = cuts_set false f.left;
    faults = f.faults;
    operations = f.operations;
    erases = f.erases;
    kept = true;
  };
  programs = [];
  map = f.map.items;
  begun = f.begun;
  failed = f.failed;
}
