-- The state of a simulated device with program units.
use Rattle.std.specs.Prelude.{true}
use Rattle.program_units.specs.UnitStates.{UnitState}
use Rattle.simulated_chips.specs.SimCuts.{cuts_set}
use Rattle.simulated_chips.specs.declared.sim_units.SimUnits.{SimUnits}

abbrev pub sim_units_state : {S L : Type 0} {g h : _} → SimUnits S L g h → UnitState
sim_units_state f = record {
  flash = record {
    words = f.words.items;
    dark = f.dark;
    due = cuts_set f.fails f.left;
    faults = f.faults;
    operations = f.operations;
    erases = f.erases;
    kept = true;
  };
  programs = f.programs.items;
}
