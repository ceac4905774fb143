-- Why power-on fails, from the failure of the store.
use Rattle.undo_journal.specs.declared.error.OpenFault.{OpenFault}
use Rattle.undo_journal.specs.declared.error.OpenFault.TheVariants as opening
use Rattle.undo_journal.specs.declared.error.StoreErr.{StoreErr}
use Rattle.undo_journal.specs.declared.error.StoreErr.TheVariants as store
use Rattle.card_start.specs.declared.faults.StartFault.{StartFault}
use Rattle.card_start.specs.declared.faults.StartFault.TheVariants.{PowerLost, Fault, BadJournal}

-- the fault of power-on if the store can't be opened
abbrev pub fault_of_open : OpenFault → StartFault
fault_of_open opening.PowerLost = PowerLost
fault_of_open opening.Fault = Fault
fault_of_open opening.BadJournal = BadJournal

-- the fault of power-on if the store fails later
abbrev pub fault_of_store : StoreErr → StartFault
fault_of_store store.PowerLost = PowerLost
fault_of_store store.Fault = Fault
