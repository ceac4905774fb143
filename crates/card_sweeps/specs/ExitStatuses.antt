-- The fault and the exit status that report a script that is not swept.
use Rattle.std.specs.Prelude.{ℕ}
use Rattle.card_sweeps.specs.declared.fault.SweepFault.{SweepFault}
use Rattle.card_sweeps.specs.declared.fault.SweepFault.TheVariants.{BadLine, Read, Write, Memory, Differs}
use Rattle.card_sweeps.specs.declared.stop.SweepStop.{SweepStop}
use Rattle.card_sweeps.specs.declared.stop.SweepStop.TheVariants as stop

-- the exit status for a script that is not swept, or a report that isn't written
abbrev pub exit_status_of : SweepFault → ℕ
exit_status_of (BadLine number error) = 2
exit_status_of Read = 3
exit_status_of Write = 4
exit_status_of Memory = 5
exit_status_of Differs = 8

-- the fault that reports why a sweep stops early
abbrev pub fault_of : SweepStop → SweepFault
fault_of stop.Memory = Memory
fault_of stop.Differs = Differs
