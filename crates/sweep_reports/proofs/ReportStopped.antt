-- Faults of a report that a function passes on by `?`.
use Rattle.std.specs.Prelude.{◌≡◌, ℕ, List, Option, Result, Ok, Err, IfErr, IsErrAnd}
use Rattle.std.proofs.Common.{sym, subst}
use Rattle.nvm_board.specs.Facts.{Facts}
use Rattle.card_sweeps.specs.declared.fault.SweepFault.{SweepFault}
use Rattle.card_sweeps.specs.declared.fault.SweepFault.TheVariants.{BadLine, Read, Write, Memory, Differs}
use Rattle.card_sweeps.specs.declared.parts.SweepPart.{SweepPart}
use Rattle.card_sweeps.specs.SweepEndings.{ReadingStopsBy}
use Rattle.card_sweeps.specs.declared.stop.SweepStop.{SweepStop}
use Rattle.card_sweeps.specs.declared.stop.SweepStop.TheVariants as stop
use Rattle.card_sweeps.specs.ExitStatuses.{fault_of}
use Rattle.sweep_reports.specs.ReportEndings.{ReadsScript, SweepStopsBy}

-- the report is not made
pub stop-ends : {T B : Type 0} (facts : B → Facts) (torn : B → ℕ) (r : Result T SweepFault) (why : SweepStop)
    (board : Facts)
    (part : SweepPart)
    (script left old new : Option (List ℕ)) → ReadsScript script left
    → IsErrAnd r (λ fault. fault ≡ fault_of why) → IfErr r (λ fault. SweepStopsBy facts torn board part fault script
    left old new)
stop-ends facts torn (Ok t) why board part script left old new read is = tt
stop-ends facts torn (Err e) stop.Memory board part script left old new read is =
    subst (λ (f : SweepFault). SweepStopsBy facts torn board part f script left old new) (sym is) tt
stop-ends facts torn (Err e) stop.Differs board part script left old new read is =
    subst (λ (f : SweepFault). SweepStopsBy facts torn board part f script left old new) (sym is) read

-- a fault of the reading ends the program's work
reading-ends : {B : Type 0} (facts : B → Facts) (torn : B → ℕ) (board : Facts) (part : SweepPart)
    (fault : SweepFault) (script left old new : Option (List ℕ))
    → ReadingStopsBy fault script left → SweepStopsBy facts torn board part fault script left old new
reading-ends facts torn board part (BadLine number error) script left old new stops = stops
reading-ends facts torn board part Read script left old new stops = stops
reading-ends facts torn board part Write script left old new stops = absurd stops
reading-ends facts torn board part Memory script left old new stops = tt
reading-ends facts torn board part Differs script left old new stops = absurd stops

-- the same, passed on
pub reading-passed : {T B : Type 0} (facts : B → Facts) (torn : B → ℕ) (r : Result T SweepFault) (fault : SweepFault)
    (board : Facts) (part : SweepPart)
    (script left old new : Option (List ℕ)) → IsErrAnd r (λ passed. passed ≡ fault)
    → ReadingStopsBy fault script left → IfErr r (λ passed. SweepStopsBy facts torn board part passed script left old
    new)
reading-passed facts torn (Ok t) fault board part script left old new is stops = tt
reading-passed facts torn (Err e) fault board part script left old new is stops =
    subst (λ (f : SweepFault). SweepStopsBy facts torn board part f script left old new) (sym is)
    (reading-ends facts torn board part fault script left old new stops)
