-- What is written of a report where the program's work stops before its end.
use Rattle.std.specs.Prelude.{ℕ, List, take, Option}
use Rattle.std.specs.Io.KnownBytes.{Appends}
use Rattle.nvm_board.specs.Facts.{Facts}
use Rattle.card_sweeps.specs.declared.fault.SweepFault.{SweepFault}
use Rattle.card_sweeps.specs.declared.fault.SweepFault.TheVariants.{BadLine, Read, Write, Memory, Differs}
use Rattle.card_sweeps.specs.declared.parts.SweepPart.{SweepPart}
use Rattle.card_sweeps.specs.declared.script.SweepScript.{SweepScript}
use Rattle.card_sweeps.specs.Asking.{IsRead, asked_of}
use Rattle.card_sweeps.specs.SweepEndings.{StopsAtLine, StopsInLine}
use Rattle.sweep_reports.specs.Reporting.{IsReport}

-- A script was read to its end, and the first bytes of the report of a sweep of it were written.
pub record WritesInto {B : Type 0} (facts : B → Facts) (torn : B → ℕ) (board : Facts) (script left : Option (List ℕ))
    (part : SweepPart)
    (old new : Option (List ℕ)) : Type 0 where
  pub asked : SweepScript
  pub read : IsRead script left (asked_of asked)
  pub text : List ℕ
  pub is_report : IsReport facts torn board asked part text
  pub size : ℕ
  pub begun : Appends old new (take size text)

-- A script was read to its end.
abbrev pub ReadsScript : Option (List ℕ) → Option (List ℕ) → Type 0
ReadsScript script left = (asked : SweepScript) × IsRead script left (asked_of asked)

-- The end of the program's work by its fault: that of the reading, or a writer that fails within the report. Runs that
-- differ are seen only after the whole script was read.
abbrev pub SweepStopsBy : {B : Type 0} (facts : B → Facts) (torn : B → ℕ) → Facts → SweepPart → SweepFault
    → Option (List ℕ) → Option (List ℕ) → Option (List ℕ) → Option (List ℕ) → Type 0
SweepStopsBy facts torn board part (BadLine number error) script left old new =
    StopsAtLine number error script left
SweepStopsBy facts torn board part Read script left old new = StopsInLine script left
SweepStopsBy facts torn board part Write script left old new = WritesInto facts torn board script left part old new
SweepStopsBy facts torn board part Memory script left old new = Unit {0}
SweepStopsBy facts torn board part Differs script left old new = ReadsScript script left
