-- Where the reading of a sweep script stops before its end.
use Rattle.std.specs.Prelude.{◌≡◌, ◌⊎◌, ◌≤◌, ◌-◌, ℕ, List, Option, Some, Ok, Err}
use Rattle.std.specs.Io.KnownBytes.{Consumes}
use Rattle.bench_lines.specs.Scripts.{IsInLine, IsTooLong, TakesLine}
use Rattle.bench_lines.specs.declared.reading.LineEnd.{LineEnd}
use Rattle.bench_lines.specs.declared.reading.LineEnd.TheVariants.{EndOfScript}
use Rattle.card_sweeps.specs.declared.fault.LineError.{LineError}
use Rattle.card_sweeps.specs.declared.fault.LineError.TheVariants.{NoLine}
use Rattle.card_sweeps.specs.declared.fault.SweepFault.{SweepFault}
use Rattle.card_sweeps.specs.declared.fault.SweepFault.TheVariants.{BadLine, Read, Write, Memory, Differs}
use Rattle.card_sweeps.specs.Asking.{Asked, ReadsLines, ReadsWithin, missing_at_end, take_line}

-- The next line was read. No script has it there, for this reason.
pub record IsRefused (before : Asked) (error : LineError) (old new : Option (List ℕ)) : Type 0 where
  pub line : List ℕ
  pub end : LineEnd
  pub read : TakesLine old new line end
  pub refused : take_line before line ≡ Err error

-- The next line was read. It ends the script, and something is missing.
pub record IsUnfinished (before : Asked) (error : LineError) (old new : Option (List ℕ)) : Type 0 where
  pub line : List ℕ
  pub read : TakesLine old new line EndOfScript
  pub asked : Asked
  pub takes : take_line before line ≡ Ok asked
  pub missing : missing_at_end asked.section asked.probe ≡ Some error

-- Bytes of the next line were read, without a line feed, and they are too many.
pub record IsOverlong (old new : Option (List ℕ)) : Type 0 where
  pub begun : List ℕ
  pub read : Consumes old new begun
  pub inside : IsInLine begun
  pub long : IsTooLong begun

-- the next line is a bad one, for this reason
abbrev pub IsBadLine : Asked → LineError → Option (List ℕ) → Option (List ℕ) → Type 0
IsBadLine before error old new = IsRefused before error old new
    ⊎ (IsUnfinished before error old new ⊎ ((error ≡ NoLine) × IsOverlong old new))

-- The line with this number, counted from 1, is bad, for this reason. Each line before it was taken. At most
-- 16,777,216 bytes were read.
pub record StopsAtLine (number : ℕ) (error : LineError) (old new : Option (List ℕ)) : Type 0 where
  pub counted : 1 ≤ number
  pub between : Option (List ℕ)
  pub before : Asked
  pub others : ReadsLines (number - 1) old between before
  pub bad : IsBadLine before error between new
  pub within : ReadsWithin old new

-- The reading stopped within a line, before its end and before it was too long. Each line before it was taken. At most
-- 16,777,216 bytes were read.
pub record StopsInLine (old new : Option (List ℕ)) : Type 0 where
  pub number : ℕ
  pub between : Option (List ℕ)
  pub before : Asked
  pub others : ReadsLines number old between before
  pub begun : List ℕ
  pub read : Consumes between new begun
  pub inside : IsInLine begun
  pub short : IsTooLong begun → ⊥
  pub within : ReadsWithin old new

-- The end of the reading by its fault. A bad line is the first one. The reading stops within a line if the reader
-- fails, or if the script has more than 16,777,216 bytes.
abbrev pub ReadingStopsBy : SweepFault → Option (List ℕ) → Option (List ℕ) → Type 0
ReadingStopsBy (BadLine number error) old new = StopsAtLine number error old new
ReadingStopsBy Read old new = StopsInLine old new
ReadingStopsBy Write old new = ⊥
ReadingStopsBy Memory old new = Unit {0}
ReadingStopsBy Differs old new = ⊥
