-- What the lines of a sweep script ask for.
use Rattle.std.specs.Prelude.{◌≡◌, ◌≤◌, ◌+◌, ◌-◌, ◌&&◌, nat_eq, nat_le, ℕ, zero, suc, List, [], ◌∷◌, ◌++◌}
use Rattle.std.specs.Prelude.{drop, length, codes, Option, Some, None, is_none, Result, Ok, Err, IfSome, if◌then◌else◌}
use Rattle.std.specs.Cmp.Lexicographic.{pointwise}
use Rattle.bench_lines.specs.Orders.{Order, begins_with, order_of}
use Rattle.bench_lines.specs.Orders as order
use Rattle.bench_lines.specs.Scripts.{TakesLine, WhereKnown}
use Rattle.bench_lines.specs.declared.reading.LineEnd.TheVariants.{LineFeed, EndOfScript}
use Rattle.bench_lines.specs.declared.reading.TheConstants.{SCRIPT_LIMIT}
use Rattle.card_sweeps.specs.declared.fault.LineError.{LineError}
use Rattle.card_sweeps.specs.declared.fault.LineError.TheVariants.{NoCommand, NoDepth, NoLine, NoProbe, SetsFault}
use Rattle.card_sweeps.specs.declared.fault.LineError.TheVariants.{WrongMark}
use Rattle.card_sweeps.specs.declared.fault.LineStop.{LineStop}
use Rattle.card_sweeps.specs.declared.fault.LineStop.TheVariants.{Bad, Memory}
use Rattle.card_sweeps.specs.declared.script.Section.{Section}
use Rattle.card_sweeps.specs.declared.script.Section.TheVariants.{Prepare, Command, AfterCommand, Probe}
use Rattle.card_sweeps.specs.declared.script.SweepScript.{SweepScript}
use Rattle.card_sweeps.specs.declared.steps.Step.{Step}
use Rattle.card_sweeps.specs.declared.steps.Step.TheVariants.{On, Off, Block}
use Rattle.card_sweeps.specs.Framing.{exchange, last_command_block, steps_before}

-- What the lines so far ask for: the section of the next line, the steps before the last block of the command, that
-- block, the steps of the probe, the number of steps of each of its lines, and the number of power-ons to cut.
pub record Asked : Type 0 where
  pub section : Section
  pub prepare : List Step
  pub command : List ℕ
  pub probe : List Step
  pub looks : List ℕ
  pub depth : ℕ

-- before the first line
abbrev pub unasked : Asked
unasked = record { section = Prepare; prepare = []; command = []; probe = []; looks = []; depth = 1 }

-- what a script asks for
abbrev pub asked_of : SweepScript → Asked
asked_of s = record {
  section = s.section;
  prepare = s.prepare.items;
  command = s.command;
  probe = s.probe.items;
  looks = s.looks.items;
  depth = s.depth;
}

-- A line is refused only if a script can't have it there, for this reason. (With too little memory nothing is said.)
abbrev pub Refuses : LineStop → Result Asked LineError → Type 0
Refuses (Bad error) taken = taken ≡ Err error
Refuses Memory taken = Unit {0}

-- the mark of the command
abbrev pub begins_command : Asked → Section → Result Asked LineError
begins_command asked Prepare = Ok (record asked { section = Command })
begins_command asked Command = Err WrongMark
begins_command asked AfterCommand = Err WrongMark
begins_command asked Probe = Err WrongMark

-- the mark of the probe, after the command
abbrev pub begins_probe : Asked → Section → Result Asked LineError
begins_probe asked Prepare = Err WrongMark
begins_probe asked Command = Err NoCommand
begins_probe asked AfterCommand = Ok (record asked { section = Probe })
begins_probe asked Probe = Err WrongMark

-- a digit 0 (48) to 3: the number of power-ons to cut
abbrev pub sets_depth : Asked → List ℕ → Result Asked LineError
sets_depth asked (digit ∷ []) =
    if nat_le 48 digit && nat_le digit 51 then Ok (record asked { depth = digit - 48 }) else Err NoDepth
sets_depth asked digits = Err NoDepth

-- steps of the preparation or the probe
abbrev pub adds : Asked → Section → List Step → Result Asked LineError
adds asked Prepare steps = Ok (record asked { prepare = asked.prepare ++ steps })
adds asked Command steps = Err NoCommand
adds asked AfterCommand steps = Err NoCommand
adds asked Probe steps = Ok (record asked { probe = asked.probe ++ steps; looks = asked.looks ++ length steps ∷ [] })

-- A command. Between the marks it is the one that is cut; all its blocks but the last are sent before.
abbrev pub sends : Asked → Section → List ℕ → Result Asked LineError
sends asked Prepare bytes = adds asked Prepare (exchange bytes)
sends asked Command bytes = Ok (record asked {
  section = AfterCommand;
  prepare = asked.prepare ++ steps_before bytes;
  command = last_command_block bytes;
})
sends asked AfterCommand bytes = Err NoCommand
sends asked Probe bytes = adds asked Probe (exchange bytes)

-- An order. Each result has the free space anyway, and only the sweep sets faults.
abbrev pub takes : Asked → Option Order → Result Asked LineError
takes asked None = Err NoLine
takes asked (Some order.Nothing) = Ok asked
takes asked (Some order.Free) = Ok asked
takes asked (Some order.On) = adds asked asked.section (On ∷ [])
takes asked (Some order.Off) = adds asked asked.section (Off ∷ [])
takes asked (Some (order.Block bytes)) = adds asked asked.section (Block bytes ∷ [])
takes asked (Some (order.Apdu bytes)) = sends asked asked.section bytes
takes asked (Some (order.Cut number mask)) = Err SetsFault
takes asked (Some (order.Lose number)) = Err SetsFault
takes asked (Some (order.Garble number)) = Err SetsFault

-- A line: a mark, a depth, or an order. A bad line has one reason. A line without an order, as one that is too long, is
-- no line, even if it begins as a mark does.
unfoldable pub take_line : Asked → List ℕ → Result Asked LineError
take_line asked line =
    if is_none (order_of line) then Err NoLine else
    if pointwise nat_eq line (codes "# command") then begins_command asked asked.section else
    if pointwise nat_eq line (codes "# probe") then begins_probe asked asked.section else
    if begins_with line (codes "# depth ") then sets_depth asked (drop 8 line) else
    takes asked (order_of line)

-- `n` lines were read, each with its line feed, and each was taken
unfoldable pub ReadsLines : ℕ → Option (List ℕ) → Option (List ℕ) → Asked → Type 0
ReadsLines zero old new asked = (new ≡ old) × (asked ≡ unasked)
ReadsLines (suc n) old new asked =
    (between : Option (List ℕ)) × (before : Asked) × (line : List ℕ) × ReadsLines n old between before
    × TakesLine between new line LineFeed × (take_line before line ≡ Ok asked)

-- the reason at the end of a script, unless there is a probe, and so a command
abbrev pub missing_at_end : Section → List Step → Option LineError
missing_at_end Probe (step ∷ steps) = None
missing_at_end Probe [] = Some NoProbe
missing_at_end AfterCommand steps = Some NoProbe
missing_at_end Command steps = Some NoCommand
missing_at_end Prepare steps = Some NoCommand

-- at most 16,777,216 bytes were read, if the script's bytes are known
abbrev pub ReadsWithin : Option (List ℕ) → Option (List ℕ) → Type 0
ReadsWithin old new = WhereKnown old new (λ script left. length script ≤ length left + SCRIPT_LIMIT)

-- a script of at most 16,777,216 bytes was read to its end, and asks for this
pub record IsRead (old new : Option (List ℕ)) (asked : Asked) : Type 0 where
  pub number : ℕ
  pub between : Option (List ℕ)
  pub before : Asked
  pub line : List ℕ
  pub others : ReadsLines number old between before
  pub last : TakesLine between new line EndOfScript
  pub takes : take_line before line ≡ Ok asked
  pub whole : missing_at_end asked.section asked.probe ≡ None
  pub size : IfSome old (λ script. length script ≤ SCRIPT_LIMIT)
