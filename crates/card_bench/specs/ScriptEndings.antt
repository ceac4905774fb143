-- How the run of a script ends, and what it has written by then.
use Rattle.std.specs.Prelude.{◌≡◌, ◌≢◌, ◌⊎◌, ◌≤◌, ℕ, Bool, false, List, [], ◌∷◌, ◌++◌, length, take}
use Rattle.std.specs.Prelude.{Option, Some, IfSome, Result, Err, IfErr, OnOk}
use Rattle.std.specs.Io.KnownBytes.{Appends}
use Rattle.std.specs.Str.Lines.{lines}
use Rattle.nvm_board.specs.Facts.{Facts}
use Rattle.bench_turns.specs.BenchStates.{bench_facts}
use Rattle.bench_lines.specs.declared.fault.RunFault.{RunFault}
use Rattle.bench_lines.specs.declared.fault.RunFault.TheVariants.{BadLine, Read, Write, Memory, Unkept}
use Rattle.bench_lines.specs.declared.reading.TheConstants.{SCRIPT_LIMIT}
use Rattle.card_bench.specs.Exchanges.{Desk}
use Rattle.card_bench.specs.Prints.{LacksNoWrite, LinesPrint, PrintsLines, desk_of}
use Rattle.bench_lines.specs.Orders.{Order, order_of}
use Rattle.card_bench.specs.Charges.{AnyFacts, IsUncharged, MayCompare}
use Rattle.bench_lines.specs.Scripts.{EndsLine, FailsAtLine, IsInLine, IsScript, IsTooLong, WhereKnown}

-- The writer contains the output of these lines from a desk on, appended to its former contents.
abbrev pub HasWritten : (Facts → Type 0) → Desk → Option (List ℕ) → List (List ℕ) → Option (List ℕ) → Type 0
HasWritten Keeps first old some new = (out : List ℕ) × LinesPrint Keeps first some out × Appends old new out

-- a script that ran to its end
pub record IsRunToEnd (Keeps : Facts → Type 0) (first : Desk) (script : List ℕ) (old new : Option (List ℕ))
    : Type 0 where
  pub good : IsScript script
  pub written : HasWritten Keeps first old (lines script) new

-- a script that ran up to a bad line
pub record IsRunToLine (Keeps : Facts → Type 0) (first : Desk) (number : ℕ) (script : List ℕ)
    (old new : Option (List ℕ)) : Type 0 where
  pub fails : FailsAtLine script number
  pub written : HasWritten Keeps first old fails.before new

-- A script that couldn't be read further, as the reader failed or the script is too long. The run stopped within a
-- line, before its end and before it was too long. The complete lines before it ran.
pub record IsReadInto (Keeps : Facts → Type 0) (first : Desk) (script left : List ℕ) (old new : Option (List ℕ))
    : Type 0 where
  pub front : List ℕ
  pub begun : List ℕ
  pub parts : script ≡ (front ++ begun) ++ left
  pub ended : (front ≡ []) ⊎ ((some : List ℕ) × (front ≡ some ++ 10 ∷ []))
  pub inside : IsInLine begun
  pub short : IsTooLong begun → ⊥
  pub within : length (front ++ begun) ≤ SCRIPT_LIMIT
  pub written : HasWritten Keeps first old (lines front) new

-- A script that ran to a line whose output the writer didn't take completely. This line has output, and is the last
-- that was read. The output of the lines before it is complete.
pub record IsRunInto (Keeps Last : Facts → Type 0) (first : Desk) (script left : List ℕ) (old new : Option (List ℕ))
    : Type 0 where
  pub front : List ℕ
  pub parts : script ≡ front ++ left
  pub ended : EndsLine front left
  pub within : length front ≤ SCRIPT_LIMIT
  pub before : List (List ℕ)
  pub line : List ℕ
  pub all : lines front ≡ before ++ line ∷ []
  pub between : Desk
  pub last : Desk
  pub out : List ℕ
  pub text : List ℕ
  pub prior : PrintsLines Keeps Keeps first before between out
  pub one : PrintsLines Keeps Last between (line ∷ []) last text
  pub speaks : text ≢ []
  pub size : ℕ
  pub begun : Appends old new (out ++ take size text)

-- A script that ran to a line with output, of which nothing is written.
pub record IsRunUnkept (Keeps : Facts → Type 0) (first : Desk) (script left : List ℕ) (old new : Option (List ℕ))
    : Type 0 where
  pub into : IsRunInto Keeps AnyFacts first script left old new
  pub nothing : into.size ≡ 0

-- A script that ran to a line that can compare a PIN, and that did not run: its charge is not stored. It is the last
-- line that was read. The output of the lines before it is complete, and nothing else is written.
pub record IsRunBefore (Keeps : Facts → Type 0) (first : Desk) (script left : List ℕ) (old new : Option (List ℕ))
    : Type 0 where
  pub front : List ℕ
  pub parts : script ≡ front ++ left
  pub ended : EndsLine front left
  pub within : length front ≤ SCRIPT_LIMIT
  pub before : List (List ℕ)
  pub line : List ℕ
  pub all : lines front ≡ before ++ line ∷ []
  pub order : Order
  pub asks : order_of line ≡ Some order
  pub compares : MayCompare order
  pub between : Desk
  pub out : List ℕ
  pub prior : PrintsLines Keeps Keeps first before between out
  pub same : Appends old new out

-- The run stopped since the follower of a board with these facts failed, and the charge of a line is not stored. They
-- are those before this line, or those with its charge, if the script's bytes are known.
abbrev pub StopsUncharged : (Facts → Type 0) → Desk → Facts → Option (List ℕ) → Option (List ℕ) → Option (List ℕ)
    → Option (List ℕ)
    → Type 0
StopsUncharged Keeps first facts script left old new = WhereKnown script left (λ bytes rest.
    (stop : IsRunBefore Keeps first bytes rest old new) × IsUncharged stop.order stop.between facts)

-- The run stopped since the follower of a board with these facts failed. They are those after the line without an
-- answer, if the script's bytes are known.
abbrev pub StopsUnkept : (Facts → Type 0) → Desk → Facts → Option (List ℕ) → Option (List ℕ) → Option (List ℕ)
    → Option (List ℕ) → Type 0
StopsUnkept Keeps first facts script left old new = WhereKnown script left (λ bytes rest.
    (stop : IsRunUnkept Keeps first bytes rest old new) × (bench_facts stop.into.last.bench ≡ facts))

-- The run stopped since the follower of a board with these facts failed: it lacks a write of the last line, or the
-- charge of the last line.
abbrev pub StopsBehind : (Facts → Type 0) → Desk → Facts → Option (List ℕ) → Option (List ℕ) → Option (List ℕ)
    → Option (List ℕ) → Type 0
StopsBehind Keeps first facts script left old new =
    StopsUnkept Keeps first facts script left old new ⊎ StopsUncharged Keeps first facts script left old new

-- The end of a run by its fault, if the script's bytes are known. A bad line is the first one, and the lines before it
-- ran. A failing reader stops within a line, and a failing writer within the output of a line. If the follower of the
-- board failed in a line, nothing of its output is written. A line whose charge is not stored did not run.
abbrev pub RunStopsBy : (Facts → Type 0) → Desk → RunFault → Option (List ℕ) → Option (List ℕ) → Option (List ℕ)
    → Option (List ℕ)
    → Type 0
RunStopsBy Keeps first (BadLine number) script left old new =
    IfSome script (λ bytes. IsRunToLine Keeps first number bytes old new)
RunStopsBy Keeps first Read script left old new = WhereKnown script left (λ bytes rest. IsReadInto Keeps first bytes
    rest old new)
RunStopsBy Keeps first Write script left old new = WhereKnown script left (λ bytes rest. IsRunInto Keeps Keeps first
    bytes rest old new)
RunStopsBy Keeps first Memory script left old new = Unit {0}
RunStopsBy Keeps first Unkept script left old new =
    WhereKnown script left (λ bytes rest.
    IsRunUnkept Keeps first bytes rest old new ⊎ IsRunBefore Keeps first bytes rest old new)

-- The run of a script on the card in a board's memory, by its result. At its end the output of all lines is written. A
-- fault ends it as `RunStopsBy` says. If the follower failed, it is that of a board in the state of the last line. With
-- too little memory nothing was read or written.
pub record IsCardRun {T B : Type 0} (facts : B → Facts) (has_kept : B → Bool) (board : B) (result : Result T RunFault)
    (script left old new : Option (List ℕ)) : Type 0 where
  pub done : OnOk result (IfSome script
      (λ bytes. IsRunToEnd (LacksNoWrite B facts has_kept) (desk_of (facts board)) bytes old new))
  pub stopped : IfErr result
      (λ fault. RunStopsBy (LacksNoWrite B facts has_kept) (desk_of (facts board)) fault script left old new)
  pub behind : result ≡ Err Unkept → (last : B) × (has_kept last ≡ false)
      × StopsBehind (LacksNoWrite B facts has_kept) (desk_of (facts board)) (facts last) script left old new
  pub unread : result ≡ Err Memory → left ≡ script
  pub unwritten : result ≡ Err Memory → new ≡ old
