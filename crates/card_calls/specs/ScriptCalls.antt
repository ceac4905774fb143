-- A call that runs a whole script on the factory card.
use Rattle.std.specs.Prelude.{◌≡◌, ◌≢◌, ◌⊎◌, ◌<◌, ℕ, ℤ, pos, List, [], Option, None, Some, length}
use Rattle.bench_lines.specs.Faults.{status_of}
use Rattle.bench_lines.specs.declared.fault.RunFault.{RunFault}
use Rattle.bench_lines.specs.declared.fault.RunFault.TheVariants.{Memory, Unkept, Write}
use Rattle.card_bench.specs.Exchanges.{Desk}
use Rattle.card_bench.specs.Prints.{IsFirstDesk, LacksNoWrite}
use Rattle.card_bench.specs.ScriptEndings.{IsRunToEnd, RunStopsBy}
use Rattle.nvm_board.specs.Facts.{Facts}
use Rattle.simulated_boards.specs.declared.kept_board.KeptBoard.{KeptBoard}
use Rattle.card_calls.specs.Devices.{device_facts}
use Rattle.card_calls.specs.declared.write_log.WriteLog.{WriteLog}
use Rattle.card_calls.specs.Telling.{CopiesNothing, CopiesOut}

-- the facts of a board in C that lacks no write
abbrev pub FollowsInC : Facts → Type 0
FollowsInC f = LacksNoWrite (KeptBoard WriteLog) device_facts (λ board. board.follows) f

-- A script ran on the factory card, and printed this: to its end, or until a fault stopped it. With too little memory
-- it printed nothing. Nothing follows this card, so no write is unkept.
abbrev pub EndsScript : List ℕ → List ℕ → Option RunFault → Type 0
EndsScript script text None =
    (first : Desk) × IsFirstDesk first × IsRunToEnd FollowsInC first script (Some []) (Some text)
EndsScript script text (Some fault) = (fault ≢ Unkept) × (fault ≡ Memory → text ≡ [])
    × (fault ≢ Memory → (first : Desk) × (rest : Option (List ℕ)) × IsFirstDesk first
    × RunStopsBy FollowsInC first fault (Some script) rest (Some []) (Some text))

-- the exit status of a script
abbrev pub exit_status : Option RunFault → ℤ
exit_status None = pos 0
exit_status (Some fault) = pos (status_of fault)

-- A call that runs a script: it returns the exit status, and copies out what the script printed. If the buffer is too
-- small for that, the status is that of a writer that fails.
abbrev pub RunsScript : List ℕ → List ℕ → List ℕ → ℕ → ℤ → Type 0
RunsScript script old new size number =
    (text : List ℕ) × (fault : Option RunFault) × EndsScript script text fault
    × (((number ≡ exit_status fault) × CopiesOut text old new size)
    ⊎ ((number ≡ exit_status (Some Write)) × (length old < length text) × CopiesNothing old new size))
