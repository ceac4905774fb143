-- A board whose device writes go to a device: the writes, their bytes in the image, and those that the device lacks.
use Rattle.std.specs.Prelude.{◌≡◌, ◌≢◌, ◌+◌, ◌-◌, ◌%◌, ◌^◌, ◌<◌, ◌≤◌, ℕ, List, Bool, true, false, [], Option, None}
use Rattle.std.specs.Prelude.{Some, length, map, slice_get, take}
use Rattle.nvm_board.specs.Facts.{Facts, pages_of}
use Rattle.nvm_board.specs.declared.board.TheConstants.{LEAST_PAGES}
use Rattle.nvm_board.specs.History.{Log, Run}
use Rattle.simulated_boards.specs.declared.kept_board.KeptBoard.{KeptBoard}
use Rattle.simulated_boards.specs.Kept.{kept_facts}
use Rattle.card_calls.specs.declared.write.Write.{Write}
use Rattle.card_calls.specs.declared.write_log.NextWrite.{NextWrite}
use Rattle.card_calls.specs.declared.write_log.NextWrite.TheVariants as next
use Rattle.card_calls.specs.declared.device.TheConstants.{TWIN_WRITES}
use Rattle.card_calls.specs.declared.write_log.TheConstants.{LOG_WRITES}
use Rattle.card_calls.specs.declared.write_log.WriteLog.{WriteLog}

-- the words of a write, from its address on
abbrev pub run_of : Write → Run
run_of w = record { at = w.at; words = take w.size w.words }

-- what contracts know of a log
abbrev pub shown_log : WriteLog → Option Log
shown_log log = Some (record { runs = map run_of log.writes.items; room = log.writes.capacity; count = log.count })

-- an empty log with so much room
abbrev pub logs_none : ℕ → Option Log
logs_none room = Some (record { runs = []; room = room; count = 0 })

-- the writes that the log of a board with these words has room for: one more for each page more than the least
abbrev pub log_room : List ℕ → ℕ
log_room words = LOG_WRITES + (pages_of words - LEAST_PAGES)

-- the log that a card begins with, if it has a device
abbrev pub begun_log : Bool → List ℕ → Option Log
begun_log true words = logs_none (log_room words)
begun_log false words = None

-- the facts of a board, with its log
abbrev pub device_facts : KeptBoard WriteLog → Facts
device_facts board = kept_facts shown_log board

-- a log that holds the writes of a second board
abbrev pub HasTwinRoom : Option Log → Type 0
HasTwinRoom None = ⊥
HasTwinRoom (Some log) = log.room ≡ TWIN_WRITES

-- A second board holds a memory of as many words as another one, and a log of its writes.
abbrev pub FitsTwin : Facts → Facts → Type 0
FitsTwin second f = (length second.words ≡ length f.words) × HasTwinRoom second.log

-- A board with a log has a second one.
abbrev pub HasTwin : Option (KeptBoard WriteLog) → Facts → Type 0
HasTwin None f = f.log ≡ None
HasTwin (Some second) f = FitsTwin (device_facts second) f

-- the number of writes between two counts, modulo 2^64
abbrev pub fresh_count : ℕ → ℕ → ℕ
fresh_count old new = (new + (2 ^ 64 - old)) % 2 ^ 64

-- a device that has so many of all writes has them all; without a log there are none
abbrev pub AllStored : Option Log → ℕ → Type 0
AllStored None stored = Unit
AllStored (Some log) stored = fresh_count stored log.count ≡ 0

-- The first write that a device lacks, of a log: none, or this one, or one that the log has no more.
abbrev pub NextIn : Log → ℕ → NextWrite → Type 0
NextIn log stored next.Nothing = fresh_count stored log.count ≡ 0
NextIn log stored (next.Write w) = (fresh_count stored log.count ≢ 0)
    × (fresh_count stored log.count ≤ length log.runs)
    × (slice_get log.runs (length log.runs - fresh_count stored log.count) ≡ Some (run_of w))
NextIn log stored next.Lost = length log.runs < fresh_count stored log.count

-- the same, where there may be no log: then there is no write
abbrev pub TellsNext : Option Log → ℕ → NextWrite → Type 0
TellsNext None stored answer = answer ≡ next.Nothing
TellsNext (Some log) stored answer = NextIn log stored answer
