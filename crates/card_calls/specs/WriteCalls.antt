-- Calls that hand device writes out.
use Rattle.std.specs.Prelude.{◌≡◌, ◌⊎◌, ◌*◌, ◌+◌, ◌%◌, ◌^◌, ℕ, ℤ, pos, List, Option, None, Some, Result, Ok, Err}
use Rattle.std.specs.Prelude.{true, false}
use Rattle.bench_lines.specs.Orders.{Order}
use Rattle.card_boards.specs.Images.{image_bytes}
use Rattle.card_calls.specs.Devices.{TellsNext, run_of}
use Rattle.card_calls.specs.FirstWrites.{TellsFirst}
use Rattle.card_calls.specs.SessionStates.{SessionState, session_facts}
use Rattle.card_calls.specs.Telling.{CopiesNothing, CopiesOut, outcome_number}
use Rattle.card_calls.specs.declared.outcome.CallOutcome.{CallOutcome}
use Rattle.card_calls.specs.declared.outcome.CallOutcome.TheVariants as outcome
use Rattle.card_calls.specs.declared.write.Write.{Write}
use Rattle.card_calls.specs.declared.write.TheConstants.{WORD_BYTES}
use Rattle.card_calls.specs.declared.write_log.NextWrite.TheVariants as next

-- A device write is copied out: its bytes in the image, and the offset of the first. Without one the size is 0.
abbrev pub CopiesWrite : Result (Option Write) CallOutcome → List ℕ → List ℕ → ℕ → ℕ → ℤ → Type 0
CopiesWrite (Ok None) old new offset size number = (number ≡ outcome_number outcome.Done) × CopiesNothing old new size
CopiesWrite (Ok (Some w)) old new offset size number = (number ≡ outcome_number outcome.Done)
    × CopiesOut (image_bytes (run_of w).words) old new size × (offset ≡ WORD_BYTES * (run_of w).at)
CopiesWrite (Err why) old new offset size number = (number ≡ outcome_number why) × CopiesNothing old new size

-- The first write of an order to a card, which is announced. It is told of each card: no memory is wanted for it.
abbrev pub TellsFirstOf : Order → Option SessionState → Option SessionState → Result (Option Write) CallOutcome → Type 0
TellsFirstOf order None now told = (now ≡ None) × (told ≡ Err outcome.Absent)
TellsFirstOf order (Some was) None told = ⊥
TellsFirstOf order (Some was) (Some now) (Ok first) = TellsFirst order was now first
TellsFirstOf order (Some was) (Some now) (Err why) = ⊥

-- a call that hands the first write of an order out, and changes nothing of the card but what is announced
abbrev pub ReturnsFirst : Order → Option SessionState → Option SessionState → List ℕ → List ℕ → ℕ → ℕ → ℤ → Type 0
ReturnsFirst order was now old new offset size number = (told : Result (Option Write) CallOutcome)
    × TellsFirstOf order was now told × CopiesWrite told old new offset size number

-- The next write that the device lacks, which counts as stored from then on. If the log has lost it, the device is
-- behind.
abbrev pub TakesNext : SessionState → SessionState → Result (Option Write) CallOutcome → Type 0
TakesNext was now (Ok None) = (now ≡ was) × (was.behind ≡ false)
    × TellsNext (session_facts was).log was.stored next.Nothing
TakesNext was now (Ok (Some w)) = (now ≡ record was { stored = (was.stored + 1) % 2 ^ 64 }) × (was.behind ≡ false)
    × TellsNext (session_facts was).log was.stored (next.Write w)
TakesNext was now (Err why) = (why ≡ outcome.Unstored) × (now.behind ≡ true) × (now ≡ record was { behind = true })
    × ((was.behind ≡ true) ⊎ TellsNext (session_facts was).log was.stored next.Lost)

-- the next write of a card, if there is one
abbrev pub TakesFrom : Option SessionState → Option SessionState → Result (Option Write) CallOutcome → Type 0
TakesFrom None now told = (now ≡ None) × (told ≡ Err outcome.Absent)
TakesFrom (Some was) None told = ⊥
TakesFrom (Some was) (Some now) told = TakesNext was now told

-- a call that hands the next write out
abbrev pub ReturnsNext : Option SessionState → Option SessionState → List ℕ → List ℕ → ℕ → ℕ → ℤ → Type 0
ReturnsNext was now old new offset size number = (told : Result (Option Write) CallOutcome) × TakesFrom was now told
    × CopiesWrite told old new offset size number

-- a call that tells that the device didn't take a write
abbrev pub FallsBehind : Option SessionState → Option SessionState → ℤ → Type 0
FallsBehind None now number = (number ≡ outcome_number outcome.Absent) × (now ≡ None)
FallsBehind (Some was) now number =
    (number ≡ outcome_number outcome.Done) × (now ≡ Some (record was { behind = true }))

-- the number of a card's device, and 0 without one
abbrev pub device_number : Option ℤ → ℤ
device_number None = pos 0
device_number (Some of) = of

-- a call that returns the number of the device
abbrev pub ReturnsDevice : Option SessionState → ℤ → ℤ → Type 0
ReturnsDevice None device number = (number ≡ outcome_number outcome.Absent) × (device ≡ pos 0)
ReturnsDevice (Some now) device number = (number ≡ outcome_number outcome.Done)
    × (device ≡ device_number now.device)
