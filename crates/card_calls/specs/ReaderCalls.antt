-- What a call of a reader's end does, and what it returns.
use Rattle.std.specs.Prelude.{◌≡◌, ◌≢◌, ◌≤◌, ◌<◌, ◌⊎◌, ◌==◌, ℕ, ℤ, List, [], Option, None, Some, length}
use Rattle.std.specs.Prelude.{if◌then◌else◌}
use Rattle.t1_link.specs.Blocks.{frame}
use Rattle.t1_link.specs.ReaderTable.{CommandReport, Reader, Turned, fails, fresh_reader, gives, reader_sends}
use Rattle.t1_link.specs.ReaderTable.{reader_step, reader_times_out, sends, unknown}
use Rattle.t1_link.specs.declared.reader_end.Failure.{Failure}
use Rattle.t1_link.specs.declared.reader_end.Failure.TheVariants.{LinkLost, BadAnswer}
use Rattle.t1_link.specs.declared.reader_end.Phase.TheVariants.{Busy}
use Rattle.bench_lines.specs.Orders.{Apdu}
use Rattle.card_calls.specs.Telling.{CopiesNothing, CopiesOut, FitsCall, outcome_number}
use Rattle.card_calls.specs.declared.outcome.CallOutcome.{CallOutcome}
use Rattle.card_calls.specs.declared.outcome.CallOutcome.TheVariants as outcome
use Rattle.card_calls.specs.declared.sizes.TheConstants.{ROOM}

-- the outcome of a failure
abbrev pub failure_outcome : Failure → CallOutcome
failure_outcome LinkLost = outcome.Lost
failure_outcome BadAnswer = outcome.BadAnswer

-- the outcome of a step of the reader's table
abbrev pub report_outcome : CommandReport → CallOutcome
report_outcome (sends b) = outcome.Send
report_outcome (gives answer) = outcome.Done
report_outcome unknown = outcome.Resynched
report_outcome (fails failure) = failure_outcome failure

-- the bytes of a step of the reader's table: the block to send, or the answer
abbrev pub report_bytes : CommandReport → List ℕ
report_bytes (sends b) = frame b
report_bytes (gives answer) = answer
report_bytes unknown = []
report_bytes (fails failure) = []

-- A step of the reader's table: the reader's end is as after it. Its block or its answer is in the buffer.
pub record TakesStep (turned : Turned) (now : Reader) (old new : List ℕ) (size : ℕ) (number : ℤ) : Type 0 where
  pub state : now ≡ turned.reader
  pub number_is : number ≡ outcome_number (report_outcome turned.outcome)
  pub copied : CopiesOut (report_bytes turned.outcome) old new size

-- a refused call: nothing changes, and no bytes are returned
pub record RefusesReader (why : CallOutcome) (was now : Reader) (old new : List ℕ) (size : ℕ)
    (number : ℤ) : Type 0 where
  pub number_is : number ≡ outcome_number why
  pub same : now ≡ was
  pub nothing : CopiesNothing old new size

-- A call that begins a command. A wrong length of the command, or too little room, is refused; so is a command while
-- another one is in progress. Else the reader's end sends it.
abbrev pub BeginsCommand : List ℕ → Reader → Reader → List ℕ → List ℕ → ℕ → ℤ → Type 0
BeginsCommand command was now old new size number =
    ((¬ FitsCall (Apdu command) old) × RefusesReader outcome.Size was now old new size number)
    ⊎ (FitsCall (Apdu command) old × (was.phase ≡ Busy) × RefusesReader outcome.OutOfTurn was now old new size number)
    ⊎ (FitsCall (Apdu command) old × (was.phase ≢ Busy) × TakesStep (reader_sends was command) now old new size number)

-- the step of the reader's table for received bytes; no bytes: nothing arrived in time
abbrev pub reader_hears : Reader → List ℕ → Turned
reader_hears r received = if length received == 0 then reader_times_out r else reader_step r received

-- A call that passes a received block on. Too little room is refused; so is a block while no command is in progress.
-- Else the reader's end reacts to the block.
abbrev pub ReceivesBlock : List ℕ → Reader → Reader → List ℕ → List ℕ → ℕ → ℤ → Type 0
ReceivesBlock received was now old new size number =
    ((length old < ROOM) × RefusesReader outcome.Size was now old new size number)
    ⊎ ((ROOM ≤ length old) × (was.phase ≢ Busy) × RefusesReader outcome.OutOfTurn was now old new size number)
    ⊎ ((ROOM ≤ length old) × (was.phase ≡ Busy) × TakesStep (reader_hears was received) now old new size number)

-- The same calls from C. Without a reader nothing is done.
abbrev pub CallsCommand : List ℕ → Option Reader → Option Reader → List ℕ → List ℕ → ℕ → ℤ → Type 0
CallsCommand command None now old new size number = (number ≡ outcome_number outcome.Absent) × (now ≡ None)
    × CopiesNothing old new size
CallsCommand command (Some was) None old new size number = ⊥
CallsCommand command (Some was) (Some now) old new size number = BeginsCommand command was now old new size number

abbrev pub CallsReceive : List ℕ → Option Reader → Option Reader → List ℕ → List ℕ → ℕ → ℤ → Type 0
CallsReceive received None now old new size number = (number ≡ outcome_number outcome.Absent) × (now ≡ None)
    × CopiesNothing old new size
CallsReceive received (Some was) None old new size number = ⊥
CallsReceive received (Some was) (Some now) old new size number = ReceivesBlock received was now old new size number

-- a call from C that makes a reader: it is as after power-on, or there is too little memory and nothing changes
abbrev pub MakesReader : Option Reader → Option Reader → ℤ → Type 0
MakesReader was now number = ((number ≡ outcome_number outcome.Done) × (now ≡ Some fresh_reader))
    ⊎ ((number ≡ outcome_number outcome.Memory) × (now ≡ was))

-- a call from C that sets a reader back to its state after power-on
abbrev pub ResetsReader : Option Reader → Option Reader → ℤ → Type 0
ResetsReader None now number = (number ≡ outcome_number outcome.Absent) × (now ≡ None)
ResetsReader (Some was) now number = (number ≡ outcome_number outcome.Done) × (now ≡ Some fresh_reader)
