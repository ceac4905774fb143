-- The outcome of a call from C, and its bytes.
use Rattle.std.specs.Prelude.{◌≡◌, ◌≤◌, ◌<◌, ◌⊎◌, ◌+◌, ℕ, ℤ, pos, Bool, true, false, List, Option, None}
use Rattle.std.specs.Prelude.{Some, Result, Ok, Err, length, take, drop, is_some, if◌then◌else◌}
use Rattle.nvm_board.specs.Aims.{WritesRuns}
use Rattle.nvm_board.specs.declared.board.TheConstants.{LEAST_PAGES, MOST_PAGES}
use Rattle.nvm_board.specs.Facts.{Facts, IsMemory}
use Rattle.nvm_board.specs.History.{Run}
use Rattle.undo_journal.specs.Undo.{IsBadJournal, IsSound}
use Rattle.simulated_boards.specs.Given.{board_with}
use Rattle.command_base.specs.Comparing.{comparisons}
use Rattle.command_base.specs.Finding.{HasCard, words_found}
use Rattle.command_base.specs.Standing.{IsAnyCard}
use Rattle.bench_lines.specs.Orders.{Order, IsOrderSized, Free}
use Rattle.bench_turns.specs.BenchStates.{BenchState, off, on}
use Rattle.bench_turns.specs.Guessing.{EachWritePays, GuessesFew}
use Rattle.bench_turns.specs.Plays.{IsGood}
use Rattle.card_bench.specs.Charges.{MayCompare}
use Rattle.card_bench.specs.DeskStates.{print_of}
use Rattle.card_bench.specs.Performing.{Performs}
use Rattle.card_bench.specs.Prints.{desk_of}
use Rattle.bench_lines.specs.Printouts.{Print}
use Rattle.bench_lines.specs.Printouts.{prints_nothing, prints_atr, prints_mute, prints_dark, prints_lost}
use Rattle.bench_lines.specs.Printouts.{prints_bytes}
use Rattle.bench_lines.specs.Printouts.{prints_free}
use Rattle.card_boards.specs.FactoryBoards.{IsFactoryBoard}
use Rattle.card_calls.specs.SessionStates.{Announcement, SessionState, begun_at, session_facts}
use Rattle.card_calls.specs.Devices.{AllStored, TellsNext}
use Rattle.card_calls.specs.FirstWrites.{HasNoCharge, IsAsAnnounced, and_first, charge_of}
use Rattle.card_calls.specs.PaidOrders.{IsLedBy, PaidInOrder}
use Rattle.card_calls.specs.declared.outcome.CallOutcome.{CallOutcome}
use Rattle.card_calls.specs.declared.outcome.CallOutcome.TheVariants as outcome
use Rattle.card_calls.specs.declared.outcome.OrderResult.{OrderResult}
use Rattle.card_calls.specs.declared.sizes.TheConstants.{ROOM}
use Rattle.card_calls.specs.declared.write_log.NextWrite.{NextWrite}

-- the number that C sees
abbrev pub outcome_number : CallOutcome → ℤ
outcome_number outcome.Done = pos 0
outcome_number outcome.Mute = pos 1
outcome_number outcome.Dark = pos 2
outcome_number outcome.Lost = pos 3
outcome_number outcome.Size = pos 4
outcome_number outcome.Memory = pos 5
outcome_number outcome.NoCard = pos 6
outcome_number outcome.Unstored = pos 7
outcome_number outcome.Absent = pos 8
outcome_number outcome.Send = pos 9
outcome_number outcome.Resynched = pos 10
outcome_number outcome.BadAnswer = pos 11
outcome_number outcome.OutOfTurn = pos 12

-- the outcome of an output
abbrev pub print_outcome : Print → CallOutcome
print_outcome prints_nothing = outcome.Done
print_outcome prints_atr = outcome.Done
print_outcome prints_mute = outcome.Mute
print_outcome prints_dark = outcome.Dark
print_outcome prints_lost = outcome.Lost
print_outcome (prints_bytes bytes) = outcome.Done
print_outcome (prints_free free) = outcome.Done

-- the output of a result, with the answer to the last command and the last returned block
abbrev pub result_print : OrderResult → List ℕ → List ℕ → Print
result_print result answer block = print_of result.came answer block

-- power is on
abbrev pub is_on : BenchState → Bool
is_on (off facts) = false
is_on (on powered) = true

-- An order runs, and has an output. The memory has a card state after it, the board had no fault, and the guess law
-- holds. The board made device writes, in order: put into the words before the order, they make the words after it.
-- The log of a card with a device has them. If the order compared a PIN, power-on after any of them, with those before
-- it, finds a card, and each of these images pays for all comparisons. An order that can't compare a PIN counts none.
pub record IsPerformed (order : Order) (was now : SessionState) (prints : Print) : Type 0 where
  pub performs : Performs order was.desk now.desk prints
  pub good : IsGood now.desk.bench
  pub guesses : GuessesFew was.desk.bench now.desk.bench
  pub made : WritesRuns (session_facts was) (session_facts now)
  pub ahead : (comparisons (session_facts now) ≡ comparisons (session_facts was))
      ⊎ EachWritePays was.desk.bench made.runs (comparisons (session_facts now))
  pub still : ¬ MayCompare order → comparisons (session_facts now) ≡ comparisons (session_facts was)

-- the first write of an order was announced
pub record IsAnnounced (order : Order) (was : SessionState) : Type 0 where
  pub first : Option Run
  pub told : was.announced ≡ Some (record { order = order; first = first })

-- An order has a charge, which was not announced.
pub record LacksCharge (order : Order) (was : SessionState) : Type 0 where
  pub charge : ¬ HasNoCharge order was
  pub unannounced : ¬ IsAnnounced order was

-- an order may not run: the device didn't take a write, lacks one of an earlier order, or lacks the charge
abbrev pub MayNotRun : Order → SessionState → Type 0
MayNotRun order was =
    (was.behind ≡ true) ⊎ (¬ AllStored (session_facts was).log was.stored) ⊎ LacksCharge order was

-- No order runs and nothing changes.
pub record IsHeldBack (order : Order) (was now : SessionState) : Type 0 where
  pub why : MayNotRun order was
  pub same : now ≡ was

-- The device had all writes before an order, and an order with a charge was announced.
pub record MayRun (order : Order) (was : SessionState) : Type 0 where
  pub was_up : was.behind ≡ false
  pub all_stored : AllStored (session_facts was).log was.stored
  pub charge : HasNoCharge order was ⊎ IsAnnounced order was

-- An order with a charge ran. Its first write is the one that was announced, which the device has. The writes are paid
-- for in order.
pub record BeginsAsTold (order : Order) (was now : SessionState) (runs : List Run) : Type 0 where
  pub announced : IsAnnounced order was
  pub begins : IsLedBy announced.first runs
  pub stored : now.stored ≡ and_first was.stored announced.first
  pub paid : PaidInOrder order was.desk runs (comparisons (session_facts now))

-- The device had all writes before the order. Those of the order are in the log. Of an order with a charge it has the
-- first one.
pub record KeepsUp (order : Order) (was now : SessionState) (runs : List Run) : Type 0 where
  pub before : MayRun order was
  pub up : now.behind ≡ false
  pub stored : (HasNoCharge order was × (now.stored ≡ was.stored)) ⊎ BeginsAsTold order was now runs
  pub unannounced : now.announced ≡ None
  pub device : now.device ≡ was.device

-- An order with a charge ran, and its first write is not the one that was announced: the log has another one next, or
-- has lost it. The device is behind from then on.
pub record Diverges (order : Order) (was now : SessionState) : Type 0 where
  pub before : MayRun order was
  pub prints : Print
  pub performed : IsPerformed order was now prints
  pub announced : IsAnnounced order was
  pub answer : NextWrite
  pub next : TellsNext (session_facts now).log was.stored answer
  pub other : ¬ IsAsAnnounced announced.first answer
  pub behind : now.behind ≡ true
  pub stored : now.stored ≡ was.stored
  pub unannounced : now.announced ≡ None
  pub device : now.device ≡ was.device

-- an order has no result
abbrev pub IsWithheld : Order → SessionState → SessionState → Type 0
IsWithheld order was now = IsHeldBack order was now ⊎ Diverges order was now

-- An order ran, and the device has what it has to have.
pub record HasRun (order : Order) (was now : SessionState) (prints : Print) : Type 0 where
  pub performed : IsPerformed order was now prints
  pub keeps_up : KeepsUp order was now performed.made.runs

-- An order's announcement, if it has a charge.
abbrev pub IsTaken : Order → SessionState → Option Announcement → Type 0
IsTaken order was None = HasNoCharge order was
IsTaken order was (Some told) = (¬ HasNoCharge order was) × (was.announced ≡ Some told) × (told.order ≡ order)

-- Before an order runs: whether it has a charge, which was announced then, or that it may not run.
abbrev pub BeginsOrder : Order → SessionState → Result Bool CallOutcome → Type 0
BeginsOrder order was (Ok is_charged) = MayRun order was × IsTaken order was (charge_of is_charged was.announced)
BeginsOrder order was (Err why) = (why ≡ outcome.Unstored) × MayNotRun order was

-- A call that runs an order: its outcome is that of the output, for which `Holds` is true; or the device is behind, or
-- there is no card, for which `Fails` is.
abbrev pub CallRuns : Order → Option SessionState → Option SessionState → CallOutcome → (Print → Type 0) → Type 0
    → Type 0
CallRuns order None now result Holds Fails = (now ≡ None) × (result ≡ outcome.Absent) × Fails
CallRuns order (Some was) None result Holds Fails = ⊥
CallRuns order (Some was) (Some now) result Holds Fails =
    ((prints : Print) × HasRun order was now prints × (result ≡ print_outcome prints) × Holds prints)
    ⊎ (Fails × (result ≡ outcome.Unstored) × IsWithheld order was now)

-- The buffer begins with these bytes, and their number is returned. The rest of the buffer is unchanged.
pub record CopiesOut (bytes old new : List ℕ) (size : ℕ) : Type 0 where
  pub size_is : size ≡ length bytes
  pub copied : take (length bytes) new ≡ bytes
  pub rest : drop (length bytes) new ≡ drop (length bytes) old

-- no bytes are returned, and the buffer is unchanged
abbrev pub CopiesNothing : List ℕ → List ℕ → ℕ → Type 0
CopiesNothing old new size = (size ≡ 0) × (new ≡ old)

-- the bytes of an output are in the buffer, if it has any
abbrev pub Copies : List ℕ → List ℕ → ℕ → Print → Type 0
Copies old new size prints_nothing = CopiesNothing old new size
Copies old new size prints_atr = CopiesNothing old new size
Copies old new size prints_mute = CopiesNothing old new size
Copies old new size prints_dark = CopiesNothing old new size
Copies old new size prints_lost = CopiesNothing old new size
Copies old new size (prints_bytes bytes) = CopiesOut bytes old new size
Copies old new size (prints_free free) = CopiesNothing old new size

-- An order ran, and this result is its output. A buffer with room for any answer has the bytes.
pub record HasResult (order : Order) (was now : SessionState) (old new : List ℕ) (result : OrderResult) : Type 0 where
  pub answer : List ℕ
  pub block : List ℕ
  pub ran : HasRun order was now (result_print result answer block)
  pub copied : ROOM ≤ length old → Copies old new result.size (result_print result answer block)

-- the result of an order, if the device had all earlier writes and the charge; else the buffer is unchanged
abbrev pub TellsResult : Order → SessionState → SessionState → List ℕ → List ℕ → Result OrderResult CallOutcome → Type 0
TellsResult order was now old new (Ok result) = HasResult order was now old new result
TellsResult order was now old new (Err why) = ((why ≡ outcome.Unstored) × IsWithheld order was now) × (new ≡ old)

-- An order to a card. Without a card nothing is done.
abbrev pub AnswersOrder : Order → Option SessionState → Option SessionState → List ℕ → List ℕ
    → Result OrderResult CallOutcome → Type 0
AnswersOrder order None now old new result = (now ≡ None) × (result ≡ Err outcome.Absent) × (new ≡ old)
AnswersOrder order (Some was) None old new result = ⊥
AnswersOrder order (Some was) (Some now) old new result = TellsResult order was now old new result

-- the free space is returned, or zeros
abbrev pub ReportsSpace : ℕ → ℕ → Print → Type 0
ReportsSpace blocks entries prints_nothing = (blocks ≡ 0) × (entries ≡ 0)
ReportsSpace blocks entries prints_atr = (blocks ≡ 0) × (entries ≡ 0)
ReportsSpace blocks entries prints_mute = (blocks ≡ 0) × (entries ≡ 0)
ReportsSpace blocks entries prints_dark = (blocks ≡ 0) × (entries ≡ 0)
ReportsSpace blocks entries prints_lost = (blocks ≡ 0) × (entries ≡ 0)
ReportsSpace blocks entries (prints_bytes bytes) = (blocks ≡ 0) × (entries ≡ 0)
ReportsSpace blocks entries (prints_free free) = (blocks ≡ free.blocks) × (entries ≡ free.entries)

-- a call that runs an order without bytes
pub record Tells (order : Order) (was now : Option SessionState) (number : ℤ) : Type 0 where
  pub result : CallOutcome
  pub number_is : number ≡ outcome_number result
  pub runs : CallRuns order was now result (λ prints. Unit {0}) (Unit {0})

-- a call that runs an order, and copies its bytes out
pub record TellsBytes (order : Order) (was now : Option SessionState) (old new : List ℕ) (size : ℕ) (number : ℤ)
    : Type 0 where
  pub result : CallOutcome
  pub number_is : number ≡ outcome_number result
  pub runs : CallRuns order was now result (Copies old new size) (CopiesNothing old new size)

-- a call that returns the free space
pub record ReturnsSpace (was now : Option SessionState) (blocks entries : ℕ) (number : ℤ) : Type 0 where
  pub result : CallOutcome
  pub number_is : number ≡ outcome_number result
  pub runs : CallRuns Free was now result (ReportsSpace blocks entries) ((blocks ≡ 0) × (entries ≡ 0))

-- why a size or a number is refused: there is no card, or else it is out of its range
abbrev pub refusal_of : Option SessionState → CallOutcome
refusal_of None = outcome.Absent
refusal_of (Some was) = outcome.Size

-- a size or a number is out of its range, and nothing was done
pub record RefusesCall (was now : Option SessionState) (number : ℤ) : Type 0 where
  pub number_is : number ≡ outcome_number (refusal_of was)
  pub same : now ≡ was

-- the bytes and the buffer have their sizes
abbrev pub FitsCall : Order → List ℕ → Type 0
FitsCall order out = IsOrderSized order × (ROOM ≤ length out)

-- the first state of a card of these words, which may have a device
abbrev pub inserted : List ℕ → Option ℤ → SessionState
inserted words device = begun_at (board_with words) device

-- a handle has the factory card in the first state on a new board of so many pages, without a device
pub record IsFactoryFresh (pages : ℕ) (now : Option SessionState) : Type 0 where
  pub board : Facts
  pub begun : now ≡ Some (begun_at board None)
  pub factory : IsFactoryBoard pages board

-- why a number of pages is refused: there is too little memory for so many, or no memory has it
abbrev pub RefusesPages : ℕ → ℤ → Type 0
RefusesPages pages number =
    ((number ≡ outcome_number outcome.Memory) × (LEAST_PAGES ≤ pages) × (pages ≤ MOST_PAGES))
    ⊎ ((number ≡ outcome_number outcome.Size) × ¬ ((LEAST_PAGES ≤ pages) × (pages ≤ MOST_PAGES)))

-- why words are refused: there is too little memory for those of a board, no board has this number of words, or they
-- have no card
abbrev pub RefusesWords : List ℕ → ℤ → Type 0
RefusesWords words number = ((number ≡ outcome_number outcome.Memory) × IsMemory words)
    ⊎ ((number ≡ outcome_number outcome.Size) × ¬ IsMemory words)
    ⊎ ((number ≡ outcome_number outcome.NoCard) × IsMemory words × ¬ HasCard words)

-- what is wrong with words of a memory's size: the journal can't be undone, or the memory after undo is no valid card
abbrev pub IsWrongBy : ℕ → List ℕ → Type 0
IsWrongBy why words = ((why ≡ 1) × IsBadJournal words)
    ⊎ ((why ≡ 2) × IsSound words × ¬ IsAnyCard (words_found words))

-- Words are checked: they are a card image, there is too little memory for those of a board, no memory has so many, or
-- they are no card.
abbrev pub ChecksWords : List ℕ → ℤ → ℕ → Type 0
ChecksWords words number why = ((number ≡ outcome_number outcome.Done) × (why ≡ 0) × HasCard words)
    ⊎ ((number ≡ outcome_number outcome.Memory) × (why ≡ 0) × IsMemory words)
    ⊎ ((number ≡ outcome_number outcome.Size) × (why ≡ 0) × ¬ IsMemory words)
    ⊎ ((number ≡ outcome_number outcome.NoCard) × IsMemory words × ¬ HasCard words × IsWrongBy why words)

-- n if the bit is set, else 0
abbrev pub bit_of : Bool → ℕ → ℕ
bit_of b n = if b then n else 0

-- what a card is in, as a number: power is on, it has a device, a cut, a loss or a garbling is to come, or its device
-- didn't store a write
abbrev pub state_bits : SessionState → ℕ
state_bits s = bit_of (is_on s.desk.bench) 1 + bit_of (is_some (session_facts s).log) 2
    + bit_of (is_some (session_facts s).pending) 4
    + bit_of (is_some s.desk.line.lose) 8 + bit_of (is_some s.desk.line.garble) 16 + bit_of s.behind 32

-- a call that returns what a card is in
abbrev pub ReturnsState : Option SessionState → ℕ → ℤ → Type 0
ReturnsState None state number = (number ≡ outcome_number outcome.Absent) × (state ≡ 0)
ReturnsState (Some now) state number = (number ≡ outcome_number outcome.Done) × (state ≡ state_bits now)

-- a card without power, for which nothing is to come
abbrev pub cleared : SessionState → SessionState
cleared s = record {
  desk = desk_of (record (session_facts s) { due = 0; pending = None });
  behind = s.behind;
  stored = s.stored;
  announced = None;
  device = s.device;
}

-- a call that takes back all that is to come, and switches power off
abbrev pub ClearsFaults : Option SessionState → Option SessionState → ℤ → Type 0
ClearsFaults None now number = (number ≡ outcome_number outcome.Absent) × (now ≡ None)
ClearsFaults (Some was) now number = (number ≡ outcome_number outcome.Done) × (now ≡ Some (cleared was))

-- Words are copied to the start of a buffer, if that has room for all of them. Their number is returned in any case.
abbrev pub CopiesWords : List ℕ → List ℕ → List ℕ → ℕ → ℤ → Type 0
CopiesWords words old new size number = ((number ≡ outcome_number outcome.Done) × CopiesOut words old new size)
    ⊎ ((number ≡ outcome_number outcome.Size) × (size ≡ length words) × (length old < length words) × (new ≡ old))

-- a call that copies a card's words out
abbrev pub TellsWords : Option SessionState → List ℕ → List ℕ → ℕ → ℤ → Type 0
TellsWords None old new size number = (number ≡ outcome_number outcome.Absent) × CopiesNothing old new size
TellsWords (Some now) old new size number = CopiesWords (session_facts now).words old new size number
