-- The world of both ends of T=1 (ISO/IEC 7816-3, clause 11.6): a reader, a card with a machine that runs commands, and
-- a half-duplex line with one block under way, which it may lose or garble.
use Rattle.std.specs.Prelude.{◌≡◌, ℕ, Bool, true, false, not, ◌&&◌, ◌≤◌, nat_le, nat_lt, if◌then◌else◌, List, [], ◌∷◌}
use Rattle.std.specs.Prelude.{length, Result, Ok, Err}
use Rattle.std.specs.List.{list_all}
use Rattle.t1_link.specs.declared.block.Fault.{Fault}
use Rattle.t1_link.specs.declared.block.Fault.TheVariants.{WrongLength, WrongCheck, UnknownBlock}
use Rattle.t1_link.specs.declared.reader_end.Failure.{Failure}
use Rattle.t1_link.specs.Blocks.{Block, frame, heard}
use Rattle.t1_link.specs.CardTable.{Link, link_step, Reaction, Taken, answers, fresh, replies, runs}
use Rattle.t1_link.specs.ReaderTable.{CommandReport, Reader, reader_step, Turned, fails, fresh_reader, gives, is_busy}
use Rattle.t1_link.specs.ReaderTable.{reader_sends, reader_times_out, sends, unknown}

-- true if all numbers are bytes, 0 to 255
abbrev pub are_bytes : List ℕ → Bool
are_bytes numbers = list_all (λ number. nat_lt number 256) numbers

-- true if it is a command: 1 to 261 bytes
abbrev pub is_command : List ℕ → Bool
is_command numbers = are_bytes numbers && (nat_le 1 (length numbers) && nat_le (length numbers) 261)

-- A machine that runs commands: in each state it has an answer to a command, and a next state.
pub record Machine (M : Type 0) : Type 0 where
  pub answer : M → List ℕ → List ℕ
  pub next : M → List ℕ → M

-- A machine whose commands preserve an invariant, and whose answers under it have 2 to 258 bytes.
pub record Answers {M : Type 0} (machine : Machine M) (Invariant : M → Type 0) : Type 0 where
  pub at_least : (m : M) (command : List ℕ) → Invariant m → is_command command ≡ true
      → 2 ≤ length (machine.answer m command)
  pub at_most : (m : M) (command : List ℕ) → Invariant m → is_command command ≡ true
      → length (machine.answer m command) ≤ 258
  pub keeps : (m : M) (command : List ℕ) → Invariant m → is_command command ≡ true → Invariant (machine.next m command)

-- The state of the line: nothing, or one block toward either end.
pub data Line : Type 0 where
  quiet : Line
  toward_card : Block → Line
  toward_reader : Block → Line

-- A command that ran, and the machine's answer to it.
pub record Carried : Type 0 where
  pub command : List ℕ
  pub answer : List ℕ

-- The report of the reader's end about a command.
pub data Report : Type 0 where
  Done : List ℕ → Report
  Unknown : Report
  Failed : Failure → Report

-- The world, with its history, newest first: the commands sent, those that ran, the reports, and the blocks that the
-- reader's end sent since the last command.
pub record World (M : Type 0) : Type 0 where
  pub reader : Reader
  pub card : Link
  pub line : Line
  pub machine : M
  pub sent : List (List ℕ)
  pub carried : List Carried
  pub reports : List Report
  pub offered : List Block

-- the world after power-on, with a machine in this state
abbrev pub powered : {M : Type 0} → M → World M
powered m = record {
  reader = fresh_reader;
  card = fresh;
  line = quiet;
  machine = m;
  sent = [];
  carried = [];
  reports = [];
  offered = [];
}

-- The possible events: the reader's end gets a command; the block under way arrives; it is lost, so that the reader's
-- end times out; or it is garbled, so that these bytes arrive instead.
pub data Event : Type 0 where
  send : List ℕ → Event
  pass : Event
  lose : Event
  garble : List ℕ → Event

-- true if the command is valid and none is in progress
abbrev pub may_send : Reader → List ℕ → Bool
may_send r command = not (is_busy r.phase) && is_command command

-- true if a garbling line can cause this: a wrong length or a wrong check byte
abbrev pub is_garbled : Result Block Fault → Bool
is_garbled (Err WrongLength) = true
is_garbled (Err WrongCheck) = true
is_garbled (Err UnknownBlock) = false
is_garbled (Ok b) = false

-- true if these bytes can arrive instead of a block
abbrev pub may_arrive : List ℕ → Bool
may_arrive numbers = are_bytes numbers && is_garbled (heard numbers)

-- The effect of an event on the block under way: bytes at an end, a timeout of the reader's end, or nothing, also if
-- the event is impossible.
pub data Arrival : Type 0 where
  at_card : List ℕ → Arrival
  at_reader : List ℕ → Arrival
  in_vain : Arrival
  nothing : Arrival

-- the arrival that an event causes
abbrev pub arrival : Line → Event → Arrival
arrival quiet event = nothing
arrival (toward_card b) (send command) = nothing
arrival (toward_card b) pass = at_card (frame b)
arrival (toward_card b) lose = in_vain
arrival (toward_card b) (garble bytes) = if may_arrive bytes then at_card bytes else nothing
arrival (toward_reader b) (send command) = nothing
arrival (toward_reader b) pass = at_reader (frame b)
arrival (toward_reader b) lose = in_vain
arrival (toward_reader b) (garble bytes) = if may_arrive bytes then at_reader bytes else nothing

-- the world after an outcome of the reader's end: a block goes on the line, or the report of the command is there
abbrev pub noted : {M : Type 0} → World M → CommandReport → World M
noted w (sends b) = record w { line = toward_card b; offered = b ∷ w.offered }
noted w (gives answer) = record w { line = quiet; reports = Done answer ∷ w.reports }
noted w unknown = record w { line = quiet; reports = Unknown ∷ w.reports }
noted w (fails failure) = record w { line = quiet; reports = Failed failure ∷ w.reports }

-- the world after a step of the reader's end
abbrev pub turning : {M : Type 0} → World M → Turned → World M
turning w turned = noted (record w { reader = turned.reader }) turned.outcome

-- a reply of the card's end goes on the line
abbrev pub with_reply : {M : Type 0} → World M → Reaction → World M
with_reply w (replies b) = record w { line = toward_reader b }
with_reply w (runs command) = w

-- the record of a command that the machine runs in this state
abbrev pub carrying : {M : Type 0} → Machine M → M → List ℕ → Carried
carrying machine m command = record { command = command; answer = machine.answer m command }

-- the machine runs a command, and the first I-block of its answer goes on the line
abbrev pub running : {M : Type 0} → Machine M → World M → List ℕ → World M
running machine w command =
    let answering = answers w.card (machine.answer w.machine command) in
    with_reply (record w {
      card = answering.link;
      machine = machine.next w.machine command;
      carried = carrying machine w.machine command ∷ w.carried;
    }) answering.reaction

-- the card's end took a block: it replies, or the machine runs a command
abbrev pub reacting : {M : Type 0} → Machine M → World M → Reaction → World M
reacting machine w (replies b) = with_reply w (replies b)
reacting machine w (runs command) = running machine w command

abbrev pub taking : {M : Type 0} → Machine M → World M → Taken → World M
taking machine w taken = reacting machine (record w { card = taken.link }) taken.reaction

-- the world after an arrival
abbrev pub after_arrival : {M : Type 0} → Machine M → World M → Arrival → World M
after_arrival machine w (at_card bytes) = taking machine w (link_step w.card bytes)
after_arrival machine w (at_reader bytes) = turning w (reader_step w.reader bytes)
after_arrival machine w in_vain = turning w (reader_times_out w.reader)
after_arrival machine w nothing = w

-- the reader's end gets a command
abbrev pub giving : {M : Type 0} → World M → List ℕ → World M
giving w command = turning (record w { sent = command ∷ w.sent; offered = [] }) (reader_sends w.reader command)

-- One event. An impossible event changes nothing.
unfoldable pub world_step : {M : Type 0} → Machine M → World M → Event → World M
world_step machine w (send command) = if may_send w.reader command then giving w command else w
world_step machine w pass = after_arrival machine w (arrival w.line pass)
world_step machine w lose = after_arrival machine w (arrival w.line lose)
world_step machine w (garble bytes) = after_arrival machine w (arrival w.line (garble bytes))

-- the world after a list of events, in order
unfoldable pub world : {M : Type 0} → Machine M → World M → List Event → World M
world machine w [] = w
world machine w (event ∷ events) = world machine (world_step machine w event) events
