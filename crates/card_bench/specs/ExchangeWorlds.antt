-- An exchange as a run of the world of both ends. The machine is the card at the bench, and the pending faults decide
-- the fate of each block on the line.
use Rattle.std.specs.Prelude.{◌≡◌, ◌⊎◌, ◌≤◌, ◌+◌, ℕ, zero, suc, true, List, [], ◌∷◌, ◌++◌, if◌then◌else◌}
use Rattle.t1_link.specs.declared.reader_end.Failure.{Failure}
use Rattle.t1_link.specs.Blocks.{frame}
use Rattle.t1_link.specs.CardTable.{link_step, runs}
use Rattle.t1_link.specs.Garbled.{last_bit_turned}
use Rattle.t1_link.specs.ReaderTable.{Reader}
use Rattle.card_start.specs.Running.{card_found}
use Rattle.card_model.specs.CommandTable.{asked}
use Rattle.card_model.specs.Steps.{IsStage}
use Rattle.command_base.specs.CommitWords.{StandsAsked}
use Rattle.card_bench.specs.Exchanges.{Ended}
use Rattle.card_bench.specs.Exchanges.{answered, set_back, link_lost, power_lost}
use Rattle.card_bench.specs.declared.reader_turns.TheConstants.{LINE_BLOCKS}
use Rattle.card_bench.specs.declared.line.Line.{Line}
use Rattle.bench_turns.specs.BenchStates.{BenchState, off, on, bench_card, bench_facts, IsOff}
use Rattle.bench_turns.specs.CardBlocks.{Powered}
use Rattle.card_bench.specs.Exchanges.{Ends, Exchanged}
use Rattle.card_bench.specs.Lines.{is_due, line_after}
use Rattle.t1_link.specs.TreeMachine.{IsProperState, Served, tree_machine}
use Rattle.t1_link.specs.Worlds.{Arrival, Done, Event, Failed, Line as WorldLine, Report, Unknown, World, arrival}
use Rattle.t1_link.specs.Worlds.{at_card, garble, is_command, lose, pass, quiet}
use Rattle.t1_link.specs.Worlds.{send, toward_card, toward_reader, world_step}
use Rattle.t1_link.specs.WorldLaw.{comes_of, is_under_way}

-- the state of a card at the bench: its card state after recovery, and its session
abbrev pub state_served : Powered → Served
state_served powered = record { card = card_found powered.card; session = powered.card.session }

-- both ends at the bench are those of this world, and its machine is the card at the bench
pub record AreOfWorld (powered : Powered) (reader : Reader) (w : World Served) : Type 0 where
  pub reader_is : reader ≡ w.reader
  pub link_is : powered.link ≡ w.card
  pub card_is : state_served powered ≡ w.machine

-- With power on, the ends at the bench are those of this world.
abbrev pub StandIn : BenchState → Reader → World Served → Type 0
StandIn (off facts) reader w = ⊥
StandIn (on powered) reader w = AreOfWorld powered reader w

-- the bytes of the block under way
abbrev pub bytes_of_line : WorldLine → List ℕ
bytes_of_line quiet = []
bytes_of_line (toward_card b) = frame b
bytes_of_line (toward_reader b) = frame b

-- the fate of a block: lost if a loss is due, else garbled if that is due, else it arrives intact
abbrev pub fate : Line → List ℕ → Event
fate pending block =
    if is_due pending.lose 0 then lose else
    if is_due pending.garble 0 then garble (last_bit_turned block) else
    pass

-- the fates of `blocks` blocks in order, from this world on
unfoldable pub fates : Line → ℕ → World Served → List Event
fates pending zero w = []
fates pending (suc blocks) w =
    fate pending (bytes_of_line w.line)
    ∷ fates (line_after 1 pending) blocks (world_step tree_machine w (fate pending (bytes_of_line w.line)))

-- The course of an exchange in the world: the command, the most blocks on the line, the pending faults, the reports of
-- earlier commands, and the world after each number of blocks.
pub record Course : Type 0 where
  pub command : List ℕ
  pub limit : ℕ
  pub pending : Line
  pub earlier : List Report
  pub after : ℕ → World Served

-- the command has this report, and nothing is under way
pub record IsReported (report : Report) (earlier : List Report) (w : World Served) : Type 0 where
  pub reports : w.reports ≡ report ∷ earlier
  pub line : w.line ≡ quiet

-- the command has no report yet, and a block is under way
pub record IsUnreported (earlier : List Report) (w : World Served) : Type 0 where
  pub reports : w.reports ≡ earlier
  pub line : is_under_way w.line ≡ true

-- Power was lost while the card ran the command, after the block under way arrived at its end. The card state after
-- recovery is one of the command's stages, and the words written so far determine which one.
pub record ExchangeIsCut (command : List ℕ) (came : Arrival) (w : World Served) (new : BenchState) : Type 0 where
  pub power : IsOff new
  pub got : List ℕ
  pub came_there : came ≡ at_card got
  pub runs_it : (link_step w.card got).reaction ≡ runs command
  pub stage : IsStage w.machine.card w.machine.session command (bench_card new)
  pub word : StandsAsked w.machine.card w.machine.session (asked command) (bench_facts new).words

-- the arrival of the next block after `blocks` blocks
abbrev pub arrival_after : Course → ℕ → Arrival
arrival_after course blocks =
    arrival (course.after blocks).line
    (fate (line_after blocks course.pending) (bytes_of_line (course.after blocks).line))

-- How an exchange ended after `blocks` blocks on the line: with a report; without one at the limit of blocks; or with
-- power loss at the last of them.
abbrev pub EndsSo : Ended → Course → ℕ → Ends → Type 0
EndsSo (answered answer) course blocks new =
    StandIn new.bench new.reader (course.after blocks) × IsReported (Done answer) course.earlier (course.after blocks)
EndsSo set_back course blocks new =
    StandIn new.bench new.reader (course.after blocks) × IsReported Unknown course.earlier (course.after blocks)
EndsSo link_lost course blocks new =
    StandIn new.bench new.reader (course.after blocks)
    × (((failure : Failure) × IsReported (Failed failure) course.earlier (course.after blocks))
    ⊎ ((blocks ≡ course.limit) × IsUnreported course.earlier (course.after blocks)))
EndsSo power_lost course blocks new =
    (before : ℕ) × (blocks ≡ before + 1) × IsUnreported course.earlier (course.after before)
    × ExchangeIsCut course.command (arrival_after course before) (course.after before) new.bench

-- An exchange takes this course.
pub record GoesAs (course : Course) (new : Ends) (ending : Ended) : Type 0 where
  pub blocks : ℕ
  pub most : blocks ≤ course.limit
  pub line : new.line ≡ line_after blocks course.pending
  pub ended : EndsSo ending course blocks new

-- the events of an exchange up to a number of blocks: the command is sent, then each block meets its fate
abbrev pub exchange_events : World Served → List ℕ → Line → ℕ → List Event
exchange_events w command pending blocks = send command
    ∷ fates pending blocks (world_step tree_machine w (send command))

-- The course of an exchange from the world that some events since power-on produced. It is a run of the world, whose
-- events follow those.
abbrev pub course_of : Served → List Event → List ℕ → Line → Course
course_of start events command pending =
    let w = comes_of tree_machine start events in
    record {
      command = command;
      limit = LINE_BLOCKS;
      pending = pending;
      earlier = w.reports;
      after = λ blocks. comes_of tree_machine start (events ++ exchange_events w command pending blocks);
    }

-- Each exchange takes that course, if no block was under way before.
abbrev pub ExchangeLaw : Type 0
ExchangeLaw = (start : Served) (events : List Event) (old new : Ends) (command : List ℕ) (ending : Ended)
    → IsProperState start → StandIn old.bench old.reader (comes_of tree_machine start events)
    → (comes_of tree_machine start events).line ≡ quiet → is_command command ≡ true → Exchanged old command new ending
    → GoesAs (course_of start events command old.line) new ending
