-- Between two power-ons the commands of a script are exchanges in one world.
use Rattle.std.specs.Prelude.{◌≡◌, ℕ, List, [], ◌++◌, Some}
use Rattle.t1_link.specs.ReaderTable.{Reader}
use Rattle.card_model.specs.Sessions.{fresh_session}
use Rattle.card_bench.specs.Exchanges.{Ended}
use Rattle.bench_lines.specs.Orders.{Order}
use Rattle.bench_lines.specs.Orders.{Nothing, On, Off, Free, Apdu, Block, Cut, Lose, Garble}
use Rattle.bench_turns.specs.BenchStates.{BenchHasCard}
use Rattle.card_bench.specs.Exchanges.{Desk, GoesOn, left_by, printed_by}
use Rattle.card_bench.specs.ExchangeWorlds.{GoesAs, StandIn, course_of, exchange_events}
use Rattle.bench_lines.specs.Orders.{IsOrderSized}
use Rattle.card_bench.specs.Performing.{Performs}
use Rattle.bench_lines.specs.Printouts.{Print, prints_atr}
use Rattle.bench_lines.specs.Spellings.{IsOrderOfBytes}
use Rattle.t1_link.specs.TreeMachine.{IsProperState, Served, tree_machine}
use Rattle.t1_link.specs.Worlds.{Event, quiet}
use Rattle.t1_link.specs.WorldLaw.{comes_of}

-- The desk is in the world after these events since power-on: a command may be sent, both ends and the card are those
-- of that world, and nothing is under way.
pub record IsInWorld (start : Served) (events : List Event) (d : Desk) : Type 0 where
  pub reader : Reader
  pub may_send : d.reader ≡ Some reader
  pub stands : StandIn d.bench reader (comes_of tree_machine start events)
  pub calm : (comes_of tree_machine start events).line ≡ quiet

-- A command is an exchange in that world. If another command may follow, the desk is in the world after the exchange.
pub record CommandInWorld (command : List ℕ) (start : Served) (events : List Event) (old new : Desk)
    (prints : Print) : Type 0 where
  pub reader : Reader
  pub ending : Ended
  pub course : GoesAs (course_of start events command old.line)
      (record { bench = new.bench; reader = reader; line = new.line }) ending
  pub left : new.reader ≡ left_by ending reader
  pub printed : prints ≡ printed_by ending
  pub goes_on : GoesOn ending
      → (blocks : ℕ)
      × IsInWorld start (events ++ exchange_events (comes_of tree_machine start events) command old.line blocks) new

-- A line in a world. Power on, power off, and a block to the card's end leave the world.
abbrev pub LineInWorld : Order → Served → List Event → Desk → Desk → Print → Type 0
LineInWorld Nothing start events old new prints = IsInWorld start events new
LineInWorld On start events old new prints = Unit {0}
LineInWorld Off start events old new prints = Unit {0}
LineInWorld Free start events old new prints = IsInWorld start events new
LineInWorld (Apdu command) start events old new prints = CommandInWorld command start events old new prints
LineInWorld (Block block) start events old new prints = Unit {0}
LineInWorld (Cut number mask) start events old new prints = IsInWorld start events new
LineInWorld (Lose number) start events old new prints = IsInWorld start events new
LineInWorld (Garble number) start events old new prints = IsInWorld start events new

-- the desk is in a new world, of the card state after recovery, in a fresh session
pub record IsInNewWorld (d : Desk) : Type 0 where
  pub start : Served
  pub proper : IsProperState start
  pub fresh : start.session ≡ fresh_session
  pub in_world : IsInWorld start [] d

-- A successful power-on begins a world.
abbrev pub PowerOnLaw : Type 0
PowerOnLaw = (old new : Desk) → BenchHasCard new.bench → Performs On old new prints_atr → IsInNewWorld new

-- The lines after it continue that world.
abbrev pub LineLaw : Type 0
LineLaw = (start : Served) (events : List Event) (order : Order) (old new : Desk) (prints : Print)
    → IsProperState start → IsInWorld start events old → IsOrderSized order → IsOrderOfBytes order
    → Performs order old new prints
    → LineInWorld order start events old new prints
