-- The effect of each script line on the desk, and its output.
use Rattle.std.specs.Prelude.{◌≡◌, ◌-◌, ℕ, List, Option, None, Some}
use Rattle.t1_link.specs.ReaderTable.{Reader, fresh_reader}
use Rattle.bench_lines.specs.Orders.{Order, Nothing, On, Off, Free, Apdu, Block, Cut, Lose, Garble}
use Rattle.bench_turns.specs.declared.turn.Turn.{Turn}
use Rattle.bench_turns.specs.declared.turn.Item.{Item}
use Rattle.bench_turns.specs.BenchStates.{BenchState, off, on, IsArmed}
use Rattle.card_bench.specs.Exchanges.{Commands, Desk}
use Rattle.bench_lines.specs.Printouts.{Print, prints_nothing, prints_atr, prints_mute, prints_dark, prints_bytes}
use Rattle.bench_lines.specs.Printouts.{prints_free}
use Rattle.card_start.specs.Running.{card_found}
use Rattle.card_model.specs.Cards.{card_space}
use Rattle.bench_turns.specs.Turns.{GoodBlock, GoodTurn}
use Rattle.bench_turns.specs.declared.turn.Turn.TheVariants as turn
use Rattle.bench_turns.specs.declared.turn.Item.TheVariants as item

-- the output of a turn
abbrev pub shown : Item → Print
shown item.Atr = prints_atr
shown item.Quiet = prints_nothing
shown item.Mute = prints_mute
shown item.Dark = prints_dark
shown (item.Reply block) = prints_bytes block

-- the reader's end after a turn: a fresh one after a successful power-on, else none
abbrev pub reader_after : Item → Option Reader
reader_after item.Atr = Some fresh_reader
reader_after item.Quiet = None
reader_after item.Mute = None
reader_after item.Dark = None
reader_after (item.Reply block) = None

-- A turn at the desk, and its output. Only a successful power-on gives a reader's end, a fresh one. After any other
-- turn no command can be sent. The pending faults of the line stay.
pub record TakesTurn (taken : Turn) (old new : Desk) (prints : Print) : Type 0 where
  pub outcome : Item
  pub turn : GoodTurn old.bench taken outcome new.bench
  pub reader : new.reader ≡ reader_after outcome
  pub line : new.line ≡ old.line
  pub printed : prints ≡ shown outcome

-- Power off, without output. No further command can be sent.
pub record PerformsOff (old new : Desk) (prints : Print) : Type 0 where
  pub turn : GoodTurn old.bench turn.Off item.Quiet new.bench
  pub reader : new.reader ≡ None
  pub line : new.line ≡ old.line
  pub printed : prints ≡ prints_nothing

-- A block to the card's end. As the reader's end doesn't know of it, no further command can be sent.
pub record PerformsBlock (old : Desk) (block : List ℕ) (new : Desk) (prints : Print) : Type 0 where
  pub outcome : Item
  pub turn : GoodBlock old.bench block outcome new.bench
  pub reader : new.reader ≡ None
  pub line : new.line ≡ old.line
  pub printed : prints ≡ shown outcome

-- A power cut is set, without output.
pub record PerformsCut (number mask : ℕ) (old new : Desk) (prints : Print) : Type 0 where
  pub armed : IsArmed number mask old.bench new.bench
  pub reader : new.reader ≡ old.reader
  pub line : new.line ≡ old.line
  pub printed : prints ≡ prints_nothing

-- the output of the free space: that of the card state after recovery, or no answer with power off
abbrev pub free_shown : BenchState → Print
free_shown (off facts) = prints_mute
free_shown (on powered) = prints_free (card_space (card_found powered.card))

-- A command: no answer with power off, else it goes through both ends of the link.
abbrev pub PerformsCommand : BenchState → Desk → List ℕ → Desk → Print → Type 0
PerformsCommand (off facts) old command new prints = (new ≡ old) × (prints ≡ prints_mute)
PerformsCommand (on powered) old command new prints = Commands old old.reader command new prints

-- A script line runs.
abbrev pub Performs : Order → Desk → Desk → Print → Type 0
Performs Nothing old new prints = (new ≡ old) × (prints ≡ prints_nothing)
Performs On old new prints = TakesTurn turn.On old new prints
Performs Off old new prints = PerformsOff old new prints
Performs Free old new prints = (new ≡ old) × (prints ≡ free_shown old.bench)
Performs (Apdu command) old new prints = PerformsCommand old.bench old command new prints
Performs (Block block) old new prints = PerformsBlock old block new prints
Performs (Cut number mask) old new prints = PerformsCut number mask old new prints
Performs (Lose number) old new prints =
    (new ≡ record old { line = record old.line { lose = Some (number - 1) } }) × (prints ≡ prints_nothing)
Performs (Garble number) old new prints =
    (new ≡ record old { line = record old.line { garble = Some (number - 1) } }) × (prints ≡ prints_nothing)
