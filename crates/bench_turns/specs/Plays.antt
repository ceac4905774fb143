-- Postconditions of one turn and of several turns at the bench.
use Rattle.std.specs.Prelude.{◌≡◌, ℕ, List}
use Rattle.nvm_board.specs.Aims.{due_of}
use Rattle.command_base.specs.declared.spending.TheConstants.{COMMAND_WRITES}
use Rattle.bench_turns.specs.declared.turn.Turn.{Turn}
use Rattle.bench_turns.specs.declared.turn.Item.{Item}
use Rattle.bench_turns.specs.declared.turn.Item.TheVariants.{Atr, Quiet, Mute, Dark, Reply}
use Rattle.bench_turns.specs.declared.turn_result.TurnResult.{TurnResult}
use Rattle.bench_turns.specs.declared.turn_result.TurnResult.TheVariants as turned
use Rattle.bench_turns.specs.BenchStates.{BenchState, bench_facts, BenchHasCard, IsWell}
use Rattle.bench_turns.specs.Guessing.{GuessesFew, PaysAhead}
pub use Rattle.bench_turns.specs.BenchStates.{BringsNoFault}
use Rattle.bench_turns.specs.FaultTurns.{IsTraceWithFaults, OneTurnOrFails, TakesBlockOrFails}
use Rattle.bench_turns.specs.Turns.{CountsLosses, OneTurn, Runs, Spends, TakesBlock, Wears, dark_of, darks, turn_writes}

-- A bench with a card state after recovery, and without any fault. A power cut is due if one is set.
pub record IsGood (b : BenchState) : Type 0 where
  pub has_card : BenchHasCard b
  pub faults : (bench_facts b).faults ≡ 0
  pub due : (bench_facts b).due ≡ due_of (bench_facts b).pending
  pub well : IsWell b

-- The result of a turn, for which `Holds` is true. A returned block is in a buffer.
abbrev pub TellsItem : TurnResult → List ℕ → (Item → Type 0) → Type 0
TellsItem turned.Atr block Holds = Holds Atr
TellsItem turned.Quiet block Holds = Holds Quiet
TellsItem turned.Mute block Holds = Holds Mute
TellsItem turned.Dark block Holds = Holds Dark
TellsItem turned.Reply block Holds = Holds (Reply block)

-- One turn.
pub record Plays (old : BenchState) (turn : Turn) (item : Item) (new : BenchState) : Type 0 where
  pub has_card : BenchHasCard old → BenchHasCard new
  pub counts : Spends (dark_of item) (bench_facts old) (bench_facts new)
  pub well : BringsNoFault old new → IsWell new
  pub guesses : GuessesFew old new
  pub ahead : PaysAhead old new
  pub one : BenchHasCard old → BringsNoFault old new → OneTurn old turn item new
  pub any : BenchHasCard old → OneTurnOrFails old turn item new
  pub wears : BenchHasCard old → BringsNoFault old new
      → Wears (turn_writes old turn) (bench_facts old) (bench_facts new)

-- One block.
pub record PlaysBlock (old : BenchState) (got : List ℕ) (item : Item) (new : BenchState) : Type 0 where
  pub has_card : BenchHasCard old → BenchHasCard new
  pub counts : Spends (dark_of item) (bench_facts old) (bench_facts new)
  pub well : BringsNoFault old new → IsWell new
  pub guesses : GuessesFew old new
  pub ahead : PaysAhead old new
  pub one : BenchHasCard old → BringsNoFault old new → TakesBlock old got item new
  pub any : BenchHasCard old → TakesBlockOrFails old got item new
  pub wears : BringsNoFault old new → Wears COMMAND_WRITES (bench_facts old) (bench_facts new)

-- Several turns.
pub record PlaysAll (old : BenchState) (turns : List Turn) (trace : List Item) (new : BenchState) : Type 0 where
  pub has_card : BenchHasCard old → BenchHasCard new
  pub counts : CountsLosses (darks trace) (bench_facts old) (bench_facts new)
  pub well : BringsNoFault old new → IsWell new
  pub guesses : GuessesFew old new
  pub runs : BenchHasCard old → BringsNoFault old new → Runs old turns trace new
  pub any : BenchHasCard old → IsTraceWithFaults old turns trace new
