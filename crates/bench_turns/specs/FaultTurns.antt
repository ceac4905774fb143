-- Turns at a bench whose board may fail: what the card does in a fault, and from then on.
use Rattle.std.specs.Prelude.{◌≡◌, ◌⊎◌, ◌≤◌, ◌+◌, ℕ, List, [], ◌∷◌}
use Rattle.nvm_board.specs.Facts.{GoesDark}
use Rattle.t1_link.specs.CardTable.{link_step}
use Rattle.undo_journal.specs.Spending.{KeepsBoard}
use Rattle.command_base.specs.declared.spending.TheConstants.{COMMAND_WRITES}
use Rattle.card_start.specs.Running.{card_found}
use Rattle.card_start.specs.declared.state.CardState.TheVariants.{Working, Failed}
use Rattle.bench_turns.specs.declared.turn.Turn.{Turn}
use Rattle.bench_turns.specs.declared.turn.Turn.TheVariants as turn
use Rattle.bench_turns.specs.declared.turn.Item.{Item}
use Rattle.bench_turns.specs.declared.turn.Item.TheVariants.{Atr, Quiet, Mute, Dark, Reply}
use Rattle.bench_turns.specs.BenchStates.{BenchState, BringsNoFault, off, on, bench_facts, IsOff}
use Rattle.bench_turns.specs.CardBlocks.{Powered, BlockChangesNothing, BlockCompares, BlockFails, BlockStands}
use Rattle.bench_turns.specs.CardBlocks.{BlockTurns, IsBlockStage, Replies, RepliesFailure}
use Rattle.bench_turns.specs.Turns.{HearsNothing, LeavesCard, Spends, TurnIsCut, TurnsOff, TurnsOn, WritesNoMore}
use Rattle.bench_turns.specs.Turns.{Wears, dark_of, turn_writes}

-- The board had a fault while a command ran. The answer is 6581, and the memory has failed. As where power is lost,
-- the card state after recovery is one of the command's stages, and the words written so far determine which one. Only
-- a PIN command makes a comparison. No more is written than any command may write, and nothing if the command changes
-- nothing permanent.
pub record TurnFails (old : Powered) (got : List ℕ) (new : Powered) (out : List ℕ) : Type 0 where
  pub fails : BlockFails old got new out
  pub stage : IsBlockStage old (link_step old.link got).reaction (card_found new.card)
  pub word : BlockStands old (link_step old.link got).reaction new.card.facts.words
  pub turned : BlockTurns old (link_step old.link got).reaction new.card.facts
  pub compares : BlockCompares old (link_step old.link got).reaction new.card.facts
  pub writes : new.card.facts.writes ≤ old.card.facts.writes + COMMAND_WRITES
  pub idle : BlockChangesNothing old (link_step old.link got).reaction → KeepsBoard old.card.facts new.card.facts

-- The card replies with this block: it works, or its memory has failed. A card that works replies as the model does, or
-- the board had a fault in the command. A card whose memory has failed answers each command with 6581, and nothing of
-- it changes.
pub record RepliesOrFails (old : Powered) (got : List ℕ) (new : Powered) (out : List ℕ) : Type 0 where
  pub alive : (old.card.state ≡ Working) ⊎ (old.card.state ≡ Failed)
  pub works : old.card.state ≡ Working → Replies old got new out ⊎ TurnFails old got new out
  pub failed : old.card.state ≡ Failed → (new.card ≡ old.card) × RepliesFailure old got new out

-- the card replies with this block, and stays powered
abbrev pub GoesOnOrFails : Powered → List ℕ → BenchState → List ℕ → Type 0
GoesOnOrFails old got (off facts) out = ⊥
GoesOnOrFails old got (on new) out = RepliesOrFails old got new out

-- A block with power on: the card replies, or power is lost without a fault before it.
abbrev pub HearsOrFails : Powered → List ℕ → Item → BenchState → Type 0
HearsOrFails old got Atr new = ⊥
HearsOrFails old got Quiet new = ⊥
HearsOrFails old got Mute new = ⊥
HearsOrFails old got Dark new =
    (old.card.state ≡ Working) × TurnIsCut old got new × GoesDark old.card.facts (bench_facts new)
HearsOrFails old got (Reply block) new = GoesOnOrFails old got new block

-- the reaction to a block
abbrev pub TakesBlockOrFails : BenchState → List ℕ → Item → BenchState → Type 0
TakesBlockOrFails (off facts) got item new = HearsNothing (off facts) item new
TakesBlockOrFails (on powered) got item new = HearsOrFails powered got item new

-- The board had one fault in a power-on, and lost no power. Power then goes off, and the card state after recovery is
-- the same.
pub record PowerOnFails (old : BenchState) (item : Item) (new : BenchState) : Type 0 where
  pub mute : item ≡ Mute
  pub fault : (bench_facts new).faults ≡ (bench_facts old).faults + 1
  pub cuts : (bench_facts new).cuts ≡ (bench_facts old).cuts
  pub due : (bench_facts new).due ≡ (bench_facts old).due
  pub power : IsOff new
  pub leaves : LeavesCard old new
  pub writes : WritesNoMore (bench_facts old) (bench_facts new)

-- One turn, whatever failed in it or before it. A power-on with a fault is mute; one without ends what a fault left.
abbrev pub OneTurnOrFails : BenchState → Turn → Item → BenchState → Type 0
OneTurnOrFails old turn.On item new =
    (TurnsOn old item new × ((bench_facts new).faults ≡ (bench_facts old).faults)) ⊎ PowerOnFails old item new
OneTurnOrFails old turn.Off item new = TurnsOff old item new
OneTurnOrFails old (turn.Block got) item new = TakesBlockOrFails old got.now item new

-- One turn, whatever fails, with its use of the board's counters. It counts one power loss if it is Dark, else none.
-- Its other counts are limited if it has no fault, on a card whose memory hasn't failed.
pub record CountedTurn (old : BenchState) (turn : Turn) (item : Item) (new : BenchState) : Type 0 where
  pub one : OneTurnOrFails old turn item new
  pub counts : Spends (dark_of item) (bench_facts old) (bench_facts new)
  pub wears : BringsNoFault old new → Wears (turn_writes old turn) (bench_facts old) (bench_facts new)

-- What the card does in several turns, in order, with the result of each, on a board that may fail.
unfoldable pub IsTraceWithFaults : BenchState → List Turn → List Item → BenchState → Type 0
IsTraceWithFaults old [] [] new = new ≡ old
IsTraceWithFaults old [] (item ∷ items) new = ⊥
IsTraceWithFaults old (turn ∷ turns) [] new = ⊥
IsTraceWithFaults old (turn ∷ turns) (item ∷ items) new =
    (between : BenchState) × CountedTurn old turn item between × IsTraceWithFaults between turns items new
