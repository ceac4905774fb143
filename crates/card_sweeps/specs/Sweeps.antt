-- The runs of a sweep, and the finding of each.
use Rattle.std.specs.Prelude.{◌≡◌, ◌⊎◌, ◌≤◌, ◌≢◌, ◌-◌, ℕ, zero, suc, true, List, [], None, is_some, length}
use Rattle.nvm_board.specs.Aims.{FitPages}
use Rattle.nvm_board.specs.Facts.{Facts}
use Rattle.nvm_board.specs.History.{Run, replayed}
use Rattle.nvm_board.specs.Torn.{IsTornBy}
use Rattle.card_model.specs.declared.space.FreeSpace.{FreeSpace}
use Rattle.bench_turns.specs.declared.turn.Turn.{Turn}
use Rattle.bench_turns.specs.declared.turn.Turn.TheVariants as turn
use Rattle.bench_turns.specs.declared.turn.Item.{Item}
use Rattle.bench_turns.specs.declared.turn.Item.TheVariants.{Dark}
use Rattle.bench_turns.specs.BenchStates.{BenchState, off, on, bench_facts, IsArmed}
use Rattle.command_base.specs.Finding.{HasCard}
use Rattle.bench_turns.specs.Plays.{IsGood}
use Rattle.bench_turns.specs.Turns.{GoodTurn, Runs}
use Rattle.bench_turns.specs.CardBlocks.{IsBlockStage}
use Rattle.card_model.specs.Cards.{card_space, Card}
use Rattle.card_start.specs.Running.{card_found}
use Rattle.t1_link.specs.CardTable.{link_step}
use Rattle.card_sweeps.specs.Tallies.{Finding}

-- a bench with this board, power off
abbrev pub off_with : Facts → BenchState
off_with facts = off (record facts { dark = true })

-- the board taken from a bench
abbrev pub board_left : BenchState → Facts
board_left b = record (bench_facts b) { dark = true }

-- the free space that a run reports: that of the card state after recovery; zero with power off
abbrev pub free_of : BenchState → FreeSpace
free_of (off facts) = record { blocks = 0; entries = 0 }
free_of (on powered) = card_space (card_found powered.card)

-- Turns are played on a board. Power is off before the first turn, and after the last one.
pub record PlaysOn (board : Facts) (turns : List Turn) (trace : List Item) (left : Facts) : Type 0 where
  pub last : BenchState
  pub runs : Runs (off_with board) turns trace last
  pub left_is : left ≡ board_left last
  pub has_card : HasCard left.words

-- What a sweep cuts: on copies of a board, a turn after a preparation.
pub record SweptTurn : Type 0 where
  pub board : Facts
  pub prepare : List Turn
  pub turn : Turn

-- power-on of this board, without a preparation
abbrev pub start_on : Facts → SweptTurn
start_on board = record { board = board; prepare = []; turn = turn.On }

-- A turn is cut at this write, with this mask: the preparation runs on the board, the cut is set, and power is lost in
-- the turn. No cut is pending afterwards.
pub record CutsTurn (number mask : ℕ) (swept : SweptTurn) (left : Facts) : Type 0 where
  pub trace : List Item
  pub prepared : BenchState
  pub armed : BenchState
  pub last : BenchState
  pub before : Runs (off_with swept.board) swept.prepare trace prepared
  pub arm : IsArmed number mask prepared armed
  pub good : IsGood armed
  pub good_left : IsGood last
  pub cut : GoodTurn armed swept.turn Dark last
  pub left_is : left ≡ board_left last
  pub fired : left.pending ≡ None
  pub has_card : HasCard left.words

-- A cut at this write leaves this memory: that of whole runs, each within a page and no more than the writes before it,
-- with exactly the words of the mask new in one run more.
pub record LeavesTorn (number mask : ℕ) (before left : List ℕ) : Type 0 where
  pub whole : List Run
  pub few : length whole ≤ number - 1
  pub pages : FitPages whole
  pub at : ℕ
  pub run : List ℕ
  pub torn : IsTornBy mask (replayed before whole) at run left

-- The turn makes fewer writes, so that a cut set for this one, with this mask, doesn't happen in it.
pub record SparesTurn (number mask : ℕ) (swept : SweptTurn) : Type 0 where
  pub trace : List Item
  pub item : Item
  pub prepared : BenchState
  pub armed : BenchState
  pub last : BenchState
  pub before : Runs (off_with swept.board) swept.prepare trace prepared
  pub arm : IsArmed number mask prepared armed
  pub good : IsGood armed
  pub good_left : IsGood last
  pub played : GoodTurn armed swept.turn item last
  pub spared : (item ≢ Dark) ⊎ (is_some (bench_facts last).pending ≡ true)

-- The turn doesn't make this write: whatever the mask of a cut at it, a run is allowed in which no cut happens.
abbrev pub IsUnmade : ℕ → SweptTurn → Type 0
IsUnmade number swept = (mask : ℕ) → SparesTurn number mask swept

-- The turn makes fewer writes, and leaves this memory.
abbrev pub EndsUncut : ℕ → ℕ → SweptTurn → List ℕ → Type 0
EndsUncut number mask swept memory =
    (s : SparesTurn number mask swept) × (memory ≡ (bench_facts s.last).words)

-- The turn doesn't make this write, and leaves this memory.
pub record EndsBefore (number : ℕ) (swept : SweptTurn) (memory : List ℕ) : Type 0 where
  pub unmade : IsUnmade number swept
  pub uncut : EndsUncut number 0 swept memory

-- a power-on is cut at this write, with this mask
abbrev pub CutsStart : ℕ → ℕ → Facts → Facts → Type 0
CutsStart number mask board left = CutsTurn number mask (start_on board) left

-- power-on makes fewer writes, so that a cut set for this one doesn't happen in it
abbrev pub SparesStart : ℕ → ℕ → Facts → Type 0
SparesStart number mask board = SparesTurn number mask (start_on board)

-- `n` power-ons are cut in order, each at some write
unfoldable pub CutsStarts : ℕ → Facts → Facts → Type 0
CutsStarts zero board left = left ≡ board
CutsStarts (suc n) board left =
    (number mask : ℕ) × (between : Facts) × CutsStart number mask board between × CutsStarts n between left

-- The end of a run: a power-on, the free space, and the probe. The sweep sets no cut for this power-on. A cut that was
-- pending on the board may still come.
pub record EndsIn (board : Facts) (probe : List Turn) (given : Finding) : Type 0 where
  pub item : Item
  pub started : BenchState
  pub last : BenchState
  pub start : GoodTurn (off_with board) turn.On item started
  pub free : given.free ≡ free_of started
  pub probed : Runs started probe given.trace last

-- After a cut, up to `depth` power-ons are cut, or until one makes no write. Then the run ends.
pub record EndsBehindStarts (depth : ℕ) (board : Facts) (probe : List Turn) (given : Finding) : Type 0 where
  pub starts : ℕ
  pub few : starts ≤ depth
  pub left : Facts
  pub cut : CutsStarts starts board left
  pub done : (starts ≡ depth) ⊎ SparesStart 1 0 left
  pub end : EndsIn left probe given

-- A run of a sweep has this finding.
pub record GivenByRun (swept : SweptTurn) (probe : List Turn) (depth : ℕ) (given : Finding) : Type 0 where
  pub number : ℕ
  pub mask : ℕ
  pub left : Facts
  pub cut : CutsTurn number mask swept left
  pub rest : EndsBehindStarts depth left probe given

-- the card is a stage of this command, which the bench takes as a block
abbrev pub IsStageOf : BenchState → List ℕ → Card → Type 0
IsStageOf (off facts) command card = ⊥
IsStageOf (on powered) command card = IsBlockStage powered (link_step powered.link command).reaction card
