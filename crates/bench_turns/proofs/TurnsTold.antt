-- What came of a turn, as it is told.
use Rattle.std.specs.Prelude.{◌≡◌, List, ℕ}
use Rattle.std.proofs.Common.{◌∙◌, refl, sym}
use Rattle.core.specs.Borrow.{Bor}
use Rattle.nvm_board.specs.Aims.{due_of}
use Rattle.bench_turns.specs.declared.turn.Item.{Item}
use Rattle.bench_turns.specs.declared.turn.Item.TheVariants as item
use Rattle.bench_turns.specs.declared.turn.Turn.{Turn}
use Rattle.bench_turns.specs.declared.turn.Turn.TheVariants as turn
use Rattle.bench_turns.specs.declared.turn_result.TurnResult.{TurnResult}
use Rattle.bench_turns.specs.declared.turn_result.TurnResult.TheVariants as turned
use Rattle.bench_turns.specs.BenchStates.{BenchState, off, on, bench_facts, IsOn}
use Rattle.bench_turns.specs.Plays.{BringsNoFault, IsGood, Plays, PlaysBlock, TellsItem}
use Rattle.bench_turns.specs.Turns.{GoodBlock, GoodTurn, TakesBlock}

-- what holds of the item holds of it in other words
pub tells-so : (told : TurnResult) (block : List ℕ) (P Q : Item → Type 0) → ((i : Item) → P i → Q i)
    → TellsItem told block P
    → TellsItem told block Q
tells-so turned.Atr block P Q weaker holds = weaker item.Atr holds
tells-so turned.Quiet block P Q weaker holds = weaker item.Quiet holds
tells-so turned.Mute block P Q weaker holds = weaker item.Mute holds
tells-so turned.Dark block P Q weaker holds = weaker item.Dark holds
tells-so turned.Reply block P Q weaker holds = weaker (item.Reply block) holds

-- what follows whatever the item is
pub tells-then : (told : TurnResult) (block : List ℕ) (P : Item → Type 0) (R : Type 0) → ((i : Item) → P i → R)
    → TellsItem told block P → R
tells-then turned.Atr block P R then holds = then item.Atr holds
tells-then turned.Quiet block P R then holds = then item.Quiet holds
tells-then turned.Mute block P R then holds = then item.Mute holds
tells-then turned.Dark block P R then holds = then item.Dark holds
tells-then turned.Reply block P R then holds = then (item.Reply block) holds

-- a block is a turn
pub plays-block : (old new : BenchState) (got : Bor (List ℕ)) (i : Item) → PlaysBlock old got.now i new
    → Plays old (turn.Block got) i new
plays-block old new got i plays = record {
  has_card = plays.has_card;
  counts = plays.counts;
  well = plays.well;
  guesses = plays.guesses;
  ahead = plays.ahead;
  one = plays.one;
  any = plays.any;
  wears = λ before good. plays.wears good;
}

pub good-block : (old new : BenchState) (got : Bor (List ℕ)) (i : Item) → GoodTurn old (turn.Block got) i new
    → GoodBlock old got.now i new
good-block old new got i good =
    record {
      one = good.one;
      counts = good.counts;
      wears = good.wears;
      guesses = good.guesses;
      ahead = good.ahead;
    }

-- a turn on a board that counts no fault
module _ (told : TurnResult) (block : List ℕ) (old new : BenchState) (t : Turn) (faults : (bench_facts new).faults ≡ 0)
    (due : (bench_facts new).due ≡ due_of (bench_facts new).pending) (good : IsGood old) where
  none : BringsNoFault old new
  none = record { faults = faults ∙ sym good.faults; well = good.well }

  stays-good : (i : Item) → Plays old t i new → IsGood new
  stays-good i plays =
      record { has_card = plays.has_card good.has_card; faults = faults; due = due; well = plays.well none }

  plays-good : (i : Item) → Plays old t i new → GoodTurn old t i new
  plays-good i plays = record {
    one = plays.one good.has_card none;
    counts = plays.counts;
    wears = plays.wears good.has_card none;
    guesses = plays.guesses;
    ahead = plays.ahead;
  }

  pub good-turn : TellsItem told block (λ i. Plays old t i new)
      → IsGood new × TellsItem told block (λ i. GoodTurn old t i new)
  good-turn plays = (
    tells-then told block (λ i. Plays old t i new) (IsGood new) stays-good plays,
    tells-so told block (λ i. Plays old t i new) (λ i. GoodTurn old t i new) plays-good plays,
  )

-- with power on a block comes back, and power stays on
pub replies-on : (old new : BenchState) (got block : List ℕ) → IsOn old
    → TakesBlock old got (item.Reply block) new → IsOn new
replies-on (off facts) new got block power takes = absurd power
replies-on (on powered) (off facts) got block power takes = absurd takes
replies-on (on powered) (on after) got block power takes = tt

-- with power on, a block without a reply is one in which power was lost
pub lost-so : (told : TurnResult) (block got : List ℕ) (old new : BenchState) → IsOn old
    → TellsItem told block (λ i. GoodBlock old got i new) → (told ≡ turned.Reply → ⊥) → GoodBlock old got item.Dark new
lost-so told block got (off facts) new power good silent = absurd power
lost-so turned.Atr block got (on powered) new power good silent = absurd good.one
lost-so turned.Quiet block got (on powered) new power good silent = absurd good.one
lost-so turned.Mute block got (on powered) new power good silent = absurd good.one
lost-so turned.Dark block got (on powered) new power good silent = good
lost-so turned.Reply block got (on powered) new power good silent = absurd (silent refl)
