-- The state of a bench: a board with power off, or a powered card with its end of the link.
use Rattle.std.specs.Prelude.{◌≡◌, true, false, Option, None, Some, IsSome, ◌≤◌, ◌-◌, ℕ, length}
use Rattle.nvm_board.specs.declared.board.TheConstants.{SECRETS}
use Rattle.nvm_board.specs.Facts.{Facts}
use Rattle.card_start.specs.declared.state.CardState.TheVariants.{Working}
use Rattle.card_model.specs.Cards.{Card, card_space}
use Rattle.command_base.specs.Comparing.{Comparisons}
use Rattle.command_base.specs.Finding.{HasCard, found}
use Rattle.card_start.specs.Running.{card_found}
use Rattle.card_model.specs.Sessions.{fresh_session}
use Rattle.card_model.specs.declared.space.FreeSpace.{FreeSpace}
use Rattle.t1_link.specs.CardTable.{fresh}
use Rattle.bench_turns.specs.CardBlocks.{Powered}

pub data BenchState : Type 0 where
  off : Facts → BenchState
  on : Powered → BenchState

-- what contracts state about its board
abbrev pub bench_facts : BenchState → Facts
bench_facts (off facts) = facts
bench_facts (on powered) = powered.card.facts

-- its memory has a card state after recovery
abbrev pub BenchHasCard : BenchState → Type 0
BenchHasCard b = HasCard (bench_facts b).words

-- the card state after recovery of its memory
abbrev pub bench_card : BenchState → Card
bench_card b = found (bench_facts b).words

-- each secret has its counters
pub record HasEachCount (counts : Comparisons) : Type 0 where
  pub compares : length counts.compares ≡ SECRETS
  pub matches : length counts.matches ≡ SECRETS

-- power is off
abbrev pub IsOff : BenchState → Type 0
IsOff (off facts) = facts.dark ≡ true
IsOff (on powered) = ⊥

-- the bench with power off, with its board otherwise unchanged
abbrev pub switched_off : BenchState → BenchState
switched_off b = off (record (bench_facts b) { dark = true })

-- power is on
abbrev pub IsOn : BenchState → Type 0
IsOn (off facts) = ⊥
IsOn (on powered) = Unit {0}

-- power is on, also on the board, with a fresh session and a fresh link, and the card works
abbrev pub IsFresh : BenchState → Type 0
IsFresh (off facts) = ⊥
IsFresh (on powered) =
    (powered.card.session ≡ fresh_session) × (powered.link ≡ fresh)
    × (powered.card.state ≡ Working) × (powered.card.facts.dark ≡ false)

-- no fault since power-on
abbrev pub IsWell : BenchState → Type 0
IsWell (off facts) = Unit {0}
IsWell (on powered) = powered.card.state ≡ Working

-- no fault between these two states, nor earlier since power-on
pub record BringsNoFault (old new : BenchState) : Type 0 where
  pub faults : (bench_facts new).faults ≡ (bench_facts old).faults
  pub well : IsWell old

-- The reported free space: none with power off. With power on it is that of the card state after recovery, as long as
-- the memory hasn't failed.
abbrev pub TellsFree : BenchState → Option FreeSpace → Type 0
TellsFree (off facts) told = told ≡ None
TellsFree (on powered) told = IsSome told × (powered.card.state ≡ Working
    → told ≡ Some (card_space (card_found powered.card)))

-- the bench with these facts of its board
abbrev pub with_facts : BenchState → Facts → BenchState
with_facts (off was) facts = off facts
with_facts (on powered) facts = on (record powered { card = record powered.card { facts = facts } })

-- Power is to be lost during the write with this number, counted from 1. Bit i of the mask says whether word i of it is
-- new. Nothing else changes, and at most one power cut is due.
pub record IsArmed (number mask : ℕ) (old new : BenchState) : Type 0 where
  pub due : (bench_facts new).due ≤ 1
  pub same : new ≡ with_facts old (record (bench_facts old) {
    due = (bench_facts new).due;
    pending = Some record { whole_writes = number - 1; mask = mask };
  })
