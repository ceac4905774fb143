-- The state of a bench, from its field.
use Rattle.std.specs.Prelude.{◌≡◌, ◌≢◌, true}
use Rattle.nvm_board.specs.Facts.{Facts}
use Rattle.card_start.specs.declared.state.CardState.TheVariants.{Dark}
use Rattle.command_base.specs.Comparing.{comparisons}
use Rattle.card_turns.specs.declared.playing.Power.{Power}
use Rattle.card_turns.specs.declared.playing.Power.TheVariants.{Off, On}
use Rattle.bench_turns.specs.BenchStates.{BenchState, HasEachCount, off, on}

abbrev pub power_state : {B : Type 0} → (B → Facts) → Power B → BenchState
power_state facts (Off board) = off (facts board)
power_state facts (On powered) = on powered

-- with power off the board is dark; a powered card isn't dark, and its board counts each secret
abbrev pub IsPowerKept : {B : Type 0} → (B → Facts) → Power B → Type 0
IsPowerKept facts (Off board) = (facts board).dark ≡ true
IsPowerKept facts (On powered) = (powered.card.state ≢ Dark) × HasEachCount (comparisons powered.card.facts)
