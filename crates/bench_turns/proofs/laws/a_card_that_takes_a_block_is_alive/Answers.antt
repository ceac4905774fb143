use Rattle.std.proofs.Common.{◌≡◌, ◌⊎◌, List, ℕ, inl}
use Rattle.card_start.specs.declared.state.CardState.TheVariants.{Working, Failed}
use Rattle.bench_turns.specs.declared.turn.Item.{Item}
use Rattle.bench_turns.specs.declared.turn.Item.TheVariants.{Atr, Quiet, Mute, Dark, Reply}
use Rattle.bench_turns.specs.BenchStates.{BenchState, off, on}
use Rattle.bench_turns.specs.CardBlocks.{Powered}
use Rattle.bench_turns.specs.FaultTurns.{TakesBlockOrFails}
use Rattle.bench_turns.proofs.laws.a_card_that_takes_a_block_is_alive.Goals as goal

alive : (old : Powered) (got : List ℕ) (item : Item) (new : BenchState) → TakesBlockOrFails (on old) got item new
    → (old.card.state ≡ Working) ⊎ (old.card.state ≡ Failed)
alive old got Atr new takes = absurd takes
alive old got Quiet new takes = absurd takes
alive old got Mute new takes = absurd takes
alive old got Dark new takes = inl takes.0
alive old got (Reply block) (off facts) takes = absurd takes
alive old got (Reply block) (on new) takes = takes.alive

pub returns : goal.returns
returns c = record { alive = alive }
