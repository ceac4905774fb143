-- What is told of the free space is printed.
use Rattle.std.proofs.Common.{◌≡◌, None, Option, Some, ap}
use Rattle.card_model.specs.declared.space.FreeSpace.{FreeSpace}
use Rattle.bench_turns.specs.BenchStates.{BenchState, off, on, TellsFree}
use Rattle.card_bench.specs.Performing.{free_shown}
use Rattle.bench_turns.specs.Plays.{IsGood}
use Rattle.bench_lines.specs.Printouts.{Print, prints_free, prints_mute}

abbrev told_print : Option FreeSpace → Print
told_print None = prints_mute
told_print (Some free) = prints_free free

-- with power on the card works, since the board counts no fault
pub free-told : (b : BenchState) (free : FreeSpace) → IsGood b → TellsFree b (Some free)
    → prints_free free ≡ free_shown b
free-told (off facts) free good tells = absurd cc
free-told (on powered) free good tells = ap told_print (tells.1 good.well)

-- with power off nothing is told
pub none-told : (b : BenchState) → TellsFree b None → prints_mute ≡ free_shown b
none-told (off facts) tells = ap (λ (o : Option FreeSpace). prints_mute) tells
none-told (on powered) tells = let none = tells.0 in absurd cc
