-- A desk whose two ends are in step. An order that can't compare a PIN counts no comparison there.
use Rattle.std.specs.Prelude.{◌≡◌, List, Option, None, Some}
use Rattle.t1_link.specs.ReaderTable.{Reader}
use Rattle.t1_link.specs.TreeMachine.{IsProperState, Served}
use Rattle.t1_link.specs.Worlds.{Event}
use Rattle.command_base.specs.Comparing.{comparisons}
use Rattle.bench_lines.specs.Orders.{IsOrderSized, Order}
use Rattle.bench_lines.specs.Printouts.{Print}
use Rattle.bench_lines.specs.Spellings.{IsOrderOfBytes}
use Rattle.bench_turns.specs.BenchStates.{BenchHasCard, bench_facts}
use Rattle.card_bench.specs.Charges.{MayCompare}
use Rattle.card_bench.specs.Exchanges.{Desk}
use Rattle.card_bench.specs.Performing.{Performs}
use Rattle.card_bench.specs.ScriptWorlds.{IsInWorld}

-- Some events since power-on left both ends as they are, and no block is under way.
pub record IsInSomeWorld (d : Desk) : Type 0 where
  pub start : Served
  pub proper : IsProperState start
  pub events : List Event
  pub in_world : IsInWorld start events d

-- the same of a desk with a reader's end; without one no command is sent
abbrev pub InStepBy : Option Reader → Desk → Type 0
InStepBy None d = Unit {0}
InStepBy (Some reader) d = IsInSomeWorld d

-- If a command may be sent, both ends are in step.
abbrev pub IsInStep : Desk → Type 0
IsInStep d = InStepBy d.reader d

-- An order leaves both ends in step.
abbrev pub InStepLaw : Type 0
InStepLaw = (order : Order) (old new : Desk) (prints : Print) → IsInStep old → IsOrderSized order
    → IsOrderOfBytes order → BenchHasCard new.bench → Performs order old new prints → IsInStep new

-- An order that can't compare a PIN counts no comparison and no match.
abbrev pub ComparesNoneLaw : Type 0
ComparesNoneLaw = (order : Order) (old new : Desk) (prints : Print) → IsInStep old → IsOrderSized order
    → IsOrderOfBytes order → ¬ MayCompare order → Performs order old new prints
    → comparisons (bench_facts new.bench) ≡ comparisons (bench_facts old.bench)
