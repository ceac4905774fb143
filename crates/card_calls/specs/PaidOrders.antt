-- The images that pay for the comparisons of an order: those with its first write, and the one with all writes.
use Rattle.std.specs.Prelude.{◌≡◌, List, [], ◌∷◌, Option, None, Some, take}
use Rattle.nvm_board.specs.History.{Run, replayed}
use Rattle.command_base.specs.Comparing.{Comparisons}
use Rattle.bench_lines.specs.Orders.{Order}
use Rattle.bench_turns.specs.BenchStates.{bench_facts}
use Rattle.bench_turns.specs.Guessing.{PaysFor}
use Rattle.card_bench.specs.Charges.{RunsToFirst}
use Rattle.card_bench.specs.Exchanges.{Desk}
use Rattle.card_calls.specs.Devices.{logs_none}
use Rattle.card_calls.specs.declared.device.TheConstants.{TWIN_WRITES}

-- the runs begin with this one; without one there are none
abbrev pub IsLedBy : Option Run → List Run → Type 0
IsLedBy first [] = first ≡ None
IsLedBy first (run ∷ runs) = first ≡ Some run

-- An order with a charge made these device writes, and these comparisons are counted after it. The image with the first
-- write is one that a loss of power in that write leaves. By `ahead` of `IsPerformed` it pays for all comparisons of
-- the order, and so does each image with more of the writes. Without a comparison the image with all writes pays too.
pub record PaidInOrder (order : Order) (was : Desk) (runs : List Run) (made : Comparisons) : Type 0 where
  pub first : RunsToFirst order was (logs_none TWIN_WRITES) (replayed (bench_facts was.bench).words (take 1 runs))
  pub all : PaysFor was.bench (replayed (bench_facts was.bench).words runs) made
