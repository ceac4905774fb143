-- The values of an exchange, from the code's values: blocks are in buffers, and the answer is in the reader's end.
use Rattle.std.specs.Prelude.{List, ℕ, Result, Ok, Err}
use Rattle.core.specs.declared.ops.ControlFlow.{ControlFlow}
use Rattle.core.specs.declared.ops.ControlFlow.TheVariants.{Continue, Break}
use Rattle.t1_link.specs.declared.reader_end.Next.{Next}
use Rattle.t1_link.specs.declared.reader_end.Next.TheVariants.{Send, Done, Unknown, Failed}
use Rattle.card_bench.specs.declared.reader_turns.Toward.{Toward}
use Rattle.card_bench.specs.declared.reader_turns.Toward.TheVariants.{Card, Reader}
use Rattle.card_bench.specs.declared.reader_turns.Ending.{Ending}
use Rattle.card_bench.specs.declared.reader_turns.Ending.TheVariants.{Answered, SetBack, Lost, Dark}
use Rattle.card_bench.specs.declared.reader_turns.Blocks.{Blocks}
use Rattle.bench_turns.specs.BenchStates.{BenchState, IsOn}
use Rattle.bench_turns.specs.Plays.{IsGood}
use Rattle.card_bench.specs.Exchanges.{Ended, NextBlock, answered, link_lost, power_lost, set_back}
use Rattle.card_bench.specs.Exchanges.{toward_card, toward_reader}

-- A good bench with power.
pub record HasPower (bench : BenchState) : Type 0 where
  pub good : IsGood bench
  pub power : IsOn bench

-- the next block on the line
abbrev pub next_block : Toward → Blocks → NextBlock
next_block Card blocks = toward_card blocks.toward_card
next_block Reader blocks = toward_reader blocks.toward_reader

-- how an exchange ends, with the answer that the reader's end stores
abbrev pub ended_of : Ending → List ℕ → Ended
ended_of Answered answer = answered answer
ended_of SetBack answer = set_back
ended_of Lost answer = link_lost
ended_of Dark answer = power_lost

-- the next block, or the end of the exchange
abbrev pub follows_of : ControlFlow Ending Toward → Blocks → List ℕ → Result NextBlock Ended
follows_of (Continue toward) blocks answer = Ok (next_block toward blocks)
follows_of (Break ending) blocks answer = Err (ended_of ending answer)

-- the step after the reader's end returned: its block goes to the card, or the exchange ends
abbrev pub flow_of : Next → ControlFlow Ending Toward
flow_of Send = Continue Card
flow_of Done = Break Answered
flow_of Unknown = Break SetBack
flow_of (Failed failure) = Break Lost
