-- The values of both ends and the line, from the code's fields.
use Rattle.card_bench.specs.declared.exchange.Ends.{Ends as BenchEnds}
use Rattle.bench_turns.specs.BenchStates.{BenchState}
use Rattle.card_bench.specs.Exchanges.{Ends}

-- both ends and the line, with the state of the bench
abbrev pub ends_of : {P B : Type 0} → (P → BenchState) → BenchEnds P B → Ends
ends_of state ends = record { bench = state ends.bench; reader = ends.reader; line = ends.line }
