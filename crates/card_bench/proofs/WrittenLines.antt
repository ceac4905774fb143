-- The device writes of each script line, from those of its turns.
use Rattle.std.specs.Prelude.{◌≡◌, ◌≤◌, ◌+◌, ◌*◌, ◌-◌, ℕ, zero, suc, List, length, Option, None, Some, Result, Ok}
use Rattle.std.specs.Prelude.{Err}
use Rattle.std.proofs.Common.{refl, sym, ap, subst, inl, inr, arith}
use Rattle.nvm_board.specs.Aims.{WritesRuns, events}
use Rattle.nvm_board.specs.laws.History.{wrote_none, wrote_same, wrote_then}
use Rattle.t1_link.specs.ReaderTable.{Reader, reader_sends}
use Rattle.bench_lines.specs.Orders.{Order, Nothing, On, Off, Free, Apdu, Block, Cut, Lose, Garble}
use Rattle.command_base.specs.declared.spending.TheConstants.{COMMAND_WRITES}
use Rattle.bench_turns.specs.BenchStates.{BenchState, off, on, bench_facts, with_facts, IsArmed}
use Rattle.bench_turns.specs.declared.turn.Item.{Item}
use Rattle.bench_turns.specs.declared.turn.Turn.{Turn}
use Rattle.bench_turns.specs.Turns.{GoodBlock, GoodTurn, Spends, Wears, dark_of, turn_writes}
use Rattle.bench_turns.proofs.Wearing.{few-steps, few-writes, one-dark}
use Rattle.card_bench.specs.Exchanges.{Arrives, CardTakes, Commands, Desk, Ended, Ends, Exchanges, GoesThrough}
use Rattle.card_bench.specs.Exchanges.{NextBlock, Passes, answered, bytes_under_way}
use Rattle.card_bench.specs.Exchanges.{following, link_lost, power_lost}
use Rattle.card_bench.specs.Exchanges.{set_back, toward_card, toward_reader}
use Rattle.card_bench.specs.declared.reader_turns.TheConstants.{LINE_BLOCKS}
use Rattle.card_bench.specs.Lines.{arriving}
use Rattle.card_bench.specs.Performing.{Performs, PerformsCommand}
use Rattle.bench_lines.specs.Printouts.{Print}

-- the device writes, and how many they are at most
pub record WritesFew (most : ℕ) (old new : BenchState) : Type 0 where
  pub wrote : WritesRuns (bench_facts old) (bench_facts new)
  pub few : length wrote.runs ≤ most

-- the device writes, and how many events the board counted at most
record Counts (most : ℕ) (old new : BenchState) : Type 0 where
  wrote : WritesRuns (bench_facts old) (bench_facts new)
  few : events (bench_facts new) ≤ events (bench_facts old) + most

-- the device writes of one script line are at most as many
abbrev pub line_runs : ℕ
line_runs = 4000 + (COMMAND_WRITES + 1) * LINE_BLOCKS

none-written : (most : ℕ) (old new : BenchState) → new ≡ old → Counts most old new
none-written most old new same =
    subst (λ (b : BenchState). Counts most old b) (sym same)
    (record { wrote = wrote_same (bench_facts old); few = omega arith })

none-at_desk : (most : ℕ) (old new : Desk) → new ≡ old → Counts most old.bench new.bench
none-at_desk most old new same = none-written most old.bench new.bench (ap (λ (d : Desk). d.bench) same)

more-written : (few most : ℕ) (old new : BenchState) → few ≤ most → Counts few old new → Counts most old new
more-written few most old new fits writes = record { wrote = writes.wrote; few = omega (arith, fits, writes.few) }

written-on : (n k : ℕ) (old between new : BenchState) → Counts n old between → Counts k between new
    → Counts (n + k) old new
written-on n k old between new first rest = record {
  wrote = wrote_then (bench_facts old) (bench_facts between) (bench_facts new) first.wrote rest.wrote;
  few = omega (arith, first.few, rest.few);
}

-- a write is counted, or it is the one in which power was lost
spent-few : (most lost : ℕ) (old new : BenchState) → lost ≤ 1 → Spends lost (bench_facts old) (bench_facts new)
    → Wears most (bench_facts old) (bench_facts new) → Counts (most + 1) old new
spent-few most lost old new once spends wears = record {
  wrote = spends.wrote;
  few = omega (arith, once, spends.cuts, wears.faults, wears.writes);
}

block-written : (old : BenchState) (got : List ℕ) (item : Item) (new : BenchState) → GoodBlock old got item new
    → Counts (COMMAND_WRITES + 1) old new
block-written old got item new good =
    spent-few COMMAND_WRITES (dark_of item) old new (one-dark item) good.counts good.wears

turn-written : (old : BenchState) (turn : Turn) (item : Item) (new : BenchState) → GoodTurn old turn item new
    → Counts line_runs old new
turn-written old turn item new good =
    let few = few-writes old turn in
    let steps = few-steps old turn in
    more-written (turn_writes old turn + 1) line_runs old new (omega (arith, few, steps))
    (spent-few (turn_writes old turn) (dark_of item) old new (one-dark item) good.counts good.wears)

armed-written : (most number mask : ℕ) (old new : BenchState) → IsArmed number mask old new → Counts most old new
armed-written most number mask old new armed =
    subst (λ (b : BenchState). Counts most old b) (sym armed.same) (with-written old)
  where
    with-written : (b : BenchState) → Counts most b (with_facts b (record (bench_facts b) {
      due = (bench_facts new).due;
      pending = Some (record { whole_writes = number - 1; mask = mask });
    }))
    with-written (off facts) = record { wrote = wrote_none _ _ refl refl (omega arith); few = omega arith }
    with-written (on powered) = record { wrote = wrote_none _ _ refl refl (omega arith); few = omega arith }

-- one block on the line
taken-written : (old : BenchState) (got : List ℕ) (new : BenchState) (follows : Result NextBlock Ended)
    → CardTakes old got new follows → Counts (COMMAND_WRITES + 1) old new
taken-written old got new (Ok (toward_card bytes)) takes = absurd takes
taken-written old got new (Ok (toward_reader bytes)) takes = block-written old got _ new takes
taken-written old got new (Err (answered answer)) takes = absurd takes
taken-written old got new (Err set_back) takes = absurd takes
taken-written old got new (Err link_lost) takes = absurd takes
taken-written old got new (Err power_lost) takes = block-written old got _ new takes

arrived-written : (old : Ends) (way : NextBlock) (arrived : Option (List ℕ)) (new : Ends)
    (follows : Result NextBlock Ended) → Arrives old way arrived new follows
    → Counts (COMMAND_WRITES + 1) old.bench new.bench
arrived-written old (toward_card block) None new follows arrives = none-written _ old.bench new.bench arrives.0
arrived-written old (toward_reader block) None new follows arrives = none-written _ old.bench new.bench arrives.0
arrived-written old (toward_card block) (Some got) new follows arrives =
    taken-written old.bench got new.bench follows arrives.1
arrived-written old (toward_reader block) (Some got) new follows arrives =
    none-written _ old.bench new.bench arrives.0

passed-written : (old : Ends) (way : NextBlock) (new : Ends) (follows : Result NextBlock Ended)
    → Passes old way new follows → Counts (COMMAND_WRITES + 1) old.bench new.bench
passed-written old way new follows passes =
    arrived-written old way (arriving old.line 0 (bytes_under_way way)) new follows passes.arrives

-- an exchange
exchanged-written : (blocks : ℕ) (old : Ends) (way : NextBlock) (new : Ends) (ending : Ended)
    → Exchanges blocks old way new ending → Counts ((COMMAND_WRITES + 1) * blocks) old.bench new.bench
unfolding Exchanges
exchanged-written zero old way new ending run =
    none-written _ old.bench new.bench (ap (λ (e : Ends). e.bench) run.0)
exchanged-written (suc blocks) old way new ending (inl passes) =
    more-written (COMMAND_WRITES + 1) _ old.bench new.bench (omega arith)
    (passed-written old way new (Err ending) passes)
exchanged-written (suc blocks) old way new ending (inr run) =
    more-written (COMMAND_WRITES + 1 + (COMMAND_WRITES + 1) * blocks) _ old.bench new.bench (omega arith)
    (written-on (COMMAND_WRITES + 1) ((COMMAND_WRITES + 1) * blocks) old.bench run.0.bench new.bench
    (passed-written old way run.0 (Ok run.1) run.2) (exchanged-written blocks run.0 run.1 new ending run.3))

through-written : (follows : Result NextBlock Ended) (old new : Ends) (ending : Ended)
    → GoesThrough follows old new ending → Counts line_runs old.bench new.bench
through-written (Ok first) old new ending run =
    more-written ((COMMAND_WRITES + 1) * LINE_BLOCKS) line_runs old.bench new.bench (omega arith)
    (exchanged-written LINE_BLOCKS old first new ending run)
through-written (Err ended) old new ending run =
    none-written line_runs old.bench new.bench (ap (λ (e : Ends). e.bench) run.0)

sent-written : (old : Desk) (reader : Option Reader) (command : List ℕ) (new : Desk) (prints : Print)
    → Commands old reader command new prints → Counts line_runs old.bench new.bench
sent-written old None command new prints run = none-at_desk line_runs old new run.0
sent-written old (Some reader) command new prints run =
    let turned = reader_sends reader command in
    through-written (following turned.outcome) (record { bench = old.bench; reader = turned.reader; line = old.line })
    (record { bench = new.bench; reader = run.0; line = new.line }) run.1 run.2

command-written : (b : BenchState) (old : Desk) (command : List ℕ) (new : Desk) (prints : Print)
    → PerformsCommand b old command new prints → Counts line_runs old.bench new.bench
command-written (off facts) old command new prints run = none-at_desk line_runs old new run.0
command-written (on powered) old command new prints run = sent-written old old.reader command new prints run

performed : (order : Order) (old new : Desk) (prints : Print) → Performs order old new prints
    → Counts line_runs old.bench new.bench
performed Nothing old new prints run = none-at_desk line_runs old new run.0
performed On old new prints run = turn-written _ _ _ _ run.turn
performed Off old new prints run = turn-written _ _ _ _ run.turn
performed Free old new prints run = none-at_desk line_runs old new run.0
performed (Apdu command) old new prints run = command-written old.bench old command new prints run
performed (Block block) old new prints run =
    more-written (COMMAND_WRITES + 1) line_runs old.bench new.bench (omega arith) (block-written _ _ _ _ run.turn)
performed (Cut number mask) old new prints run =
    armed-written line_runs number mask old.bench new.bench run.armed
performed (Lose number) old new prints run =
    none-written line_runs old.bench new.bench (ap (λ (d : Desk). d.bench) run.0)
performed (Garble number) old new prints run =
    none-written line_runs old.bench new.bench (ap (λ (d : Desk). d.bench) run.0)

-- each run is a counted event
pub performs_counted : (order : Order) (old new : Desk) (prints : Print) → Performs order old new prints
    → (wrote : WritesRuns (bench_facts old.bench) (bench_facts new.bench)) → length wrote.runs ≤ line_runs
performs_counted order old new prints run wrote =
    let counted = wrote.counted in let few = (performed order old new prints run).few in omega (arith, counted, few)

pub performs_wrote : (order : Order) (old new : Desk) (prints : Print) → Performs order old new prints
    → WritesFew line_runs old.bench new.bench
performs_wrote order old new prints run =
    let wrote = (performed order old new prints run).wrote in
    record { wrote = wrote; few = performs_counted order old new prints run wrote }
