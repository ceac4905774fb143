-- What lines take of a board's counts, and that no count comes to its end where enough is left before.
use Rattle.std.specs.Prelude.{◌≡◌, ◌≤◌, ◌<◌, ◌+◌, ◌*◌, ℕ, zero, suc, List, [], ◌∷◌, length}
use Rattle.std.specs.Prelude.{replicate}
use Rattle.std.specs.Prelude.{All, Option, None, Some, Result, Ok, Err}
use Rattle.std.proofs.Common.{arith, ap, inl, inr, subst, sym}
use Rattle.std.proofs.lemmas.List.Elements.{All-replicate}
use Rattle.nvm_board.specs.declared.board.Arm.{Arm}
use Rattle.nvm_board.specs.declared.board.TheConstants.{COUNT_END, SECRETS}
use Rattle.nvm_board.specs.Facts.{Facts}
use Rattle.t1_link.specs.ReaderTable.{Reader}
use Rattle.command_base.specs.declared.spending.TheConstants.{COMMAND_WRITES}
use Rattle.card_bench.specs.Exchanges.{Ended}
use Rattle.card_bench.specs.Exchanges.{answered, set_back, link_lost, power_lost}
use Rattle.card_bench.specs.declared.reader_turns.TheConstants.{LINE_BLOCKS}
use Rattle.bench_lines.specs.Orders.{Order}
use Rattle.bench_lines.specs.Orders.{Nothing, On, Off, Free, Apdu, Block, Cut, Lose, Garble}
use Rattle.bench_turns.specs.declared.turn.Item.TheVariants as item
use Rattle.bench_turns.specs.declared.turn.Turn.{Turn}
use Rattle.bench_turns.specs.declared.turn.Turn.TheVariants as turn
use Rattle.bench_lines.specs.declared.reading.TheConstants.{SCRIPT_LIMIT}
use Rattle.bench_turns.specs.BenchStates.{BenchState, off, on, bench_facts, with_facts}
use Rattle.card_bench.specs.Exchanges.{Arrives, CardTakes, Commands, Desk, Ends, Exchanges, GoesThrough, NextBlock}
use Rattle.card_bench.specs.Exchanges.{toward_card, toward_reader}
use Rattle.bench_turns.specs.Lasting.{HasLeft}
use Rattle.card_bench.specs.Performing.{Performs, PerformsCommand}
use Rattle.bench_lines.specs.Printouts.{Print}
use Rattle.card_bench.proofs.ChargeLaws.{left_charged}
use Rattle.card_bench.specs.Prints.{IsFirstDesk, PrintsLines}
use Rattle.bench_turns.specs.Turns.{turn_steps}
use Rattle.bench_turns.proofs.Wearing.{fewer, few-steps, turn-lasts, block-lasts, stays-last}

-- a block that goes on the line
takes-last : (n : ℕ) (old new : BenchState) (got : List ℕ) (follows : Result NextBlock Ended)
    → CardTakes old got new follows → HasLeft (n + COMMAND_WRITES) (bench_facts old) → HasLeft n (bench_facts new)
takes-last n old new got (Ok (toward_card bytes)) takes left = absurd takes
takes-last n old new got (Ok (toward_reader bytes)) takes left = block-lasts n old new got (item.Reply bytes) takes
    left
takes-last n old new got (Err (answered answer)) takes left = absurd takes
takes-last n old new got (Err set_back) takes left = absurd takes
takes-last n old new got (Err link_lost) takes left = absurd takes
takes-last n old new got (Err power_lost) takes left = block-lasts n old new got item.Dark takes left

pub arrives-last : (n : ℕ)
    (old new : Ends) (way : NextBlock) (came : Option (List ℕ)) (follows : Result NextBlock Ended)
    → Arrives old way came new follows → HasLeft (n + COMMAND_WRITES) (bench_facts old.bench)
    → HasLeft n (bench_facts new.bench)
arrives-last n old new way None follows arrives left = stays-last n COMMAND_WRITES old.bench new.bench arrives.0 left
arrives-last n old new (toward_card block) (Some got) follows arrives left =
    takes-last n old.bench new.bench got follows arrives.1 left
arrives-last n old new (toward_reader block) (Some got) follows arrives left =
    stays-last n COMMAND_WRITES old.bench new.bench arrives.0 left

exchange-lasts : (n blocks : ℕ) (old new : Ends) (way : NextBlock) (ending : Ended)
    → Exchanges blocks old way new ending → HasLeft (n + COMMAND_WRITES * blocks) (bench_facts old.bench)
    → HasLeft n (bench_facts new.bench)
unfolding Exchanges
exchange-lasts n zero old new way ending run left =
    stays-last n (COMMAND_WRITES * 0) old.bench new.bench (ap (λ (e : Ends). e.bench) run.0) left
exchange-lasts n (suc blocks) old new way ending (inl passes) left =
    arrives-last n old new way _ (Err ending) passes.arrives
    (fewer (n + COMMAND_WRITES * suc blocks) (n + COMMAND_WRITES) (bench_facts old.bench) (omega arith) left)
exchange-lasts n (suc blocks) old new way ending (inr more) left =
    exchange-lasts n blocks more.0 new more.1 ending more.3
    (arrives-last (n + COMMAND_WRITES * blocks) old more.0 way _ (Ok more.1) more.2.arrives
    (fewer (n + COMMAND_WRITES * suc blocks) (n + COMMAND_WRITES * blocks + COMMAND_WRITES) (bench_facts old.bench)
    (omega arith) left))

-- a line of a script puts at most 1,000 blocks on the line
abbrev pub LINE_STEPS : ℕ
LINE_STEPS = COMMAND_WRITES * LINE_BLOCKS

through-lasts : (n : ℕ) (old new : Ends) (first : Result NextBlock Ended) (ending : Ended)
    → GoesThrough first old new ending → HasLeft (n + LINE_STEPS) (bench_facts old.bench)
    → HasLeft n (bench_facts new.bench)
through-lasts n old new (Ok way) ending through left = exchange-lasts n LINE_BLOCKS old new way ending through left
through-lasts n old new (Err ended) ending through left =
    stays-last n LINE_STEPS old.bench new.bench (ap (λ (e : Ends). e.bench) through.0) left

commands-last : (n : ℕ) (old new : Desk) (reader : Option Reader) (command : List ℕ) (prints : Print)
    → Commands old reader command new prints → HasLeft (n + LINE_STEPS) (bench_facts old.bench)
    → HasLeft n (bench_facts new.bench)
commands-last n old new None command prints commands left =
    stays-last n LINE_STEPS old.bench new.bench (ap (λ (d : Desk). d.bench) commands.0) left
commands-last n old new (Some reader) command prints commands left =
    through-lasts n _ (record { bench = new.bench; reader = commands.0; line = new.line }) _ commands.1 commands.2 left

command-lasts : (n : ℕ) (b : BenchState) (old new : Desk) (command : List ℕ) (prints : Print)
    → PerformsCommand b old command new prints → HasLeft (n + LINE_STEPS) (bench_facts old.bench)
    → HasLeft n (bench_facts new.bench)
command-lasts n (off facts) old new command prints performs left =
    stays-last n LINE_STEPS old.bench new.bench (ap (λ (d : Desk). d.bench) performs.0) left
command-lasts n (on powered) old new command prints performs left =
    commands-last n old new old.reader command prints performs left

-- a cut that is set to come
armed-lasts : (n : ℕ) (b : BenchState) (due : ℕ) (pending : Option Arm) → HasLeft n (bench_facts b)
    → HasLeft n (bench_facts (with_facts b (record (bench_facts b) { due = due; pending = pending })))
armed-lasts n (off facts) due pending left = record {
  faults = left.faults;
  cuts = left.cuts;
  writes = left.writes;
  compares = left.compares;
  matches = left.matches;
}
armed-lasts n (on powered) due pending left = record {
  faults = left.faults;
  cuts = left.cuts;
  writes = left.writes;
  compares = left.compares;
  matches = left.matches;
}

-- with more left than a turn may take
pub turn-left : (n : ℕ) (b : BenchState) (t : Turn) → HasLeft (n + LINE_STEPS) (bench_facts b)
    → HasLeft (n + turn_steps b t) (bench_facts b)
turn-left n b t left =
    let few = few-steps b t in fewer (n + LINE_STEPS) (n + turn_steps b t) (bench_facts b) (omega (arith, few)) left

block-left : (n : ℕ) (f : Facts) → HasLeft (n + LINE_STEPS) f → HasLeft (n + COMMAND_WRITES) f
block-left n f left = fewer (n + LINE_STEPS) (n + COMMAND_WRITES) f (omega arith) left

line-lasts : (n : ℕ) (order : Order) (old new : Desk) (prints : Print) → Performs order old new prints
    → HasLeft (n + LINE_STEPS) (bench_facts old.bench) → HasLeft n (bench_facts new.bench)
line-lasts n Nothing old new prints performs left =
    stays-last n LINE_STEPS old.bench new.bench (ap (λ (d : Desk). d.bench) performs.0) left
line-lasts n On old new prints performs left =
    turn-lasts n old.bench new.bench turn.On performs.outcome performs.turn (turn-left n old.bench turn.On left)
line-lasts n Off old new prints performs left =
    turn-lasts n old.bench new.bench turn.Off item.Quiet performs.turn (turn-left n old.bench turn.Off left)
line-lasts n Free old new prints performs left =
    stays-last n LINE_STEPS old.bench new.bench (ap (λ (d : Desk). d.bench) performs.0) left
line-lasts n (Apdu command) old new prints performs left =
    command-lasts n old.bench old new command prints performs left
line-lasts n (Block block) old new prints performs left =
    block-lasts n old.bench new.bench block performs.outcome performs.turn (block-left n (bench_facts old.bench) left)
line-lasts n (Cut number mask) old new prints performs left =
    let nearer = fewer (n + LINE_STEPS) n (bench_facts old.bench) (omega arith) left in
    subst (λ (b : BenchState). HasLeft n (bench_facts b)) (sym performs.armed.same) (armed-lasts n old.bench _ _
    nearer)
line-lasts n (Lose number) old new prints performs left =
    stays-last n LINE_STEPS old.bench new.bench (ap (λ (d : Desk). d.bench) performs.0) left
line-lasts n (Garble number) old new prints performs left =
    stays-last n LINE_STEPS old.bench new.bench (ap (λ (d : Desk). d.bench) performs.0) left

lines-last : (Stored Kept : Facts → Type 0) (n : ℕ) (first last : Desk) (some : List (List ℕ)) (out : List ℕ)
    → PrintsLines Stored Kept first some last out
    → HasLeft (n + LINE_STEPS * length some) (bench_facts first.bench) → HasLeft n (bench_facts last.bench)
unfolding PrintsLines
lines-last Stored Kept n first last [] out prints left =
    stays-last n (LINE_STEPS * 0) first.bench last.bench (ap (λ (d : Desk). d.bench) prints.0) left
lines-last Stored Kept n first last (line ∷ others) out prints left =
    lines-last Stored Kept n prints.1 last others prints.3 prints.7
    (line-lasts (n + LINE_STEPS * length others) prints.0 prints.5.charged prints.1 prints.2 prints.5.performs
    (left_charged (n + LINE_STEPS * length others + LINE_STEPS) prints.0 first prints.5.charged prints.5.charge
    (fewer (n + LINE_STEPS * length (line ∷ others)) (n + LINE_STEPS * length others + LINE_STEPS)
    (bench_facts first.bench) (omega arith) left)))

-- counts that are all 0
none-counted : (n : ℕ) (counts : List ℕ) → counts ≡ replicate SECRETS 0 → n < COUNT_END
    → All (λ c. c + n < COUNT_END) counts
none-counted n counts none few =
    subst (λ (l : List ℕ). All (λ c. c + n < COUNT_END) l) (sym none)
    (All-replicate (λ (c : ℕ). c + n < COUNT_END) SECRETS 0 (omega (arith, few)))

pub script-lasts : (Stored Kept : Facts → Type 0) (first last : Desk) (some : List (List ℕ)) (out : List ℕ)
    → IsFirstDesk first
    → PrintsLines Stored Kept first some last out → length some ≤ SCRIPT_LIMIT + 1
    → HasLeft LINE_STEPS (bench_facts last.bench)
script-lasts Stored Kept first last some out begins prints short =
    let counts = begins.counts in
    let none = begins.good.faults in
    let cuts = counts.cuts in
    let writes = counts.writes in
    let few : LINE_STEPS + LINE_STEPS * length some < COUNT_END = omega (arith, short) in
    lines-last Stored Kept LINE_STEPS first last some out prints (record {
      faults = omega (arith, none, short);
      cuts = omega (arith, cuts, short);
      writes = omega (arith, writes, short);
      compares = none-counted (LINE_STEPS + LINE_STEPS * length some) _ counts.compares few;
      matches = none-counted (LINE_STEPS + LINE_STEPS * length some) _ counts.matches few;
    })
