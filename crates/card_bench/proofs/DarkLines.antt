-- Where a line prints that power was lost, a cut was due, and is gone.
use Rattle.std.specs.Prelude.{◌≡◌, ◌≤◌, ◌+◌, ◌*◌, ℕ, zero, suc, List, Option, None, Some, Result, Ok, Err, refl}
use Rattle.std.proofs.Common.{arith, ap, inl, inr, ◌∙◌}
use Rattle.t1_link.specs.ReaderTable.{Reader, reader_sends}
use Rattle.t1_link.specs.ReaderTable.{CommandReport, fails, gives, sends, unknown}
use Rattle.command_base.specs.declared.spending.TheConstants.{COMMAND_WRITES}
use Rattle.nvm_board.specs.declared.board.Arm.{Arm}
use Rattle.nvm_board.specs.Aims.{due_of}
use Rattle.bench_turns.specs.Plays.{IsGood}
use Rattle.card_bench.specs.Exchanges.{Ended}
use Rattle.card_bench.specs.Exchanges.{answered, set_back, link_lost, power_lost}
use Rattle.card_bench.specs.declared.reader_turns.TheConstants.{LINE_BLOCKS}
use Rattle.bench_lines.specs.Orders.{Order}
use Rattle.bench_lines.specs.Orders.{Nothing, On, Off, Free, Apdu, Block, Cut, Lose, Garble}
use Rattle.bench_turns.specs.declared.turn.Item.{Item}
use Rattle.bench_turns.specs.declared.turn.Item.TheVariants as item
use Rattle.bench_turns.specs.declared.turn.Turn.TheVariants as turn
use Rattle.bench_turns.specs.BenchStates.{BenchState, off, on, bench_facts}
use Rattle.card_bench.specs.Exchanges.{Arrives, CardTakes, Commands, Desk, Ends, Exchanges, GoesThrough, NextBlock}
use Rattle.card_bench.specs.Exchanges.{following, printed_by, toward_card, toward_reader}
use Rattle.bench_turns.specs.Lasting.{HasLeft}
use Rattle.card_bench.specs.Performing.{Performs, PerformsCommand, shown, free_shown}
use Rattle.bench_lines.specs.Printouts.{prints_dark}
use Rattle.bench_turns.specs.Turns.{dark_of, turn_steps}
use Rattle.bench_turns.proofs.Wearing.{block-due, due-spent, fewer}
use Rattle.card_bench.proofs.LineWear.{LINE_STEPS, arrives-last, turn-left}

-- 1 where power was lost, else 0
abbrev lost_in : Result NextBlock Ended → ℕ
lost_in (Ok next) = 0
lost_in (Err (answered answer)) = 0
lost_in (Err set_back) = 0
lost_in (Err link_lost) = 0
lost_in (Err power_lost) = 1

-- what the reader's end says loses none
none-lost : (o : CommandReport) → lost_in (following o) ≡ 0
none-lost (sends block) = refl
none-lost (gives answer) = refl
none-lost unknown = refl
none-lost (fails failure) = refl

-- so many cuts due are gone
abbrev Spent : ℕ → BenchState → BenchState → Type 0
Spent lost old new = (bench_facts old).due ≡ (bench_facts new).due + lost

stays-due : (old new : BenchState) (lost : ℕ) → new ≡ old → lost ≡ 0 → Spent lost old new
stays-due old new lost same none =
    let due : (bench_facts new).due ≡ (bench_facts old).due = ap (λ (b : BenchState). (bench_facts b).due) same in
    omega (arith, due, none)

takes-due : (old new : BenchState) (got : List ℕ) (follows : Result NextBlock Ended) → CardTakes old got new follows
    → HasLeft COMMAND_WRITES (bench_facts old) → Spent (lost_in follows) old new
takes-due old new got (Ok (toward_card bytes)) takes left = absurd takes
takes-due old new got (Ok (toward_reader bytes)) takes left = block-due old new got (item.Reply bytes) takes left
takes-due old new got (Err (answered answer)) takes left = absurd takes
takes-due old new got (Err set_back) takes left = absurd takes
takes-due old new got (Err link_lost) takes left = absurd takes
takes-due old new got (Err power_lost) takes left = block-due old new got item.Dark takes left

arrives-due : (old new : Ends) (way : NextBlock) (came : Option (List ℕ)) (follows : Result NextBlock Ended)
    → Arrives old way came new follows → HasLeft COMMAND_WRITES (bench_facts old.bench)
    → Spent (lost_in follows) old.bench new.bench
arrives-due old new way None follows arrives left =
    stays-due old.bench new.bench (lost_in follows) arrives.0 (ap lost_in arrives.1.follows_so ∙ none-lost _)
arrives-due old new (toward_card block) (Some got) follows arrives left =
    takes-due old.bench new.bench got follows arrives.1 left
arrives-due old new (toward_reader block) (Some got) follows arrives left =
    stays-due old.bench new.bench (lost_in follows) arrives.0 (ap lost_in arrives.1.follows_so ∙ none-lost _)

exchange-due : (blocks : ℕ) (old new : Ends) (way : NextBlock) (ending : Ended) → Exchanges blocks old way new ending
    → HasLeft (COMMAND_WRITES * blocks) (bench_facts old.bench) → Spent (lost_in (Err ending)) old.bench new.bench
unfolding Exchanges
exchange-due zero old new way ending run left =
    stays-due old.bench new.bench (lost_in (Err ending)) (ap (λ (e : Ends). e.bench) run.0)
    (ap (λ (e : Ended). lost_in (Err e)) run.1)
exchange-due (suc blocks) old new way ending (inl passes) left =
    arrives-due old new way _ (Err ending) passes.arrives
    (fewer (COMMAND_WRITES * suc blocks) COMMAND_WRITES (bench_facts old.bench) (omega arith) left)
exchange-due (suc blocks) old new way ending (inr more) left =
    let before = arrives-due old more.0 way _ (Ok more.1) more.2.arrives
    (fewer (COMMAND_WRITES * suc blocks) COMMAND_WRITES (bench_facts old.bench) (omega arith) left) in
    let behind = exchange-due blocks more.0 new more.1 ending more.3
    (arrives-last (COMMAND_WRITES * blocks) old more.0 way _ (Ok more.1) more.2.arrives
    (fewer (COMMAND_WRITES * suc blocks) (COMMAND_WRITES * blocks + COMMAND_WRITES)
    (bench_facts old.bench) (omega arith) left)) in
    omega (arith, before, behind)

through-due : (old new : Ends) (first : Result NextBlock Ended) (ending : Ended) → lost_in first ≡ 0
    → GoesThrough first old new ending → HasLeft LINE_STEPS (bench_facts old.bench)
    → Spent (lost_in (Err ending)) old.bench new.bench
through-due old new (Ok way) ending none through left = exchange-due LINE_BLOCKS old new way ending through left
through-due old new (Err ended) ending none through left =
    stays-due old.bench new.bench (lost_in (Err ending)) (ap (λ (e : Ends). e.bench) through.0)
    (ap (λ (e : Ended). lost_in (Err e)) through.1 ∙ none)

-- what an exchange prints that ended dark
one-lost : (ending : Ended) → prints_dark ≡ printed_by ending → lost_in (Err ending) ≡ 1
one-lost (answered answer) printed = absurd cc
one-lost set_back printed = absurd cc
one-lost link_lost printed = absurd cc
one-lost power_lost printed = refl

commands-due : (old new : Desk) (reader : Option Reader) (command : List ℕ)
    → Commands old reader command new prints_dark
    → HasLeft LINE_STEPS (bench_facts old.bench) → Spent 1 old.bench new.bench
commands-due old new None command commands left = absurd cc
commands-due old new (Some reader) command commands left =
    let turned = reader_sends reader command in
    let spent = through-due (record { bench = old.bench; reader = turned.reader; line = old.line })
    (record { bench = new.bench; reader = commands.0; line = new.line }) (following turned.outcome) commands.1
    (none-lost turned.outcome) commands.2 left in
    let lost = one-lost commands.1 commands.4 in
    omega (arith, spent, lost)

command-due : (b : BenchState) (old new : Desk) (command : List ℕ) → PerformsCommand b old command new prints_dark
    → HasLeft LINE_STEPS (bench_facts old.bench) → Spent 1 old.bench new.bench
command-due (off facts) old new command performs left = absurd cc
command-due (on powered) old new command performs left = commands-due old new old.reader command performs left

-- what a turn prints that ended dark
one-dark : (came : Item) → prints_dark ≡ shown came → dark_of came ≡ 1
one-dark item.Atr printed = absurd cc
one-dark item.Quiet printed = absurd cc
one-dark item.Mute printed = absurd cc
one-dark item.Dark printed = refl
one-dark (item.Reply block) printed = absurd cc

free-lit : (b : BenchState) → prints_dark ≡ free_shown b → ⊥
free-lit (off facts) printed = cc
free-lit (on powered) printed = cc

block-left : (b : BenchState) → HasLeft LINE_STEPS (bench_facts b) → HasLeft COMMAND_WRITES (bench_facts b)
block-left b left = fewer LINE_STEPS COMMAND_WRITES (bench_facts b) (omega arith) left

pub dark-spends : (order : Order) (old new : Desk) → Performs order old new prints_dark
    → HasLeft LINE_STEPS (bench_facts old.bench) → (bench_facts old.bench).due ≡ (bench_facts new.bench).due + 1
dark-spends Nothing old new performs left = absurd cc
dark-spends On old new performs left =
    let spent =
    due-spent old.bench new.bench turn.On performs.outcome performs.turn (fewer (0 + turn_steps old.bench turn.On)
    (turn_steps old.bench turn.On) (bench_facts old.bench) (omega arith) (turn-left 0 old.bench turn.On left)) in
    let lost = one-dark performs.outcome performs.printed in
    omega (arith, spent, lost)
dark-spends Off old new performs left = let printed = performs.printed in absurd cc
dark-spends Free old new performs left = absurd (free-lit old.bench performs.1)
dark-spends (Apdu command) old new performs left = command-due old.bench old new command performs left
dark-spends (Block block) old new performs left =
    let spent = block-due old.bench new.bench block performs.outcome performs.turn (block-left old.bench left) in
    let lost = one-dark performs.outcome performs.printed in
    omega (arith, spent, lost)
dark-spends (Cut number mask) old new performs left = let printed = performs.printed in absurd cc
dark-spends (Lose number) old new performs left = absurd cc
dark-spends (Garble number) old new performs left = absurd cc

-- an arm of which no cut is due is none
none-set : (arm : Option Arm) → due_of arm ≡ 0 → arm ≡ None
none-set None none = refl
none-set (Some arm) none = absurd (omega (arith, none))

most-due : (arm : Option Arm) → due_of arm ≤ 1
most-due None = omega arith
most-due (Some arm) = omega arith

pub dark-unsets : (order : Order) (old new : Desk) → Performs order old new prints_dark → IsGood old.bench
    → IsGood new.bench → HasLeft LINE_STEPS (bench_facts old.bench) → (bench_facts new.bench).pending ≡ None
dark-unsets order old new performs was good left =
    let spent = dark-spends order old new performs left in
    let most = most-due (bench_facts old.bench).pending in
    let before = was.due in
    let after = good.due in
    none-set (bench_facts new.bench).pending (omega (arith, spent, most, before, after))
