-- The guess law of each script line, from that of its turns.
use Rattle.std.specs.Prelude.{◌≡◌, ℕ, zero, suc, List, Option, None, Some, Result, Ok, Err}
use Rattle.std.proofs.Common.{refl, sym, ap, ap₂, subst, inl, inr}
use Rattle.nvm_board.specs.Facts.{Facts}
use Rattle.command_base.specs.Finding.{found}
use Rattle.t1_link.specs.ReaderTable.{Reader, reader_sends}
use Rattle.bench_lines.specs.Orders.{Order, Nothing, On, Off, Free, Apdu, Block, Cut, Lose, Garble}
use Rattle.bench_turns.specs.BenchStates.{BenchState, off, on, bench_facts, with_facts, IsArmed}
use Rattle.bench_turns.specs.Guessing.{GuessesFew}
use Rattle.bench_turns.proofs.FewGuesses.{pays-nothing, pays-on}
use Rattle.card_bench.specs.Exchanges.{Arrives, CardTakes, Commands, Desk, Ended, Ends, Exchanges, GoesThrough}
use Rattle.card_bench.specs.Exchanges.{NextBlock}
use Rattle.card_bench.specs.declared.reader_turns.TheConstants.{LINE_BLOCKS}
use Rattle.card_bench.specs.Exchanges.{bytes_under_way, following}
use Rattle.card_bench.specs.Lines.{arriving}
use Rattle.card_bench.specs.Exchanges.{Passes, answered, link_lost, power_lost}
use Rattle.card_bench.specs.Exchanges.{set_back, toward_card, toward_reader}
use Rattle.card_bench.specs.Performing.{Performs, PerformsCommand}
use Rattle.bench_lines.specs.Printouts.{Print}

-- without a turn nothing is compared
few-stay : (old new : BenchState) → new ≡ old → GuessesFew old new
few-stay old new same = subst (λ (b : BenchState). GuessesFew old b) (sym same) (pays-nothing old old refl refl)

few-desk : (old new : Desk) → new ≡ old → GuessesFew old.bench new.bench
few-desk old new same = few-stay old.bench new.bench (ap (λ (d : Desk). d.bench) same)

few-facts : (old : BenchState) (f : Facts) → f.words ≡ (bench_facts old).words
    → f.compares ≡ (bench_facts old).compares → f.matches ≡ (bench_facts old).matches
    → GuessesFew old (with_facts old f)
few-facts (off was) f words compares matches =
    pays-nothing (off was) (off f) (ap found words)
    (ap₂ (λ (c m : List ℕ). record { compares = c; matches = m }) compares matches)
few-facts (on was) f words compares matches =
    pays-nothing (on was) (with_facts (on was) f) (ap found words)
    (ap₂ (λ (c m : List ℕ). record { compares = c; matches = m }) compares matches)

few-armed : (number mask : ℕ) (old new : BenchState) → IsArmed number mask old new → GuessesFew old new
few-armed number mask old new armed =
    subst (λ (b : BenchState). GuessesFew old b) (sym armed.same) (few-facts old _ refl refl refl)

-- one block on the line
few-taken : (old : BenchState) (got : List ℕ) (new : BenchState) (follows : Result NextBlock Ended)
    → CardTakes old got new follows → GuessesFew old new
few-taken old got new (Ok (toward_card bytes)) takes = absurd takes
few-taken old got new (Ok (toward_reader bytes)) takes = takes.guesses
few-taken old got new (Err (answered answer)) takes = absurd takes
few-taken old got new (Err set_back) takes = absurd takes
few-taken old got new (Err link_lost) takes = absurd takes
few-taken old got new (Err power_lost) takes = takes.guesses

few-arrived : (old : Ends) (way : NextBlock) (arrived : Option (List ℕ)) (new : Ends)
    (follows : Result NextBlock Ended) → Arrives old way arrived new follows → GuessesFew old.bench new.bench
few-arrived old (toward_card block) None new follows arrives = few-stay old.bench new.bench arrives.0
few-arrived old (toward_reader block) None new follows arrives = few-stay old.bench new.bench arrives.0
few-arrived old (toward_card block) (Some got) new follows arrives =
    few-taken old.bench got new.bench follows arrives.1
few-arrived old (toward_reader block) (Some got) new follows arrives = few-stay old.bench new.bench arrives.0

few-passed : (old : Ends) (way : NextBlock) (new : Ends) (follows : Result NextBlock Ended)
    → Passes old way new follows → GuessesFew old.bench new.bench
few-passed old way new follows passes =
    few-arrived old way (arriving old.line 0 (bytes_under_way way)) new follows passes.arrives

-- an exchange
few-exchanged : (blocks : ℕ) (old : Ends) (way : NextBlock) (new : Ends) (ending : Ended)
    → Exchanges blocks old way new ending → GuessesFew old.bench new.bench
unfolding Exchanges
few-exchanged zero old way new ending run =
    few-stay old.bench new.bench (ap (λ (e : Ends). e.bench) run.0)
few-exchanged (suc blocks) old way new ending (inl passes) = few-passed old way new (Err ending) passes
few-exchanged (suc blocks) old way new ending (inr run) =
    pays-on old.bench run.0.bench new.bench (few-passed old way run.0 (Ok run.1) run.2)
    (few-exchanged blocks run.0 run.1 new ending run.3)

few-through : (follows : Result NextBlock Ended) (old new : Ends) (ending : Ended)
    → GoesThrough follows old new ending → GuessesFew old.bench new.bench
few-through (Ok first) old new ending run = few-exchanged LINE_BLOCKS old first new ending run
few-through (Err ended) old new ending run = few-stay old.bench new.bench (ap (λ (e : Ends). e.bench) run.0)

few-sent : (old : Desk) (reader : Option Reader) (command : List ℕ) (new : Desk) (prints : Print)
    → Commands old reader command new prints → GuessesFew old.bench new.bench
few-sent old None command new prints run = few-desk old new run.0
few-sent old (Some reader) command new prints run =
    let turned = reader_sends reader command in
    few-through (following turned.outcome) (record { bench = old.bench; reader = turned.reader; line = old.line })
    (record { bench = new.bench; reader = run.0; line = new.line }) run.1 run.2

few-command : (b : BenchState) (old : Desk) (command : List ℕ) (new : Desk) (prints : Print)
    → PerformsCommand b old command new prints → GuessesFew old.bench new.bench
few-command (off facts) old command new prints run = few-desk old new run.0
few-command (on powered) old command new prints run = few-sent old old.reader command new prints run

pub performs_few : (order : Order) (old new : Desk) (prints : Print) → Performs order old new prints
    → GuessesFew old.bench new.bench
performs_few Nothing old new prints run = few-desk old new run.0
performs_few On old new prints run = run.turn.guesses
performs_few Off old new prints run = run.turn.guesses
performs_few Free old new prints run = few-desk old new run.0
performs_few (Apdu command) old new prints run = few-command old.bench old command new prints run
performs_few (Block block) old new prints run = run.turn.guesses
performs_few (Cut number mask) old new prints run = few-armed number mask old.bench new.bench run.armed
performs_few (Lose number) old new prints run = few-stay old.bench new.bench (ap (λ (d : Desk). d.bench) run.0)
performs_few (Garble number) old new prints run = few-stay old.bench new.bench (ap (λ (d : Desk). d.bench) run.0)
