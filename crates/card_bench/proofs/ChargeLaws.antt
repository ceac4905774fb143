-- What a second desk wrote that ran an order up to its first write.
use Rattle.std.specs.Prelude.{◌≡◌, ◌<◌, ◌^◌, ℕ, Bool, List, [], ◌∷◌, Option, None, Some, is_some, length}
use Rattle.std.proofs.Common.{◌∙◌, ap, arith, inl, inr, refl, subst, sym, true≢false}
use Rattle.nvm_board.specs.Facts.{Facts}
use Rattle.nvm_board.specs.History.{Log, Run, and_runs, replayed, written}
use Rattle.nvm_board.specs.laws.Torn.{length-written}
use Rattle.bench_lines.specs.Orders.{Order, Cut}
use Rattle.bench_lines.specs.Printouts.{Print}
use Rattle.bench_turns.specs.BenchStates.{BenchState, off, on, bench_facts, with_facts}
use Rattle.bench_turns.specs.Guessing.{GuessesFew}
use Rattle.bench_turns.specs.Lasting.{HasLeft}
use Rattle.bench_turns.specs.Plays.{IsGood}
use Rattle.bench_turns.proofs.FewGuesses.{pays-nothing, pays-on}
use Rattle.card_bench.specs.Charges.{CutsNext, HasSecond, IsCharged, IsUncharged, MayCompare, RunsToFirst}
use Rattle.card_bench.specs.Charges.{TakesCharge, twin_desk}
use Rattle.card_bench.specs.Exchanges.{Desk}
use Rattle.card_bench.specs.Performing.{Performs}
use Rattle.card_bench.specs.declared.charge.TheConstants.{ALL_WORDS}
use Rattle.card_bench.proofs.GuessedLines.{performs_few}
use Rattle.card_bench.proofs.WrittenLines.{performs_wrote}

pub facts-with : (b : BenchState) (f : Facts) → bench_facts (with_facts b f) ≡ f
facts-with (off was) f = refl
facts-with (on was) f = refl

-- a second card compared nothing yet
pub few-twin : (b : BenchState) (log : Option Log) → GuessesFew b (with_facts b (record (bench_facts b) { log = log }))
few-twin (off was) log = pays-nothing (off was) (off (record was { log = log })) refl refl
few-twin (on was) log = pays-nothing (on was) (with_facts (on was) (record was.card.facts { log = log })) refl refl

-- The runs that a second desk wrote: its words and its log began as those of the desk, and as this log.
pub record SecondWrote (was : Desk) (log : Option Log) (left : Desk) : Type 0 where
  pub runs : List Run
  pub logs : (bench_facts left.bench).log ≡ and_runs log runs
  pub words : (bench_facts left.bench).words ≡ replayed (bench_facts was.bench).words runs
  pub few : length runs < 2 ^ 64

module _ (order : Order) (was : Desk) (log : Option Log) (armed left : Desk) (quiet prints : Print)
    (cut : Performs (Cut 1 ALL_WORDS) (twin_desk was log) armed quiet) (run : Performs order armed left prints) where
  -- a second desk that ran, with these words after it
  unfoldable pub ran_to_first : IsGood left.bench → (words : List ℕ) → (bench_facts left.bench).words ≡ words
      → RunsToFirst order was log words
  ran_to_first good words leaves =
      let twin = twin_desk was log in
      record {
        armed = armed;
        quiet = quiet;
        cut = cut;
        left = left;
        prints = prints;
        runs = run;
        good = good;
        guesses = pays-on was.bench twin.bench left.bench (few-twin was.bench log)
            (pays-on twin.bench armed.bench left.bench (performs_few (Cut 1 ALL_WORDS) twin armed quiet cut)
            (performs_few order armed left prints run));
        leaves = leaves;
      }

  -- what it wrote
  pub second_wrote : SecondWrote was log left
  second_wrote =
      let second = performs_wrote order armed left prints run in
      let twin : bench_facts (twin_desk was log).bench ≡ record (bench_facts was.bench) { log = log } =
      facts-with was.bench _ in
      let words : (bench_facts armed.bench).words ≡ (bench_facts was.bench).words =
      ap (λ (b : BenchState). (bench_facts b).words) cut.armed.same
      ∙ ap (λ (f : Facts). f.words) (facts-with (twin_desk was log).bench _) ∙ ap (λ (f : Facts). f.words) twin in
      let logs : (bench_facts armed.bench).log ≡ log =
      ap (λ (b : BenchState). (bench_facts b).log) cut.armed.same
      ∙ ap (λ (f : Facts). f.log) (facts-with (twin_desk was log).bench _) ∙ ap (λ (f : Facts). f.log) twin in
      record {
        runs = second.wrote.runs;
        logs = second.wrote.log ∙ ap (λ (l : Option Log). and_runs l second.wrote.runs) logs;
        words = second.wrote.words ∙ ap (λ (m : List ℕ). replayed m second.wrote.runs) words;
        few = let most = second.few in omega (arith, most);
      }

-- a desk with its own log is that desk
with-own : (b : BenchState) → with_facts b (bench_facts b) ≡ b
with-own (off was) = refl
with-own (on was) = refl

twin-own : (d : Desk) → twin_desk d (bench_facts d.bench).log ≡ d
twin-own d = ap (λ (b : BenchState). record d { bench = b }) (with-own d.bench)

-- other facts in place of others
with-again : (b : BenchState) (f g : Facts) → with_facts (with_facts b f) g ≡ with_facts b g
with-again (off was) f g = refl
with-again (on was) f g = refl

-- the facts of a second desk
pub twin_facts : (d : Desk) (log : Option Log)
    → bench_facts (twin_desk d log).bench ≡ record (bench_facts d.bench) { log = log }
twin_facts d log = facts-with d.bench _

-- a desk with this board in place of its own
pub twin_is : (was new : Desk) (f : Facts) (log : Option Log) → f ≡ record (bench_facts was.bench) { log = log }
    → new ≡ record was { bench = with_facts was.bench f } → new ≡ twin_desk was log
twin_is was new f log facts twin = twin ∙ ap (λ (g : Facts). record was { bench = with_facts was.bench g }) facts

-- a memory has as many words after runs, and a log is none where there was none
length-replayed : (m : List ℕ) (runs : List Run) → length (replayed m runs) ≡ length m
length-replayed m [] = refl
length-replayed m (run ∷ runs) =
    length-replayed (written m run.at run.words) runs ∙ length-written m run.words run.at

none-logged : (runs : List Run) → and_runs None runs ≡ None
none-logged [] = refl
none-logged (run ∷ runs) = none-logged runs

pub as_many_words : (order : Order) (old new : Desk) (prints : Print) → Performs order old new prints
    → length (bench_facts new.bench).words ≡ length (bench_facts old.bench).words
as_many_words order old new prints run =
    let wrote = (performs_wrote order old new prints run).wrote in
    ap length wrote.words ∙ length-replayed (bench_facts old.bench).words wrote.runs

-- a second board fits the desk after an order too
pub second_stays : {B : Type 0} (facts : B → Facts) (can_copy : Bool) (second : Option B) (order : Order)
    (old new : Desk) (prints : Print) → Performs order old new prints
    → HasSecond facts can_copy second (bench_facts old.bench) → HasSecond facts can_copy second (bench_facts new.bench)
second_stays facts can_copy None order old new prints run fits =
    let wrote = (performs_wrote order old new prints run).wrote in
    wrote.log ∙ ap (λ (l : Option Log). and_runs l wrote.runs) fits ∙ none-logged wrote.runs
second_stays facts can_copy (Some second) order old new prints run fits =
    (fits.0, fits.1 ∙ sym (as_many_words order old new prints run), fits.2)

-- a second desk with this board in place of its own
pub second_twin : (was second new : Desk) (f : Facts) (log : Option Log) → second ≡ twin_desk was None
    → f ≡ record (bench_facts was.bench) { log = log }
    → new ≡ record second { bench = with_facts second.bench f } → new ≡ twin_desk was log
second_twin was second new f log is facts twin =
    twin ∙ ap (λ (d : Desk). record d { bench = with_facts d.bench f }) is
    ∙ ap (λ (b : BenchState). record was { bench = b }) (with-again was.bench _ f)
    ∙ ap (λ (g : Facts). record was { bench = with_facts was.bench g }) facts

-- the follower took the charge of an order
module _ (order : Order) (was armed left : Desk) (quiet prints : Print)
    (cut : Performs (Cut 1 ALL_WORDS) was armed quiet) (run : Performs order armed left prints)
    (good : IsGood left.bench) where
  pub takes_charge : (now : Desk) (log : Option Log) → log ≡ (bench_facts left.bench).log → now ≡ twin_desk was log
      → TakesCharge order was now
  unfolding ran_to_first
  takes_charge now log is same = record {
    words = (bench_facts left.bench).words;
    first = ran_to_first order was (bench_facts was.bench).log armed left quiet prints
        (subst (λ (d : Desk). Performs (Cut 1 ALL_WORDS) d armed quiet) (sym (twin-own was)) cut) run good _ refl;
    same = same ∙ ap (twin_desk was) is;
  }

-- what holds of a desk holds of one that is charged
pub good_with : (b : BenchState) (log : Option Log) → IsGood b
    → IsGood (with_facts b (record (bench_facts b) { log = log }))
good_with (off was) log good =
    record { has_card = good.has_card; faults = good.faults; due = good.due; well = good.well }
good_with (on was) log good =
    record { has_card = good.has_card; faults = good.faults; due = good.due; well = good.well }

pub good_charged : (order : Order) (was now : Desk) → IsCharged order was now → IsGood was.bench → IsGood now.bench
good_charged order was now (inl same) good = subst (λ (d : Desk). IsGood d.bench) (sym same.0) good
good_charged order was now (inr takes) good =
    subst (λ (d : Desk). IsGood d.bench) (sym takes.same) (good_with was.bench _ good)

left-logged : (n : ℕ) (f : Facts) (log : Option Log) → HasLeft n f → HasLeft n (record f { log = log })
left-logged n f log left = record {
  faults = left.faults;
  cuts = left.cuts;
  writes = left.writes;
  compares = left.compares;
  matches = left.matches;
}

pub left_charged : (n : ℕ) (order : Order) (was now : Desk) → IsCharged order was now
    → HasLeft n (bench_facts was.bench) → HasLeft n (bench_facts now.bench)
left_charged n order was now (inl same) left = subst (λ (d : Desk). HasLeft n (bench_facts d.bench)) (sym same.0) left
left_charged n order was now (inr takes) left =
    subst (λ (d : Desk). HasLeft n (bench_facts d.bench)) (sym takes.same)
    (subst (HasLeft n) (sym (twin_facts was _)) (left-logged n _ _ left))

-- a desk whose order owes no charge
pub never_compares : (order : Order) (was : Desk) → ¬ MayCompare order → IsCharged order was was
never_compares order was never = inl (refl, λ owes. never owes.0)

pub is_unlogged : (order : Order) (was : Desk) → (bench_facts was.bench).log ≡ None → IsCharged order was was
is_unlogged order was none = inl (refl, λ owes. true≢false (sym owes.1 ∙ ap is_some none))

pub is_cut_next : (order : Order) (was : Desk) → CutsNext (bench_facts was.bench).pending → IsCharged order was was
is_cut_next order was cuts = inl (refl, λ owes. owes.2 cuts)

-- the follower did not take the charge
pub is_uncharged : (order : Order) (was now : Desk) (f : Facts) → TakesCharge order was now
    → f ≡ bench_facts now.bench → IsUncharged order was f
is_uncharged order was now f takes is = inr (now, takes, is)
