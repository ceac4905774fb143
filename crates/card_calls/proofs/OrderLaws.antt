-- An order that the desk has run, with its writes and what pays for its comparisons.
use Rattle.std.specs.Prelude.{◌≡◌, ◌⊎◌, ◌<◌, ◌^◌, ℕ, true, false, List, [], ◌∷◌, Bool, Option, None, Some, is_some}
use Rattle.std.specs.Prelude.{length, take}
use Rattle.std.specs.Prelude.{Ok, Err}
use Rattle.std.proofs.Common.{◌∙◌, ap, arith, inl, inr, refl, subst, sym}
use Rattle.std.proofs.lemmas.Bool.{false≢true, true_from_ne_false}
use Rattle.nvm_board.specs.History.{Run, replayed}
use Rattle.command_base.specs.Comparing.{comparisons}
use Rattle.bench_lines.specs.Orders.{IsOrderSized, Order}
use Rattle.bench_lines.specs.Printouts.{Print}
use Rattle.bench_lines.specs.Spellings.{IsOrderOfBytes}
use Rattle.bench_turns.specs.BenchStates.{BenchState, bench_facts}
use Rattle.bench_turns.specs.Guessing.{GuessesFew, PaysAhead, PaysFor}
use Rattle.bench_turns.specs.Plays.{IsGood}
use Rattle.card_bench.specs.Charges.{RunsToFirst}
use Rattle.card_bench.specs.Performing.{Performs}
use Rattle.card_bench.proofs.GuessedLines.{performs_few}
use Rattle.card_bench.proofs.WrittenLines.{performs_counted}
use Rattle.card_calls.specs.Devices.{AllStored, logs_none}
use Rattle.card_calls.specs.FirstWrites.{EndsCharge, HasNoCharge, IsFirstOf, IsTold, with_first}
use Rattle.card_calls.specs.InStep.{IsInStep}
use Rattle.card_calls.specs.PaidOrders.{IsLedBy}
use Rattle.card_calls.specs.SessionStates.{Announcement, SessionState, session_facts}
use Rattle.card_calls.specs.Telling.{BeginsAsTold, BeginsOrder, Diverges, HasRun, IsAnnounced, IsPerformed, IsTaken}
use Rattle.card_calls.specs.Telling.{MayNotRun, MayRun, TellsResult}
use Rattle.card_calls.specs.declared.outcome.CallOutcome.{CallOutcome}
use Rattle.card_calls.specs.declared.outcome.CallOutcome.TheVariants as outcome
use Rattle.card_calls.specs.declared.device.TheConstants.{TWIN_WRITES}
use Rattle.card_calls.proofs.AheadLaws.{order_ahead}
use Rattle.card_calls.proofs.InStepLaws.{compares-none}
use Rattle.card_calls.proofs.LedRuns.{led_by}

-- the image with the first write
first-image : (words : List ℕ) (first : Option Run) (runs : List Run) → IsLedBy first runs
    → with_first words first ≡ replayed words (take 1 runs)
first-image words first [] led = ap (with_first words) led
first-image words first (run ∷ runs) led = ap (with_first words) led

-- the guess law from one state to another is that from the one to the other's image
pays-now : (old new : BenchState) → GuessesFew old new
    → PaysFor old (bench_facts new).words (comparisons (bench_facts new))
pays-now old new few = record { values = few.values; unblocking_values = few.unblocking_values }

some-same : {X : Type 0} (a b : X) → Some a ≡ Some b → a ≡ b
some-same a b e = cc

-- the announcement of a session is of this order
abbrev pub announced_of : (order : Order) (was : SessionState) (a : Announcement) → was.announced ≡ Some a
    → a.order ≡ order → IsAnnounced order was
announced_of order was a is of = record {
  first = a.first;
  told = is ∙ ap (λ (o : Order). Some (record { order = o; first = a.first })) of;
}

module _ (order : Order) (was now : SessionState) (prints : Print) (run : Performs order was.desk now.desk prints)
    (good : IsGood now.desk.bench) (there : IsInStep was.desk) (sized : IsOrderSized order)
    (bytes : IsOrderOfBytes order) where
  -- its writes, which pay from the first one on
  pub ahead : PaysAhead was.desk.bench now.desk.bench
  ahead = order_ahead order was.desk now.desk prints there sized bytes run

  -- an order that ran
  abbrev pub performed : IsPerformed order was now prints
  performed = record {
    performs = run;
    good = good;
    guesses = performs_few order was.desk now.desk prints run;
    made = ahead.wrote;
    ahead = ahead.paid;
    still = λ plain. compares-none order was.desk now.desk prints there sized bytes plain run;
  }

  abbrev runs : List Run
  runs = performed.made.runs

  few : length runs < 2 ^ 64
  few = let most = performs_counted order was.desk now.desk prints run ahead.wrote in omega (arith, most)

  module _ (before : MayRun order was) (told : IsTold was.announced was.desk) where
    first-told : (a : Announcement) → was.announced ≡ Some a → a.order ≡ order → IsFirstOf a.first order was.desk
    first-told a is of =
        subst (λ (o : Order). IsFirstOf a.first o was.desk) of
        (subst (λ (x : Option Announcement). IsTold x was.desk) is told)

    -- what a device has after it
    begins : (taken : Option Announcement) (after : ℕ) → IsTaken order was taken
        → EndsCharge (session_facts now).log was.stored taken (Some after) → now.stored ≡ after
        → (HasNoCharge order was × (now.stored ≡ was.stored)) ⊎ BeginsAsTold order was now runs
    begins None after is ends stored = inl (is, stored ∙ some-same _ _ ends)
    begins (Some a) after is (answer, tells, so, counts) stored =
        let some : is_some (session_facts was).log ≡ true =
        true_from_ne_false _ (λ none. is.0 (inr (inl none))) in
        let led = led_by (session_facts was).log (session_facts now).log was.stored runs answer a.first some
        before.all_stored performed.made.log few tells so in
        inr (record {
          announced = announced_of order was a is.1 is.2;
          begins = led;
          stored = stored ∙ counts;
          paid = record {
            first = subst (λ (words : List ℕ). RunsToFirst order was.desk (logs_none TWIN_WRITES) words)
                (first-image (session_facts was).words a.first runs led) (first-told a is.1 is.2).0;
            all = subst (λ (words : List ℕ). PaysFor was.desk.bench words (comparisons (session_facts now)))
                performed.made.words (pays-now was.desk.bench now.desk.bench performed.guesses);
          };
        })

    pub has_run : (taken : Option Announcement) (after : ℕ) → IsTaken order was taken
        → EndsCharge (session_facts now).log was.stored taken (Some after) → now.stored ≡ after
        → now.behind ≡ false → now.announced ≡ None → now.device ≡ was.device → HasRun order was now prints
    has_run taken after is ends stored up none device = record {
      performed = performed;
      keeps_up = record {
        before = before;
        up = up;
        stored = begins taken after is ends stored;
        unannounced = none;
        device = device;
      };
    }

    pub diverges : (taken : Option Announcement) → IsTaken order was taken
        → EndsCharge (session_facts now).log was.stored taken None → now.stored ≡ was.stored
        → now.behind ≡ true → now.announced ≡ None → now.device ≡ was.device → Diverges order was now
    diverges None is ends stored behind none device = absurd cc
    diverges (Some a) is (answer, tells, other) stored behind none device = record {
      before = before;
      prints = prints;
      performed = performed;
      announced = announced_of order was a is.1 is.2;
      answer = answer;
      next = tells;
      other = other;
      behind = behind;
      stored = stored;
      unannounced = none;
      device = device;
    }

-- an order that may not run
pub held_back : (order : Order) (was : SessionState) (out : List ℕ) (why : CallOutcome) → (why ≡ outcome.Unstored)
    × MayNotRun order was
    → TellsResult order was was out out (Err why)
held_back order was out why held = ((held.0, inl (record { why = held.1; same = refl })), refl)

-- an order that may run
pub begins_order : (order : Order) (was : SessionState) (is_charged : Bool) → was.behind ≡ false
    → AllStored (session_facts was).log was.stored → (is_charged ≡ true → ¬ HasNoCharge order was)
    → (¬ (is_charged ≡ true) → HasNoCharge order was) → (is_charged ≡ true → IsAnnounced order was)
    → BeginsOrder order was (Ok is_charged)
begins_order order was true up all charge none announced =
    let told = announced refl in (
      record { was_up = up; all_stored = all; charge = inr told },
      subst (λ (a : Option Announcement). IsTaken order was a) (sym told.told) (charge refl, told.told, refl),
    )
begins_order order was false up all charge none announced =
    let free = none false≢true in (record { was_up = up; all_stored = all; charge = inl free }, free)

-- and the other way
pub of_announced : (order : Order) (was : SessionState) (a : Announcement) → was.announced ≡ Some a
    → IsAnnounced order was → a.order ≡ order
of_announced order was a is told =
    ap (λ (x : Announcement). x.order) (some-same a (record { order = order; first = told.first }) (sym is ∙ told.told))

pub none_announced : (order : Order) (was : SessionState) → was.announced ≡ None → ¬ IsAnnounced order was
none_announced order was none told = absurd (none-some _ (sym none ∙ told.told))
  where
    none-some : (a : Announcement) → None ≡ Some a → ⊥
    none-some a e = absurd cc
