-- What the result of an order is to a call from C.
use Rattle.std.specs.Prelude.{◌≡◌, ◌≤◌, ℕ, ℤ, List, Option, None, Some, Result, Ok, Err, length}
use Rattle.std.proofs.Common.{ap, subst, sym, inl, inr}
use Rattle.bench_lines.specs.Orders.{Order, Free}
use Rattle.bench_lines.specs.Printouts.{Print}
use Rattle.card_calls.specs.SessionStates.{SessionState}
use Rattle.card_calls.specs.declared.outcome.CallOutcome.{CallOutcome}
use Rattle.card_calls.specs.declared.outcome.CallOutcome.TheVariants as outcome
use Rattle.card_calls.specs.declared.outcome.OrderResult.{OrderResult}
use Rattle.card_calls.specs.declared.sizes.TheConstants.{ROOM}
use Rattle.card_calls.specs.Telling.{AnswersOrder, CallRuns, Copies, CopiesNothing, ReportsSpace, ReturnsSpace, Tells}
use Rattle.card_calls.specs.Telling.{TellsBytes, outcome_number, print_outcome, result_print}

abbrev why-of : Result OrderResult CallOutcome → CallOutcome
why-of (Ok result) = outcome.Done
why-of (Err why) = why

abbrev IsAnswer : Result OrderResult CallOutcome → Type 0
IsAnswer (Ok result) = Unit {0}
IsAnswer (Err why) = ⊥

-- the outcome is that of the result's output
abbrev OutcomeIs : OrderResult → CallOutcome → Type 0
OutcomeIs result is = (answer block : List ℕ) → is ≡ print_outcome (result_print result answer block)

-- a result
result-runs : (order : Order) (was now : Option SessionState) (old new : List ℕ) (result : OrderResult)
    (is : CallOutcome) (Holds : Print → Type 0) (Fails : Type 0) → AnswersOrder order was now old new (Ok result)
    → OutcomeIs result is → ((answer block : List ℕ) → (ROOM ≤ length old
    → Copies old new result.size (result_print result answer block)) → Holds (result_print result answer block))
    → CallRuns order was now is Holds Fails
result-runs order None now old new result is Holds Fails answers so holds = absurd (subst IsAnswer answers.1 tt)
result-runs order (Some was) None old new result is Holds Fails answers so holds = absurd answers
result-runs order (Some was) (Some now) old new result is Holds Fails answers so holds = inl (
  result_print result answers.answer answers.block,
  answers.ran,
  so answers.answer answers.block,
  holds answers.answer answers.block answers.copied,
)

-- none, as there is no card, or its device is behind
failed-runs : (order : Order) (was now : Option SessionState) (old new : List ℕ) (why : CallOutcome)
    (Holds : Print → Type 0) (Fails : Type 0) → AnswersOrder order was now old new (Err why) → Fails
    → CallRuns order was now why Holds Fails
failed-runs order None now old new why Holds Fails answers fails = (answers.0, ap why-of answers.1, fails)
failed-runs order (Some was) None old new why Holds Fails answers fails = absurd answers
failed-runs order (Some was) (Some now) old new why Holds Fails answers fails =
    inr (fails, answers.0.0, answers.0.1)

-- then the buffer is unchanged
same-buffer : (order : Order) (was now : Option SessionState) (old new : List ℕ) (why : CallOutcome)
    → AnswersOrder order was now old new (Err why) → new ≡ old
same-buffer order None now old new why answers = answers.2
same-buffer order (Some was) None old new why answers = absurd answers
same-buffer order (Some was) (Some now) old new why answers = answers.1

-- the outcome alone is returned
pub told_tells : (order : Order) (was now : Option SessionState) (old new : List ℕ) (result : OrderResult)
    (is : CallOutcome) (number : ℤ) → AnswersOrder order was now old new (Ok result) → OutcomeIs result is
    → number ≡ outcome_number is → Tells order was now number
told_tells order was now old new result is number answers so numbered = record {
  result = is;
  number_is = numbered;
  runs = result-runs order was now old new result is (λ prints. Unit {0}) (Unit {0}) answers so
      (λ answer block copied. tt);
}

pub failed_tells : (order : Order) (was now : Option SessionState) (old new : List ℕ) (why : CallOutcome) (number : ℤ)
    → AnswersOrder order was now old new (Err why) → number ≡ outcome_number why → Tells order was now number
failed_tells order was now old new why number answers numbered = record {
  result = why;
  number_is = numbered;
  runs = failed-runs order was now old new why (λ prints. Unit {0}) (Unit {0}) answers tt;
}

-- bytes are copied out
pub told_copies : (order : Order) (was now : Option SessionState) (old new : List ℕ) (result : OrderResult)
    (is : CallOutcome) (size : ℕ) (number : ℤ) → ROOM ≤ length old → AnswersOrder order was now old new (Ok result)
    → size ≡ result.size → OutcomeIs result is → number ≡ outcome_number is
    → TellsBytes order was now old new size number
told_copies order was now old new result is size number room answers sized so numbered = record {
  result = is;
  number_is = numbered;
  runs = result-runs order was now old new result is (Copies old new size) (CopiesNothing old new size) answers so
      (λ answer block copied. subst (λ (n : ℕ). Copies old new n (result_print result answer block)) (sym sized)
      (copied room));
}

pub failed_copies : (order : Order) (was now : Option SessionState) (old new : List ℕ) (why : CallOutcome) (size : ℕ)
    (number : ℤ) → AnswersOrder order was now old new (Err why) → size ≡ 0 → number ≡ outcome_number why
    → TellsBytes order was now old new size number
failed_copies order was now old new why size number answers none numbered = record {
  result = why;
  number_is = numbered;
  runs = failed-runs order was now old new why (Copies old new size) (CopiesNothing old new size) answers
      (none, same-buffer order was now old new why answers);
}

-- the free space is returned
pub told_space : (was now : Option SessionState) (old new : List ℕ) (result : OrderResult) (is : CallOutcome)
    (blocks entries : ℕ) (number : ℤ) → AnswersOrder Free was now old new (Ok result)
    → ((answer block : List ℕ) → ReportsSpace blocks entries (result_print result answer block))
    → OutcomeIs result is → number ≡ outcome_number is → ReturnsSpace was now blocks entries number
told_space was now old new result is blocks entries number answers space so numbered = record {
  result = is;
  number_is = numbered;
  runs = result-runs Free was now old new result is (ReportsSpace blocks entries) ((blocks ≡ 0) × (entries ≡ 0)) answers
      so (λ answer block copied. space answer block);
}

pub failed_space : (was now : Option SessionState) (old new : List ℕ) (why : CallOutcome) (blocks entries : ℕ)
    (number : ℤ) → AnswersOrder Free was now old new (Err why) → blocks ≡ 0 → entries ≡ 0
    → number ≡ outcome_number why → ReturnsSpace was now blocks entries number
failed_space was now old new why blocks entries number answers no_blocks no_entries numbered = record {
  result = why;
  number_is = numbered;
  runs = failed-runs Free was now old new why (ReportsSpace blocks entries) ((blocks ≡ 0) × (entries ≡ 0)) answers
      (no_blocks, no_entries);
}
