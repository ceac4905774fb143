-- The guess law of runs, one after another, and what it says in numbers.
use Rattle.std.specs.Prelude.{◌≡◌, ◌≤◌, ◌+◌, ◌*◌, ℕ, List}
use Rattle.std.proofs.Common.{arith, ap, ap₂}
use Rattle.nvm_board.specs.Facts.{Facts}
use Rattle.undo_journal.specs.Spending.{WritesAtMost}
use Rattle.card_model.specs.declared.pins.TheConstants.{PINS}
use Rattle.card_model.specs.Secrets.{HasFewTries}
use Rattle.card_model.specs.Cards.{Card}
use Rattle.command_base.specs.Comparing.{comparisons}
use Rattle.card_model.specs.PinCommands.{pin_of}
use Rattle.card_model.specs.laws.PinLaws.{few-of}
use Rattle.command_base.specs.laws.FoundLaws.{found_is_proper}
use Rattle.bench_turns.specs.BenchStates.{BenchState, BenchHasCard, bench_card, bench_facts}
use Rattle.bench_turns.specs.Guessing.{GuessesFew, unblocking_guessed, value_guessed}
use Rattle.bench_turns.proofs.GuessesPaid.{nothing-paid, paid-few}

-- the card that is found stays, and nothing is compared
pub pays-nothing : (old new : BenchState) → bench_card new ≡ bench_card old
    → comparisons (bench_facts new) ≡ comparisons (bench_facts old) → GuessesFew old new
pays-nothing old new same nothing =
    paid-few old new
    (nothing-paid (bench_card old) (bench_card new) (comparisons (bench_facts old)) (comparisons (bench_facts new))
    (ap (λ (c : Card). c.pins) same) nothing)

-- what only writes compares nothing
pub writing-compares : (n : ℕ) (old new : Facts) → WritesAtMost n old new → comparisons new ≡ comparisons old
writing-compares n old new writes =
    ap₂ (λ (compares matches : List ℕ). record { compares = compares; matches = matches })
    writes.compares writes.matches

-- what is paid for in one run, and in the next one, is paid for in both
pub pays-on : (old between new : BenchState) → GuessesFew old between → GuessesFew between new → GuessesFew old new
pays-on old between new first second = record {
  values = λ n least most.
      let one = first.values n least most in let two = second.values n least most in omega (arith, one, two);
  unblocking_values = λ n least most.
      let one = first.unblocking_values n least most in let two = second.unblocking_values n least most in
      omega (arith, one, two);
}

-- the tries of each PIN of a card that is found
tries-few : (b : BenchState) (n : ℕ) → BenchHasCard b → HasFewTries (pin_of (bench_card b) n)
tries-few b n there = few-of (bench_card b) n (found_is_proper (bench_facts b).words there)

-- with so many renewals, at most so many comparisons: of a value, and of an unblocking value
pub few-values : (old new : BenchState) (n renewals : ℕ) → GuessesFew old new → BenchHasCard old → 1 ≤ n → n ≤ PINS
    → (value_guessed new n).renewals ≤ (value_guessed old n).renewals + renewals
    → (value_guessed new n).compares ≤ (value_guessed old n).compares + 3 * (1 + renewals)
few-values old new n renewals few there least most so =
    let paid = few.values n least most in let tries = (tries-few old n there).tries in omega (arith, paid, tries, so)

pub few-unblocking : (old new : BenchState) (n renewals : ℕ) → GuessesFew old new → BenchHasCard old → 1 ≤ n → n ≤ PINS
    → (unblocking_guessed new n).renewals ≤ (unblocking_guessed old n).renewals + renewals
    → (unblocking_guessed new n).compares ≤ (unblocking_guessed old n).compares + 10 * (1 + renewals)
few-unblocking old new n renewals few there least most so =
    let paid = few.unblocking_values n least most in let tries = (tries-few old n there).unblocking_tries in
    omega (arith, paid, tries, so)
