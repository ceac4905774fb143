-- What becomes of a PIN has no more tries left than there may be.
use Rattle.std.specs.Prelude.{if◌then◌else◌}
use Rattle.std.proofs.Common.{◌≤◌, ℕ, Bool, true, false, List}
use Rattle.std.proofs.Common.{arith}
use Rattle.card_model.specs.Secrets.{Pin, HasFewTries, changed_pin, is_unblocking, reset_pin}
use Rattle.card_model.specs.Secrets.{tries_left, verified_pin, marked_pin, with_tries}

-- no change of a PIN gives it more tries than there may be
pub with_few : (secret n : ℕ) (pin : Pin) → n ≤ tries_left secret pin → HasFewTries pin
    → HasFewTries (with_tries secret n pin)
with_few secret n pin fewer few = by (is_unblocking secret) fewer
  where
    by : (unblocking : Bool) → n ≤ (if unblocking then pin.unblocking_tries else pin.tries) → HasFewTries (record {
      value = pin.value;
      tries = if unblocking then pin.tries else n;
      unblocking = pin.unblocking;
      unblocking_tries = if unblocking then n else pin.unblocking_tries;
      enabled = pin.enabled;
    })
    by true least = record {
      tries = few.tries;
      unblocking_tries = let most = few.unblocking_tries in omega (arith, most, least);
    }
    by false least = record {
      tries = let most = few.tries in omega (arith, most, least);
      unblocking_tries = few.unblocking_tries;
    }

pub verified_few : (pin : Pin) → HasFewTries pin → HasFewTries (verified_pin pin)
verified_few pin few = record { tries = omega arith; unblocking_tries = few.unblocking_tries }

pub changed_few : (new : List ℕ) (pin : Pin) → HasFewTries pin → HasFewTries (changed_pin new pin)
changed_few new pin few = record { tries = omega arith; unblocking_tries = few.unblocking_tries }

pub reset_few : (new : List ℕ) (pin : Pin) → HasFewTries (reset_pin new pin)
reset_few new pin = record { tries = omega arith; unblocking_tries = omega arith }

pub marked_few : (enabled : Bool) (pin : Pin) → HasFewTries pin → HasFewTries (marked_pin enabled pin)
marked_few enabled pin few = record { tries = omega arith; unblocking_tries = few.unblocking_tries }
