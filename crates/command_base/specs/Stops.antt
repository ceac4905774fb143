-- How a command ends that stops early, and the postconditions of such ends.
-- No clause of the card's calls names this.
use Rattle.std.specs.Prelude.{◌≡◌, Option, Some, None, Result, Ok, Err}
use Rattle.card_model.specs.declared.status.Sw.{Sw}
use Rattle.card_model.specs.declared.status.TheConstants.Sw.{METHOD_BLOCKED}
use Rattle.undo_journal.specs.declared.error.StoreErr.{StoreErr}
use Rattle.undo_journal.specs.StoreCalls.{Reads}
use Rattle.undo_journal.specs.Memory.{Memory}
use Rattle.ef_contents.specs.declared.error.BodyErr.{BodyErr}
use Rattle.ef_contents.specs.declared.error.BodyErr.TheVariants as body
use Rattle.pin_store.specs.declared.errors.PinErr.{PinErr}
use Rattle.pin_store.specs.declared.errors.PinErr.TheVariants as pin
use Rattle.command_base.specs.declared.stop.Stop.{Stop}
use Rattle.command_base.specs.declared.stop.Stop.TheVariants.{Refused, Failed}

-- why a command on a body or on a PIN stops; a blocked PIN is a refusal
abbrev pub stop_of_body : BodyErr → Stop
stop_of_body (body.Refused status) = Refused status
stop_of_body (body.Store e) = Failed e

abbrev pub stop_of_pin : PinErr → Stop
stop_of_pin pin.Blocked = Refused METHOD_BLOCKED
stop_of_pin (pin.Store e) = Failed e

-- the store's failure, if any; a refusal is no failure
abbrev pub failure_of : Stop → Option StoreErr
failure_of (Refused status) = None
failure_of (Failed e) = Some e

abbrev pub failure : {T : Type 0} → Result T Stop → Option StoreErr
failure (Ok x) = None
failure (Err stop) = failure_of stop

-- the answer of a command: a refusal gives its status word
abbrev pub reply : Result Sw Stop → Result Sw StoreErr
reply (Ok status) = Ok status
reply (Err (Refused status)) = Ok status
reply (Err (Failed e)) = Err e

-- a statement about the status word of a refusal
abbrev pub IfRefused : Stop → (Sw → Type 0) → Type 0
IfRefused (Refused status) said = said status
IfRefused (Failed e) said = Unit {0}

-- a statement about the result, or else about the refusal's status word; none if the store failed
abbrev pub FindsOrRefuses : {T : Type 0} → Result T Stop → (T → Type 0) → (Sw → Type 0) → Type 0
FindsOrRefuses (Ok x) found refused = found x
FindsOrRefuses (Err stop) found refused = IfRefused stop refused

-- Calls that only read, outside a transaction. They return what a command needs or the refusal that is due, unless the
-- store fails.
pub record Looks {T : Type 0} (old new : Memory) (result : Result T Stop) (found : T → Type 0) (refused : Sw → Type 0)
    : Type 0 where
  pub told : FindsOrRefuses result found refused
  pub store : Reads old new (failure result)

-- a check without a result: it refuses if and only if a refusal is due
abbrev pub Checks : {T : Type 0} → Memory → Memory → Option Sw → Result T Stop → Type 0
Checks old new due result = Looks old new result (λ _. due ≡ None) (λ status. due ≡ Some status)
