-- The changes of a PIN after a match. No public clause uses these definitions.
use Rattle.std.specs.Prelude.{ℕ}
use Rattle.undo_journal.specs.Spending.{transaction_writes}
use Rattle.pin_store.specs.declared.putting.Renewal.{Renewal}
use Rattle.pin_store.specs.declared.putting.Renewal.TheVariants.{Value, ValueAndTries, Mark}
use Rattle.card_model.specs.Secrets.{Pin, changed_pin, marked_pin, reset_pin}

-- The PIN after the change.
abbrev pub renewed_pin : Renewal → Pin → Pin
renewed_pin (Value new) pin = changed_pin new.now pin
renewed_pin (ValueAndTries new) pin = reset_pin new.now pin
renewed_pin (Mark enabled) pin = marked_pin enabled pin

-- The number of words set: tries and two of the value, with the unblocking tries or without; or tries and mark.
abbrev pub renewal_sets : Renewal → ℕ
renewal_sets (Value new) = 3
renewal_sets (ValueAndTries new) = 4
renewal_sets (Mark enabled) = 2

-- The number of runs of successive words. It is one only with the unblocking tries, which lie between tries and
-- value.
abbrev pub renewal_runs : Renewal → ℕ
renewal_runs (Value new) = 2
renewal_runs (ValueAndTries new) = 1
renewal_runs (Mark enabled) = 2

-- The device writes of the transaction.
abbrev pub renewing_writes : Renewal → ℕ
renewing_writes renewal = transaction_writes (renewal_sets renewal) (renewal_runs renewal)
