-- A PIN, its two secrets and its changes (ISO/IEC 7816-4, clause 11, basic security handling).
use Rattle.std.specs.Prelude.{ℕ, ◌≤◌, ◌+◌, ◌-◌, ◌%◌, Bool, true, nat_le, if◌then◌else◌, List}
use Rattle.card_model.specs.declared.pins.TheConstants.{PINS}
use Rattle.card_model.specs.declared.limits.TheConstants.{TRIES, UNBLOCKING_TRIES}

-- A PIN: its value and tries, its unblocking value and tries. `enabled` is true if verification is required.
pub record Pin : Type 0 where
  pub value : List ℕ
  pub tries : ℕ
  pub unblocking : List ℕ
  pub unblocking_tries : ℕ
  pub enabled : Bool

-- True for an unblocking value. Secrets 0 to 7 are the values of PIN 1 to 8, secrets 8 to 15 their unblocking values.
abbrev pub is_unblocking : ℕ → Bool
is_unblocking secret = nat_le PINS secret

-- The number of the value of PIN n among the secrets. `unblocking_of` is that of its unblocking value.
abbrev pub value_of : ℕ → ℕ
value_of n = n - 1

abbrev pub unblocking_of : ℕ → ℕ
unblocking_of n = PINS + (n - 1)

-- The index of the PIN that a secret belongs to. PIN 1 has index 0.
abbrev pub owner : ℕ → ℕ
owner secret = secret % PINS

-- The stored value of a secret, which a user must present.
abbrev pub kept : ℕ → Pin → List ℕ
kept secret pin = if is_unblocking secret then pin.unblocking else pin.value

-- The tries that are left of a secret. `full_tries` is their number after a match.
abbrev pub tries_left : ℕ → Pin → ℕ
tries_left secret pin = if is_unblocking secret then pin.unblocking_tries else pin.tries

abbrev pub full_tries : ℕ → ℕ
full_tries secret = if is_unblocking secret then UNBLOCKING_TRIES else TRIES

-- No more tries are left than the maximum.
pub record HasFewTries (pin : Pin) : Type 0 where
  pub tries : pin.tries ≤ TRIES
  pub unblocking_tries : pin.unblocking_tries ≤ UNBLOCKING_TRIES

-- The PIN with `n` tries left of a secret.
abbrev pub with_tries : ℕ → ℕ → Pin → Pin
with_tries secret n pin = record {
  value = pin.value;
  tries = if is_unblocking secret then pin.tries else n;
  unblocking = pin.unblocking;
  unblocking_tries = if is_unblocking secret then n else pin.unblocking_tries;
  enabled = pin.enabled;
}

-- The PIN with one try of a secret used up.
abbrev pub charged_pin : ℕ → Pin → Pin
charged_pin secret pin = with_tries secret (tries_left secret pin - 1) pin

-- The PIN after a match in VERIFY.
abbrev pub verified_pin : Pin → Pin
verified_pin pin = record pin { tries = TRIES }

-- The PIN after a match in CHANGE REFERENCE DATA: it has the new value.
abbrev pub changed_pin : List ℕ → Pin → Pin
changed_pin new pin = record pin { value = new; tries = TRIES }

-- The PIN after a match in RESET RETRY COUNTER: it has the new value, and both secrets have all their tries.
abbrev pub reset_pin : List ℕ → Pin → Pin
reset_pin new pin = record pin { value = new; tries = TRIES; unblocking_tries = UNBLOCKING_TRIES }

-- The PIN after a match in ENABLE or DISABLE VERIFICATION REQUIREMENT.
abbrev pub marked_pin : Bool → Pin → Pin
marked_pin enabled pin = record pin { tries = TRIES; enabled = enabled }

-- The PIN, enabled. A PIN whose page has no mark is enabled.
abbrev pub enabled_pin : Pin → Pin
enabled_pin pin = record pin { enabled = true }
