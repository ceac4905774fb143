-- Commands on PINs: VERIFY, CHANGE REFERENCE DATA, RESET RETRY COUNTER, ENABLE and DISABLE VERIFICATION REQUIREMENT
-- (ISO/IEC 7816-4, 11.5 and 11.6).
use Rattle.std.specs.Prelude.{ℕ, ◌==◌, Bool, true, false, not, List, [], ◌∷◌, Option, option_map, Some, None}
use Rattle.std.specs.FinSet.{insert, remove}
use Rattle.std.specs.Option.{option_map_or}
use Rattle.card_model.specs.declared.status.TheConstants.Sw.{CONDITIONS_NOT_SATISFIED, DONE, METHOD_BLOCKED}
use Rattle.card_model.specs.declared.status.TheConstants.Sw.{REFERENCE_DATA_NOT_USABLE}
use Rattle.card_model.specs.declared.requests.RequirementChange.{RequirementChange}
use Rattle.card_model.specs.declared.requests.RequirementChange.TheVariants.{Disable, Enable}
use Rattle.card_model.specs.Secrets.{changed_pin, marked_pin, reset_pin, verified_pin}
use Rattle.card_model.specs.Behaviours.{attempt_commits, charged_card, is_right, settled_card, tries_of, Behaviour}
use Rattle.card_model.specs.Behaviours.{Outcome, Refusal, Refusals, no_refusals, only_status}
use Rattle.card_model.specs.Cards.{Card, Pin}
use Rattle.card_model.specs.Sessions.{Session}
pub use Rattle.card_model.specs.StatusWords.{tries_status}
pub use Rattle.card_model.specs.Behaviours.{Attempt, no_pin, pin_of, unblocking_of, value_of}

-- The value of a disabled PIN only serves to enable it. A PIN that is enabled can't be enabled again.
abbrev pub while_enabled : Pin → List Refusal
while_enabled pin = record { applies = not pin.enabled; status = REFERENCE_DATA_NOT_USABLE } ∷ []

abbrev pub while_disabled : Pin → List Refusal
while_disabled pin = record { applies = pin.enabled; status = CONDITIONS_NOT_SATISFIED } ∷ []

-- The unblocking value can be used in either state.
abbrev pub in_any_case : Pin → List Refusal
in_any_case pin = []

-- The attempt that each command makes.
abbrev pub verifying : ℕ → List ℕ → Attempt
verifying n shown = record {
  pin = n;
  secret = value_of n;
  shown = shown;
  unusable = while_enabled;
  becomes = verified_pin;
  renews = false;
  unverifies = true;
}

abbrev pub changing : ℕ → List ℕ → List ℕ → Attempt
changing n shown new = record {
  pin = n;
  secret = value_of n;
  shown = shown;
  unusable = while_enabled;
  becomes = changed_pin new;
  renews = true;
  unverifies = true;
}

abbrev pub resetting : ℕ → List ℕ → List ℕ → Attempt
resetting n shown new = record {
  pin = n;
  secret = unblocking_of n;
  shown = shown;
  unusable = in_any_case;
  becomes = reset_pin new;
  renews = true;
  unverifies = false;
}

-- The mark that DISABLE and ENABLE VERIFICATION REQUIREMENT set: true for enabled.
abbrev pub is_enabled_by : RequirementChange → Bool
is_enabled_by Disable = false
is_enabled_by Enable = true

abbrev pub unusable_by : RequirementChange → Pin → List Refusal
unusable_by Disable = while_enabled
unusable_by Enable = while_disabled

abbrev pub marking : RequirementChange → ℕ → List ℕ → Attempt
marking change n shown = record {
  pin = n;
  secret = value_of n;
  shown = shown;
  unusable = unusable_by change;
  becomes = marked_pin (is_enabled_by change);
  renews = true;
  unverifies = true;
}

-- An attempt is refused if no try is left, and then if the PIN's state doesn't allow it. A refused attempt compares
-- nothing and uses up no try. A query is never refused.
abbrev pub attempt_refusals : Card → Attempt → Refusals
attempt_refusals c a = record no_refusals {
  limits = record { applies = tries_of c a.pin a.secret == 0; status = METHOD_BLOCKED } ∷ a.unusable (pin_of c a.pin);
}

abbrev pub pin_refusals : Card → Option Attempt → Refusals
pin_refusals c None = no_refusals
pin_refusals c (Some a) = attempt_refusals c a

-- After a match the PIN is verified. After a mismatch of its value it no longer is.
abbrev pub verifying_session : Session → Attempt → Session
verifying_session s a = record s { verified = insert s.verified a.pin }

abbrev pub unverified : Session → Attempt → Bool → Session
unverified s a true = record s { verified = remove s.verified a.pin }
unverified s a false = s

-- The effect of an attempt. The answer to a mismatch gives the tries left.
abbrev pub attempted_as : Card → Session → Attempt → Bool → Outcome
attempted_as c s a true = record {
  card = settled_card c a;
  session = verifying_session s a;
  response = only_status DONE;
}
attempted_as c s a false = record {
  card = charged_card c a;
  session = unverified s a a.unverifies;
  response = only_status (tries_status (tries_of (charged_card c a) a.pin a.secret));
}

abbrev pub attempted : Card → Session → Attempt → Outcome
attempted c s a = attempted_as c s a (is_right c a)

-- The effect of a query: the answer gives the tries left of the secret, and nothing changes.
abbrev pub told_tries : Card → Session → ℕ → ℕ → Outcome
told_tries c s n secret = record { card = c; session = s; response = only_status (tries_status (tries_of c n secret)) }

abbrev pub pin_effect : Card → Session → ℕ → ℕ → Option Attempt → Outcome
pin_effect c s n secret None = told_tries c s n secret
pin_effect c s n secret (Some a) = attempted c s a

-- The cards after each commit.
abbrev pub pin_commits : Card → Option Attempt → List Card
pin_commits c None = []
pin_commits c (Some a) = attempt_commits c a

-- A command on a secret of PIN n: an attempt, or a query of the tries left.
abbrev pub shows : ℕ → ℕ → Option Attempt → Behaviour
shows n secret shown = record {
  refusals = λ c s. pin_refusals c shown;
  effect = λ c s. pin_effect c s n secret shown;
  commits = λ c s. pin_commits c shown;
  shown = shown;
}

abbrev pub on_verify : ℕ → Option (List ℕ) → Behaviour
on_verify n shown = shows n (value_of n) (option_map (verifying n) shown)

abbrev pub on_change_reference_data : ℕ → List ℕ → List ℕ → Behaviour
on_change_reference_data n shown new = shows n (value_of n) (Some (changing n shown new))

abbrev pub on_reset_retry_counter : ℕ → Option (List ℕ × List ℕ) → Behaviour
on_reset_retry_counter n values =
    shows n (unblocking_of n) (option_map (λ values. resetting n values.0 values.1) values)

abbrev pub on_change_requirement : RequirementChange → ℕ → List ℕ → Behaviour
on_change_requirement change n shown = shows n (value_of n) (Some (marking change n shown))
