-- The checks and the end of a PIN command (ISO/IEC 7816-4, 11.5). No public clause names these.
use Rattle.std.specs.Prelude.{◌==◌, ℕ}
use Rattle.std.specs.Prelude.{◌∷◌, List, Option}
use Rattle.card_model.specs.declared.status.Sw.{Sw}
use Rattle.card_model.specs.declared.status.TheConstants.Sw.{DONE}
use Rattle.card_model.specs.declared.status.TheConstants.Sw.{METHOD_BLOCKED}
use Rattle.pin_store.specs.declared.errors.Outcome.{Outcome as AttemptEnd}
use Rattle.pin_store.specs.declared.errors.Outcome.TheVariants.{Matched, Wrong}
use Rattle.pin_commands.specs.declared.pins.Usable.{Usable}
use Rattle.pin_commands.specs.declared.pins.Usable.TheVariants.{WhileEnabled, WhileDisabled, InAnyCase}
use Rattle.card_model.specs.Behaviours.{Refusal, first_applying}
use Rattle.card_model.specs.PinCommands.{in_any_case, tries_status, while_disabled, while_enabled}
use Rattle.card_model.specs.Secrets.{Pin, tries_left}

-- the refusals of a command that presents a secret, by the PINs that it is for
abbrev pub use_refusals : Usable → Pin → List Refusal
use_refusals WhileEnabled = while_enabled
use_refusals WhileDisabled = while_disabled
use_refusals InAnyCase = in_any_case

abbrev pub refused_use : Usable → ℕ → Pin → Option Sw
refused_use usable secret pin =
    first_applying (record { applies = tries_left secret pin == 0; status = METHOD_BLOCKED } ∷ use_refusals usable pin)

abbrev pub end_of_attempt : AttemptEnd → Sw
end_of_attempt Matched = DONE
end_of_attempt (Wrong left) = tries_status left
