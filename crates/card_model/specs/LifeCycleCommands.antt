-- Life cycle commands: ACTIVATE FILE, DEACTIVATE FILE, TERMINATE DF, TERMINATE EF and TERMINATE CARD USAGE (ISO/IEC
-- 7816-9).
use Rattle.std.specs.Prelude.{◌==◌, ℕ, Bool, true, false, not, if◌then◌else◌, List, [], ◌∷◌, Option, Some, is_none}
use Rattle.std.specs.Prelude.{unwrap_or}
use Rattle.std.specs.FinMap.{insert}
use Rattle.card_model.specs.declared.access_mode.AccessBit.{AccessBit}
use Rattle.card_model.specs.declared.life_cycle.LifeCycle.{LifeCycle}
use Rattle.card_model.specs.declared.life_cycle.LifeCycleCommand.{LifeCycleCommand}
use Rattle.card_model.specs.declared.status.Sw.{Sw}
use Rattle.card_model.specs.declared.status.TheConstants.Sw.{DONE, FILE_NOT_FOUND, NO_CURRENT_EF, WRONG_STRUCTURE}
use Rattle.card_model.specs.LifeCycle.{life_cycle_byte}
use Rattle.card_model.specs.declared.requests.Subject.{Subject}
use Rattle.card_model.specs.declared.requests.Subject.TheVariants.{Current, Identifier}
use Rattle.card_model.specs.declared.requests.LifeCycleChange.{LifeCycleChange}
use Rattle.card_model.specs.declared.requests.LifeCycleChange.TheVariants.{Activate, Deactivate, TerminateDf}
use Rattle.card_model.specs.declared.requests.LifeCycleChange.TheVariants.{TerminateEf}
use Rattle.card_model.specs.FileLives.{life_at, next_life, with_life}
use Rattle.card_model.specs.Behaviours.{Behaviour, changes, Outcome, Refusals, no_refusals, only_status}
use Rattle.card_model.specs.Cards.{Card, Kind, Path, Tree, dedicated, elementary, file_at}
use Rattle.card_model.specs.Guards.{denied, no_next_life}
use Rattle.card_model.specs.Reaching.{current_elementary, subject_or}
use Rattle.card_model.specs.SelectCommand.{selecting}
use Rattle.card_model.specs.Sessions.{Session}
use Rattle.card_model.specs.declared.access_mode.AccessBit.TheVariants as bit
use Rattle.card_model.specs.declared.life_cycle.LifeCycleCommand.TheVariants as command

-- The command's row in the table of life cycle states.
abbrev pub command_of : LifeCycleChange → LifeCycleCommand
command_of Activate = command.Activate
command_of Deactivate = command.Deactivate
command_of TerminateDf = command.Terminate
command_of TerminateEf = command.Terminate

-- The operation that the file's rule must allow.
abbrev pub change_bit : LifeCycleChange → AccessBit
change_bit Activate = bit.Activate
change_bit Deactivate = bit.Deactivate
change_bit TerminateDf = bit.Terminate
change_bit TerminateEf = bit.Terminate

-- The files that the command works on.
abbrev pub is_for : LifeCycleChange → Kind → Bool
is_for Activate kind = true
is_for Deactivate kind = true
is_for TerminateDf (dedicated name) = true
is_for TerminateDf (elementary short body) = false
is_for TerminateEf (dedicated name) = false
is_for TerminateEf (elementary short body) = true

-- The file that a command without data works on. For TERMINATE DF it is the current DF, for TERMINATE EF the current
-- EF. For the others it is the current EF, or the current DF if there is no current EF.
abbrev pub current_subject : Session → LifeCycleChange → Option Path
current_subject s TerminateDf = Some s.current_df
current_subject s TerminateEf = current_elementary s
current_subject s Activate = Some (unwrap_or (current_elementary s) s.current_df)
current_subject s Deactivate = Some (unwrap_or (current_elementary s) s.current_df)

abbrev pub changed_file : Tree → Session → LifeCycleChange → Subject → Option Path
changed_file tree s change = subject_or (current_subject s change) tree s

-- The path of the file. If there is none the command is refused, whatever the path.
abbrev pub changed_path : Card → Session → LifeCycleChange → Subject → Path
changed_path c s change subject = unwrap_or (changed_file c.tree s change subject) []

abbrev pub no_subject : Subject → Sw
no_subject Current = NO_CURRENT_EF
no_subject (Identifier id) = FILE_NOT_FOUND

-- The refusals of a life cycle command on a file. The file doesn't exist. An ancestor is deactivated or terminated,
-- or the file's state doesn't allow the change. The file is of the wrong kind. Its rule doesn't allow the change.
abbrev pub change_refusals : Card → Session → LifeCycleChange → Subject → Refusals
change_refusals c s change subject =
    let path = changed_path c s change subject in
    record no_refusals {
      target = record { applies = is_none (changed_file c.tree s change subject); status = no_subject subject } ∷ [];
      life_cycle = no_next_life c path (command_of change) ∷ [];
      structure = record { applies = not (is_for change (file_at c.tree path).kind); status = WRONG_STRUCTURE } ∷ [];
      access = denied c s path (change_bit change) ∷ [];
    }

-- The state after the change. If there is none the command is refused, and the state is the present one.
abbrev pub changed_life : Card → Session → LifeCycleChange → Subject → LifeCycle
changed_life c s change subject =
    let path = changed_path c s change subject in
    unwrap_or (next_life c.tree path (command_of change)) (life_at c.tree path)

-- The card with another state of the file at a path.
abbrev pub with_life_at : Card → Path → LifeCycle → Card
with_life_at c path life = record c { tree = insert c.tree path (with_life (file_at c.tree path) life) }

abbrev pub changed_card : Card → Session → LifeCycleChange → Subject → Card
changed_card c s change subject = with_life_at c (changed_path c s change subject) (changed_life c s change subject)

-- The effect: the file becomes current anew, even if its state doesn't change.
abbrev pub life_changed : Card → Session → LifeCycleChange → Subject → Outcome
life_changed c s change subject =
    let path = changed_path c s change subject in
    record {
      card = changed_card c s change subject;
      session = selecting s path (file_at c.tree path).kind;
      response = only_status DONE;
    }

-- A change to the state that the file already has commits nothing.
abbrev pub life_commits : Card → Session → LifeCycleChange → Subject → List Card
life_commits c s change subject =
    if life_cycle_byte (changed_life c s change subject)
    == life_cycle_byte (life_at c.tree (changed_path c s change subject)) then [] else
    changed_card c s change subject ∷ []

abbrev pub on_change_life_cycle : LifeCycleChange → Subject → Behaviour
on_change_life_cycle change subject =
    record (changes (λ c s. change_refusals c s change subject) (λ c s. life_changed c s change subject)) {
      commits = λ c s. life_commits c s change subject;
    }

-- TERMINATE CARD USAGE: only the rule of the MF can refuse it.
abbrev pub terminate_card_refusals : Card → Session → Refusals
terminate_card_refusals c s = record no_refusals { access = denied c s [] bit.Terminate ∷ [] }

-- The card after TERMINATE CARD USAGE.
abbrev pub terminated_card : Card → Card
terminated_card c = record c { in_use = false }

abbrev pub card_terminated : Card → Session → Outcome
card_terminated c s = record { card = terminated_card c; session = s; response = only_status DONE }

abbrev pub on_terminate_card_usage : Behaviour
on_terminate_card_usage = changes terminate_card_refusals card_terminated
