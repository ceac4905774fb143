-- A command that finds no file is refused for that, before anything else of it is looked at.
use Rattle.std.proofs.Common.{◌≡◌, Bool, true, false, Option, Some, None, is_none, if◌then◌else◌, refl, sym}
use Rattle.std.proofs.Common.{ap, true≢false}
use Rattle.card_model.specs.declared.status.Sw.{Sw}
use Rattle.card_model.specs.declared.status.TheConstants.Sw.{FILE_NOT_FOUND}
use Rattle.card_model.specs.declared.requests.Subject.{Subject}
use Rattle.card_model.specs.declared.requests.LifeCycleChange.{LifeCycleChange}
use Rattle.card_model.specs.Cards.{Card}
use Rattle.card_model.specs.FileCommands.{delete_refusals}
use Rattle.card_model.specs.Reaching.{subject_of}
use Rattle.card_model.specs.LifeCycleCommands.{change_refusals, changed_file, no_subject}
use Rattle.card_model.specs.Behaviours.{refused_by}
use Rattle.card_model.specs.Sessions.{Session}

-- the first of several refusals
first : (b : Bool) (status : Sw) (rest : Option Sw) → b ≡ true → (if b then Some status else rest) ≡ Some status
first true status rest is = refl
first false status rest is = absurd (true≢false (sym is))

-- a command on life cycles
pub change-missed : (c : Card) (s : Session) (change : LifeCycleChange) (subject : Subject)
    → changed_file c.tree s change subject ≡ None
    → refused_by (change_refusals c s change subject) ≡ Some (no_subject subject)
change-missed c s change subject place =
    first (is_none (changed_file c.tree s change subject)) (no_subject subject) _ (ap is_none place)

-- DELETE FILE
pub delete-missed : (c : Card) (s : Session) (subject : Subject) → subject_of c.tree s subject ≡ None
    → refused_by (delete_refusals c s subject) ≡ Some FILE_NOT_FOUND
delete-missed c s subject place = first (is_none (subject_of c.tree s subject)) FILE_NOT_FOUND _ (ap is_none place)
