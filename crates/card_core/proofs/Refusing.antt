-- A command that answers no success changes nothing, but for a value of a PIN that was shown wrong.
use Rattle.std.specs.Prelude.{◌≡◌, ◌==◌, ◌⊎◌, ℕ, Bool, true, false, List, [], ◌∷◌, Option, Some, None, Result, Ok, Err}
use Rattle.std.specs.Prelude.{if◌then◌else◌, nat_lt, length, take}
use Rattle.std.proofs.Common.{inl, inr, refl}
use Rattle.card_model.specs.declared.life_cycle.LifeCycle.{LifeCycle}
use Rattle.card_model.specs.declared.life_cycle.LifeCycle.TheVariants.{Creation, Initialisation, Deactivated}
use Rattle.card_model.specs.declared.life_cycle.LifeCycle.TheVariants.{Activated, Terminated}
use Rattle.card_model.specs.declared.status.Sw.{Sw}
use Rattle.card_model.specs.declared.status.TheConstants.Sw.{CONDITIONS_NOT_SATISFIED, DONE, END_REACHED}
use Rattle.card_model.specs.BinaryCommands.{read_response}
use Rattle.card_model.specs.SelectCommand.{selection_status}
use Rattle.card_model.specs.RecordCommands.{search_status}
use Rattle.card_model.specs.PinCommands.{attempted, attempted_as, changing, marking, resetting, verifying}
use Rattle.card_model.specs.Requests.{Request, select, read_binary, update_binary, create_file, delete_file}
use Rattle.card_model.specs.Requests.{read_record, update_record, append_record, search_record, increase}
use Rattle.card_model.specs.Requests.{change_life_cycle, terminate_card_usage, verify, change_reference_data}
use Rattle.card_model.specs.Requests.{reset_retry_counter, change_requirement}
use Rattle.card_model.specs.Cards.{Card}
use Rattle.card_model.specs.Sessions.{Session}
use Rattle.card_model.specs.Behaviours.{Attempt, Outcome, Response, is_right, refused, refused_by, unless_refused}
use Rattle.card_model.specs.Steps.{attempt_of, behaviour_of, effect, outcome_of, refusals_of, served, step}
use Rattle.card_core.specs.Refused.{IsSuccess, LeavesAll, ShowsWrong, ShowsWrongBy}

abbrev EndsSo : Card → Session → Option Attempt → Outcome → Type 0
EndsSo c s shown o = LeavesAll c s o ⊎ IsSuccess o.response.status ⊎ ShowsWrongBy c shown o.response.status

-- the status words of what only looks
pub selection-success : (life : LifeCycle) → IsSuccess (selection_status life)
selection-success Creation = inl refl
selection-success Initialisation = inl refl
selection-success Deactivated = inr (inr (inl refl))
selection-success Activated = inl refl
selection-success Terminated = inr (inr (inr refl))

pub search-success : (numbers : List ℕ) → IsSuccess (search_status numbers)
search-success [] = inr (inl refl)
search-success (number ∷ numbers) = inl refl

abbrev read_as : Bool → Bool → List ℕ → ℕ → Response
read_as whole short rest expected =
    if whole then record { text = take 256 rest; status = DONE } else
    if short then record { text = rest; status = END_REACHED } else record { text = take expected rest; status = DONE }

pub read-success : (rest : List ℕ) (expected : ℕ) → IsSuccess (read_response rest expected).status
read-success rest expected = all (expected == 0) (nat_lt (length rest) expected)
  where
    all : (whole short : Bool) → IsSuccess (read_as whole short rest expected).status
    all true short = inl refl
    all false true = inr (inl refl)
    all false false = inl refl

-- what is shown of a PIN
attempted-so : (c : Card) (s : Session) (a : Attempt) (right : Bool) → is_right c a ≡ right
    → EndsSo c s (Some a) (attempted_as c s a right)
attempted-so c s a true is = inr (inl (inl refl))
attempted-so c s a false is = inr (inr (is, refl))

attempt-so : (c : Card) (s : Session) (a : Attempt) → EndsSo c s (Some a) (attempted c s a)
attempt-so c s a = attempted-so c s a (is_right c a) refl

-- what a request does
effect-so : (c : Card) (s : Session) (request : Request)
    → EndsSo c s (attempt_of request) ((behaviour_of request).effect c s)
effect-so c s (select selection returned expected) = inr (inl (selection-success _))
effect-so c s (read_binary target offset expected) = inr (inl (read-success _ expected))
effect-so c s (update_binary target offset bytes) = inr (inl (inl refl))
effect-so c s (create_file template) = inr (inl (inl refl))
effect-so c s (delete_file subject) = inr (inl (inl refl))
effect-so c s (read_record target choice expected) = inr (inl (inl refl))
effect-so c s (update_record target choice bytes) = inr (inl (inl refl))
effect-so c s (append_record target bytes) = inr (inl (inl refl))
effect-so c s (search_record target first direction text expected) = inr (inl (search-success _))
effect-so c s (increase sent expected) = inr (inl (inl refl))
effect-so c s (change_life_cycle change subject) = inr (inl (inl refl))
effect-so c s terminate_card_usage = inr (inl (inl refl))
effect-so c s (verify pin None) = inl (refl, refl)
effect-so c s (verify pin (Some shown)) = attempt-so c s (verifying pin shown)
effect-so c s (change_reference_data pin shown new) = attempt-so c s (changing pin shown new)
effect-so c s (reset_retry_counter pin None) = inl (refl, refl)
effect-so c s (reset_retry_counter pin (Some values)) = attempt-so c s (resetting pin values.0 values.1)
effect-so c s (change_requirement change pin shown) = attempt-so c s (marking change pin shown)

unless-so : (c : Card) (s : Session) (shown : Option Attempt) (refusal : Option Sw) (done : Outcome)
    → EndsSo c s shown done → EndsSo c s shown (unless_refused c s refusal done)
unless-so c s shown None done so = so
unless-so c s shown (Some status) done so = inl (refl, refl)

served-so : (c : Card) (s : Session) (request : Request) → EndsSo c s (attempt_of request) (served c s request)
unfolding served effect
served-so c s request =
    unless-so c s (attempt_of request) (refused_by (refusals_of c s request)) _ (effect-so c s request)

step-so : (c : Card) (s : Session) (request : Request) → EndsSo c s (attempt_of request) (step c s request)
unfolding step
step-so c s request = by c.in_use
  where
    by : (in_use : Bool) → EndsSo c s (attempt_of request)
        (if in_use then served c s request else refused c s CONDITIONS_NOT_SATISFIED)
    by true = served-so c s request
    by false = inl (refl, refl)

pub refusals-leave : (c : Card) (s : Session) (wanted : Result Request Sw) → LeavesAll c s (outcome_of c s wanted)
    ⊎ IsSuccess (outcome_of c s wanted).response.status
    ⊎ ShowsWrong c wanted (outcome_of c s wanted).response.status
refusals-leave c s (Ok request) = step-so c s request
refusals-leave c s (Err status) = inl (refl, refl)
