-- No step answers 6581.
use Rattle.std.specs.Prelude.{◌≡◌, ◌≢◌, ◌==◌, ◌≤◌, ◌-◌, ℕ, Bool, true, false, List, [], ◌∷◌, Option, Some, None}
use Rattle.std.specs.Prelude.{Result, Ok, Err, All, IfSome, IfErr, length, is_some}
use Rattle.std.proofs.Common.{◌∙◌, arith, inl, inr, refl, sym, ap, true≢false}
use Rattle.std.proofs.lemmas.Bool.{eq-eqb}
use Rattle.std.proofs.lemmas.List.Elements.{All-set}
use Rattle.card_model.specs.declared.status.Sw.{Sw}
use Rattle.card_model.specs.declared.status.TheConstants.Sw.{CONDITIONS_NOT_SATISFIED, MEMORY_FAILURE, UNKNOWN_CLASS}
use Rattle.card_model.specs.declared.status.TheConstants.Sw.{WRONG_LENGTH, WRONG_PARAMETERS}
use Rattle.card_model.specs.Secrets.{HasFewTries, charged_pin, is_unblocking, tries_left}
use Rattle.card_model.specs.laws.FewTries.{with_few}
use Rattle.card_model.specs.declared.requests.RequirementChange.{RequirementChange}
use Rattle.card_model.specs.declared.requests.RequirementChange.TheVariants.{Disable, Enable}
use Rattle.card_model.specs.declared.requests.Subject.{Subject}
use Rattle.card_model.specs.declared.requests.Subject.TheVariants as subjects
use Rattle.card_model.specs.declared.requests.Target.{Target}
use Rattle.card_model.specs.declared.requests.Target.TheVariants.{Current, Short}
use Rattle.card_model.specs.Guards.{missing}
use Rattle.card_model.specs.CommandTable.{SentBody, Row, asked, asked_by_body, asked_by_row, sent_body, is_class}
use Rattle.card_model.specs.CommandTable.{row_of}
use Rattle.card_model.specs.LifeCycleCommands.{no_subject}
use Rattle.card_model.specs.PinCommands.{attempted, attempted_as, changing, marking, resetting, verifying, no_pin}
use Rattle.card_model.specs.PinCommands.{pin_of, tries_status, unblocking_of, unusable_by, value_of}
use Rattle.card_model.specs.Requests.{Request, select, read_binary, update_binary, create_file, delete_file}
use Rattle.card_model.specs.Requests.{read_record, update_record, append_record, search_record, increase}
use Rattle.card_model.specs.Requests.{change_life_cycle, terminate_card_usage, verify, change_reference_data}
use Rattle.card_model.specs.Requests.{reset_retry_counter, change_requirement}
use Rattle.card_model.specs.Cards.{Card, Pin, IsProper}
use Rattle.card_model.specs.Sessions.{Session}
use Rattle.card_model.specs.Behaviours.{Attempt, Outcome, Refusal, charged_card, first_applying, in_order, is_right}
use Rattle.card_model.specs.Behaviours.{refused, refused_by, tries_of, unless_refused}
use Rattle.card_model.specs.Steps.{behaviour_of, carried_out, effect, outcome_of, refusals_of, served, step}
use Rattle.card_model.specs.laws.ProperLaws.{at-or, either-if}
use Rattle.card_model.specs.laws.PinLaws.{ten-tries}
use Rattle.card_core.specs.Refused.{IsSuccess}
use Rattle.card_core.proofs.Refusing.{read-success, search-success, selection-success}

abbrev IsOther : Sw → Type 0
IsOther status = status.0 ≢ 0x6581

-- a number that is another
other : (n : ℕ) → (n == 0x6581) ≡ false → n ≢ 0x6581
other n differs is = true≢false (sym (eq-eqb n 0x6581 is) ∙ differs)

-- each refusal has another status word
abbrev AreOther : List Refusal → Type 0
AreOther [] = Unit {0}
AreOther (refusal ∷ refusals) = IsOther refusal.status × AreOther refusals

first-other : (refusals : List Refusal) → AreOther refusals → IfSome (first_applying refusals) IsOther
first-other [] others = tt
first-other (refusal ∷ refusals) others =
    either-if (λ (o : Option Sw). IfSome o IsOther) refusal.applies (Some refusal.status) (first_applying refusals)
    others.0 (first-other refusals others.1)

missing-other : (target : Target) → IsOther (missing target)
missing-other Current = other _ refl
missing-other (Short n) = other _ refl

subject-other : (subject : Subject) → IsOther (no_subject subject)
subject-other subjects.Current = other _ refl
subject-other (subjects.Identifier id) = other _ refl

unusable-other : (change : RequirementChange) (pin : Pin) → AreOther (unusable_by change pin)
unusable-other Disable pin = (other _ refl, tt)
unusable-other Enable pin = (other _ refl, tt)

-- the refusals of each request
refusals-other : (c : Card) (s : Session) (request : Request)
    → AreOther (in_order ((behaviour_of request).refusals c s))
refusals-other c s (select selection returned expected) = (other _ refl, (λ is. absurd (omega (arith, is)), tt))
refusals-other c s (read_binary target offset expected) =
    (missing-other target, (other _ refl, (other _ refl, (other _ refl, (other _ refl, tt)))))
refusals-other c s (update_binary target offset bytes) =
    (missing-other target, (other _ refl, (other _ refl, (other _ refl, (other _ refl, (other _ refl, tt))))))
refusals-other c s (create_file template) = (
  other _ refl,
  (
    other _ refl,
    (
      other _ refl,
      (other _ refl, (other _ refl, (other _ refl, (other _ refl, (other _ refl, tt))))),
    ),
  ),
)
refusals-other c s (delete_file subject) =
    (other _ refl, (other _ refl, (other _ refl, (other _ refl, tt))))
refusals-other c s (read_record target choice expected) = (
  missing-other target,
  (other _ refl, (other _ refl, (other _ refl, (other _ refl, (λ is. absurd (omega (arith, is)), tt))))),
)
refusals-other c s (update_record target choice bytes) =
    (missing-other target, (other _ refl, (other _ refl, (other _ refl, (other _ refl, (other _ refl, tt))))))
refusals-other c s (append_record target bytes) =
    (missing-other target, (other _ refl, (other _ refl, (other _ refl, (other _ refl, (other _ refl, tt))))))
refusals-other c s (search_record target first direction text expected) = (
  missing-other target,
  (other _ refl, (other _ refl, (other _ refl, (other _ refl, (λ is. absurd (omega (arith, is)), tt))))),
)
refusals-other c s (increase sent expected) = (
  missing-other Current,
  (
    other _ refl,
    (
      other _ refl,
      (
        other _ refl,
        (other _ refl, (other _ refl, (other _ refl, (λ is. absurd (omega (arith, is)), tt)))),
      ),
    ),
  ),
)
refusals-other c s (change_life_cycle change subject) =
    (subject-other subject, (other _ refl, (other _ refl, (other _ refl, tt))))
refusals-other c s terminate_card_usage = (other _ refl, tt)
refusals-other c s (verify pin None) = tt
refusals-other c s (verify pin (Some shown)) = (other _ refl, (other _ refl, tt))
refusals-other c s (change_reference_data pin shown new) = (other _ refl, (other _ refl, tt))
refusals-other c s (reset_retry_counter pin None) = tt
refusals-other c s (reset_retry_counter pin (Some values)) = (other _ refl, tt)
refusals-other c s (change_requirement change pin shown) = (other _ refl, unusable-other change (pin_of c pin))

-- a success
success-other : (status : Sw) → IsSuccess status → IsOther status
success-other status (inl done) is = omega (arith, done, is)
success-other status (inr (inl end)) is = omega (arith, end, is)
success-other status (inr (inr (inl asleep))) is = omega (arith, asleep, is)
success-other status (inr (inr (inr ended))) is = omega (arith, ended, is)

-- at most ten tries are left of any secret
few-pin : (c : Card) (n : ℕ) → All HasFewTries c.pins → HasFewTries (pin_of c n)
few-pin c n few =
    at-or HasFewTries c.pins (n - 1) no_pin (record { tries = omega arith; unblocking_tries = omega arith }) few

few-charged : (c : Card) (a : Attempt) → All HasFewTries c.pins → All HasFewTries (charged_card c a).pins
few-charged c a few =
    let pin = pin_of c a.pin in
    let fewer : tries_left a.secret pin - 1 ≤ tries_left a.secret pin = omega arith in
    All-set HasFewTries c.pins (a.pin - 1) (charged_pin a.secret pin)
    (with_few a.secret (tries_left a.secret pin - 1) pin fewer (few-pin c a.pin few)) few

told-other : (c : Card) (n secret : ℕ) → All HasFewTries c.pins → IsOther (tries_status (tries_of c n secret))
told-other c n secret few =
    let most = ten-tries (is_unblocking secret) (pin_of c n) (few-pin c n few) in λ is. omega (arith, most, is)

attempt-other : (c : Card) (s : Session) (a : Attempt) (right : Bool) → All HasFewTries c.pins
    → IsOther (attempted_as c s a right).response.status
attempt-other c s a true few = other _ refl
attempt-other c s a false few = told-other (charged_card c a) a.pin a.secret (few-charged c a few)

shown-other : (c : Card) (s : Session) (a : Attempt) → All HasFewTries c.pins
    → IsOther (attempted c s a).response.status
shown-other c s a few = attempt-other c s a (is_right c a) few

-- what each request answers that isn't refused
effect-other : (c : Card) (s : Session) (request : Request) → All HasFewTries c.pins
    → IsOther ((behaviour_of request).effect c s).response.status
effect-other c s (select selection returned expected) few = success-other _ (selection-success _)
effect-other c s (read_binary target offset expected) few = success-other _ (read-success _ expected)
effect-other c s (update_binary target offset bytes) few = other _ refl
effect-other c s (create_file template) few = other _ refl
effect-other c s (delete_file subject) few = other _ refl
effect-other c s (read_record target choice expected) few = other _ refl
effect-other c s (update_record target choice bytes) few = other _ refl
effect-other c s (append_record target bytes) few = other _ refl
effect-other c s (search_record target first direction text expected) few = success-other _ (search-success _)
effect-other c s (increase sent expected) few = other _ refl
effect-other c s (change_life_cycle change subject) few = other _ refl
effect-other c s terminate_card_usage few = other _ refl
effect-other c s (verify pin None) few = told-other c pin (value_of pin) few
effect-other c s (verify pin (Some shown)) few = shown-other c s (verifying pin shown) few
effect-other c s (change_reference_data pin shown new) few = shown-other c s (changing pin shown new) few
effect-other c s (reset_retry_counter pin None) few = told-other c pin (unblocking_of pin) few
effect-other c s (reset_retry_counter pin (Some values)) few =
    shown-other c s (resetting pin values.0 values.1) few
effect-other c s (change_requirement change pin shown) few = shown-other c s (marking change pin shown) few

unless-other : (c : Card) (s : Session) (refusal : Option Sw) (done : Outcome) → IfSome refusal IsOther
    → IsOther done.response.status → IsOther (unless_refused c s refusal done).response.status
unless-other c s None done refuses does = does
unless-other c s (Some status) done refuses does = refuses

served-other : (c : Card) (s : Session) (request : Request) → All HasFewTries c.pins
    → IsOther (served c s request).response.status
unfolding served refusals_of effect
served-other c s request few =
    unless-other c s (refused_by (refusals_of c s request)) _
    (first-other (in_order (refusals_of c s request)) (refusals-other c s request)) (effect-other c s request few)

step-other : (c : Card) (s : Session) (request : Request) → All HasFewTries c.pins
    → IsOther (step c s request).response.status
unfolding step
step-other c s request few =
    either-if (λ (o : Outcome). IsOther o.response.status) c.in_use (served c s request)
    (refused c s CONDITIONS_NOT_SATISFIED) (served-other c s request few) (other _ refl)

-- the refusals by the form of a command
abbrev ErrsOther : Result Request Sw → Type 0
ErrsOther wanted = IfErr wanted IsOther

body-other : (row : Row) (p1 p2 : ℕ) (body : Option SentBody) → ErrsOther (asked_by_body row p1 p2 body)
body-other row p1 p2 None = other _ refl
body-other row p1 p2 (Some body) =
    either-if ErrsOther (row.lengths p1 p2 (length body.sent) (is_some body.expected)) (Ok (row.meaning p1 p2 body))
    (Err WRONG_LENGTH) tt (other _ refl)

row-other : (row : Option Row) (p1 p2 : ℕ) (bytes : List ℕ) → ErrsOther (asked_by_row row p1 p2 bytes)
row-other None p1 p2 bytes = other _ refl
row-other (Some row) p1 p2 bytes =
    either-if ErrsOther (row.parameters p1 p2) (asked_by_body row p1 p2 (sent_body bytes)) (Err WRONG_PARAMETERS)
    (body-other row p1 p2 (sent_body bytes)) (other _ refl)

asked-other : (command : List ℕ) → ErrsOther (asked command)
asked-other [] = other _ refl
asked-other (class ∷ []) = other _ refl
asked-other (class ∷ instruction ∷ []) = other _ refl
asked-other (class ∷ instruction ∷ p1 ∷ []) = other _ refl
asked-other (class ∷ instruction ∷ p1 ∷ p2 ∷ bytes) =
    either-if ErrsOther (is_class class) (asked_by_row (row_of class instruction) p1 p2 bytes) (Err UNKNOWN_CLASS)
    (row-other (row_of class instruction) p1 p2 bytes) (other _ refl)

outcome-other : (c : Card) (s : Session) (wanted : Result Request Sw) → ErrsOther wanted → All HasFewTries c.pins
    → IsOther (outcome_of c s wanted).response.status
outcome-other c s (Ok request) refuses few = step-other c s request few
outcome-other c s (Err status) refuses few = refuses

pub never-failing : (c : Card) (s : Session) (command : List ℕ) → IsProper c
    → (carried_out c s command).response.status ≢ MEMORY_FAILURE
never-failing c s command proper is =
    outcome-other c s (asked command) (asked-other command) proper.pins (ap (λ (status : Sw). status.0) is)
