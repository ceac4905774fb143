-- Proper cards stay proper, and their answers are short: whatever is asked for.
use Rattle.std.specs.Prelude.{◌≡◌, ◌<◌, ◌/◌, ◌%◌, ℕ, zero, suc, List, [], ◌∷◌}
use Rattle.std.specs.Prelude.{Option, Some, None, Result, Ok, Err, MatchResult}
use Rattle.std.proofs.Common.{arith, refl, lit<}
use Rattle.std.proofs.lemmas.List.{length-append}
use Rattle.std.proofs.lemmas.List.Elements.{All-append}
use Rattle.card_model.specs.declared.status.Sw.{Sw}
use Rattle.card_model.specs.declared.status.TheConstants.Sw.{CONDITIONS_NOT_SATISFIED}
use Rattle.card_model.specs.CommandTable.{asked}
use Rattle.card_model.specs.Requests.{IsOfBytes, AreBytes, IsStatusWord, Request}
use Rattle.card_model.specs.laws.RowLaws.{asked-of_bytes}
use Rattle.card_model.specs.Cards.{Card, IsAnswer, IsProper}
use Rattle.card_model.specs.Behaviours.{Outcome, Refusal, Response, answer_bytes, first_applying, in_order, refused}
use Rattle.card_model.specs.Behaviours.{refused_by, unless_refused}
use Rattle.card_model.specs.Sessions.{Session}
use Rattle.card_model.specs.Steps.{carried_out, effect, outcome_of, refusals_of, served, step}
use Rattle.card_model.specs.laws.CommandLaws.{lawful}
use Rattle.card_model.specs.laws.Lawful.{AreWords}
use Rattle.card_model.specs.laws.ProperLaws.{IsFine, IsShort, either-if, short-status}

abbrev IsWordOrNone : Option Sw → Type 0
IsWordOrNone None = Unit {0}
IsWordOrNone (Some status) = IsStatusWord status

word-first : (refusals : List Refusal) → AreWords refusals → IsWordOrNone (first_applying refusals)
word-first [] words = tt
word-first (refusal ∷ refusals) words =
    either-if IsWordOrNone refusal.applies (Some refusal.status) (first_applying refusals) words.0 (word-first
    refusals words.1)

-- each refusal of each request has one
word-refusals : (c : Card) (s : Session) (request : Request) → AreWords (in_order (refusals_of c s request))
unfolding refusals_of
word-refusals c s request = (lawful request).words c s

-- a refusal leaves the card
fine-refused : (c : Card) (s : Session) (status : Sw) → IsProper c → IsStatusWord status → IsFine (refused c s status)
fine-refused c s status proper word = record { card = proper; response = short-status status word }

-- what a request of bytes that isn't refused does to a proper card
fine-effect : (c : Card) (s : Session) (request : Request) → IsProper c → IsOfBytes request
    → refused_by (refusals_of c s request) ≡ None → IsFine (effect c s request)
unfolding effect refusals_of
fine-effect c s request = (lawful request).fine c s

fine-unless : (c : Card) (s : Session) (refusal : Option Sw) (done : Outcome) → IsProper c → IsWordOrNone refusal
    → (refusal ≡ None → IsFine done)
    → IsFine (unless_refused c s refusal done)
fine-unless c s None done proper word fine = fine refl
fine-unless c s (Some status) done proper word fine = fine-refused c s status proper word

-- what a card makes that is in use
fine-served : (c : Card) (s : Session) (request : Request) → IsProper c → IsOfBytes request
    → IsFine (served c s request)
unfolding served
fine-served c s request proper small =
    fine-unless c s (refused_by (refusals_of c s request)) (effect c s request) proper
    (word-first (in_order (refusals_of c s request)) (word-refusals c s request)) (fine-effect c s request proper small)

fine-outcome : (c : Card) (s : Session) (wanted : Result Request Sw) → IsProper c
    → MatchResult wanted IsOfBytes IsStatusWord → IsFine (outcome_of c s wanted)
unfolding step
fine-outcome c s (Ok request) proper small =
    either-if IsFine c.in_use (served c s request) (refused c s CONDITIONS_NOT_SATISFIED)
    (fine-served c s request proper small) (fine-refused c s CONDITIONS_NOT_SATISFIED proper (lit< tt))
fine-outcome c s (Err status) proper word = fine-refused c s status proper word

short-answer : (response : Response) → IsShort response → IsAnswer (answer_bytes response)
short-answer response short =
    let n = length-append response.text (response.status.0 / 256 ∷ response.status.0 % 256 ∷ []) in
    let size = short.size in
    let word = short.status in record {
      at_least = omega (arith, n);
      at_most = omega (arith, n, size);
      bytes = All-append (λ number. number < 256) response.text (response.status.0 / 256 ∷ response.status.0 % 256 ∷
          []) short.bytes (status_bytes response.status word);
    }
  where
    status_bytes : (status : Sw) → IsStatusWord status → AreBytes (status.0 / 256 ∷ status.0 % 256 ∷ [])
    status_bytes status word zero d lt = omega (arith, word)
    status_bytes status word (suc zero) d lt = omega arith
    status_bytes status word (suc (suc k)) d lt = absurd (omega (arith, lt))

module _ (c : Card) (s : Session) (command : List ℕ) (proper : IsProper c) (bytes : AreBytes command) where
  fine : IsFine (carried_out c s command)
  fine = fine-outcome c s (asked command) proper (asked-of_bytes command bytes)

  -- a command of bytes leaves a proper card
  pub step_keeps_proper : IsProper (carried_out c s command).card
  step_keeps_proper = fine.card

  -- and its answer is short
  pub answers_are_short : IsAnswer (answer_bytes (carried_out c s command).response)
  answers_are_short = short-answer (carried_out c s command).response fine.response
