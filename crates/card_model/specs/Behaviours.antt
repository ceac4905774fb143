-- The behaviour of a command: refusals in their order, the answer, the attempt on a PIN, the commits.
use Rattle.std.specs.Prelude.{ℕ, ◌/◌, ◌%◌, Bool, List, [], ◌∷◌, ◌++◌, Option, Some, None, if◌then◌else◌, ◌-◌, ◌&&◌}
use Rattle.std.specs.Prelude.{not, nat_eq, true, slice_index_or, slice_set}
use Rattle.card_model.specs.declared.status.Sw.{Sw}
use Rattle.card_model.specs.Cards.{Card, Pin}
use Rattle.card_model.specs.Sessions.{Session}
use Rattle.std.specs.Cmp.Lexicographic.{pointwise}
use Rattle.card_model.specs.Secrets.{charged_pin, kept, tries_left}
pub use Rattle.card_model.specs.Secrets.{unblocking_of, value_of}

-- The outcome of a command: refusals in their order, and the answer.

-- A response: its data and its status word.
pub record Response : Type 0 where
  pub text : List ℕ
  pub status : Sw

-- The bytes of a response: the data, then SW1 and SW2.
abbrev pub answer_bytes : Response → List ℕ
answer_bytes response = response.text ++ response.status.0 / 256 ∷ response.status.0 % 256 ∷ []

-- A response without data.
abbrev pub only_status : Sw → Response
only_status status = record { text = []; status = status }

-- The card and the session after a command, with its response.
pub record Outcome : Type 0 where
  pub card : Card
  pub session : Session
  pub response : Response

-- A status word with the condition under which a command is refused with it.
pub record Refusal : Type 0 where
  pub applies : Bool
  pub status : Sw

-- The refusals of a command in good form, by subject.
pub record Refusals : Type 0 where
  -- The file that the command works on doesn't exist.
  pub target : List Refusal
  -- The file or an ancestor is in a life cycle state that doesn't allow the command.
  pub life_cycle : List Refusal
  -- The file's structure isn't one that the command works on.
  pub structure : List Refusal
  -- The template in the command's data is faulty.
  pub template : List Refusal
  -- The access rule of the file doesn't allow the command.
  pub access : List Refusal
  -- Names in use, sizes, contents, PIN states, and the length of the answer.
  pub limits : List Refusal

-- A command without refusals.
abbrev pub no_refusals : Refusals
no_refusals = record { target = []; life_cycle = []; structure = []; template = []; access = []; limits = [] }

-- The order of refusals, the same for all commands.
abbrev pub in_order : Refusals → List Refusal
in_order refusals =
    refusals.target
    ++ (refusals.life_cycle ++ (refusals.structure ++ (refusals.template ++ (refusals.access ++ refusals.limits))))

-- The status word of the first refusal whose condition is true.
abbrev pub first_applying : List Refusal → Option Sw
first_applying [] = None
first_applying (refusal ∷ refusals) = if refusal.applies then Some refusal.status else first_applying refusals

-- The status word with which the command is refused, if any.
abbrev pub refused_by : Refusals → Option Sw
refused_by refusals = first_applying (in_order refusals)

-- The outcome of a refusal: card and session are unchanged.
abbrev pub refused : Card → Session → Sw → Outcome
refused c s status = record { card = c; session = s; response = only_status status }

-- The refusal, or else the effect of the command.
abbrev pub unless_refused : Card → Session → Option Sw → Outcome → Outcome
unless_refused c s None done = done
unless_refused c s (Some status) done = refused c s status

-- The outcome with this card, session, data and status word.
abbrev pub outcome : Card → Session → List ℕ → Sw → Outcome
outcome c s text status = record { card = c; session = s; response = record { text = text; status = status } }

-- An attempt on a secret of a PIN: the presented value, its cost in tries, and the cards after each commit. The PIN
-- law and the guess law are about attempts (ISO/IEC 7816-4, clause 11, basic security handling).

-- A placeholder for a PIN that doesn't exist.
abbrev pub no_pin : Pin
no_pin = record { value = []; tries = 0; unblocking = []; unblocking_tries = 0; enabled = true }

-- PIN n of a card, counted from 1.
abbrev pub pin_of : Card → ℕ → Pin
pin_of c n = slice_index_or c.pins (n - 1) no_pin

-- The card with another PIN n.
abbrev pub with_pin_of : Card → ℕ → Pin → Card
with_pin_of c n pin = record c { pins = slice_set c.pins (n - 1) pin }

-- A secret of PIN `pin` is presented: its number, and the presented value `shown`. `unusable` gives the refusals that
-- depend on the PIN's state. After a match the PIN is `becomes`; `renews` is true if more than its tries changes.
-- `unverifies` is true if a mismatch ends the PIN's verification.
pub record Attempt : Type 0 where
  pub pin : ℕ
  pub secret : ℕ
  pub shown : List ℕ
  pub unusable : Pin → List Refusal
  pub becomes : Pin → Pin
  pub renews : Bool
  pub unverifies : Bool

-- The tries that are left of a secret of PIN n.
abbrev pub tries_of : Card → ℕ → ℕ → ℕ
tries_of c n secret = tries_left secret (pin_of c n)

-- The card after the charge: one try is used up before the comparison.
abbrev pub charged_card : Card → Attempt → Card
charged_card c a = with_pin_of c a.pin (charged_pin a.secret (pin_of c a.pin))

-- True if the presented value equals the stored one.
abbrev pub is_right : Card → Attempt → Bool
is_right c a = pointwise nat_eq (kept a.secret (pin_of c a.pin)) a.shown

-- The card after the charge and a match.
abbrev pub settled_card : Card → Attempt → Card
settled_card c a = let charged = charged_card c a in with_pin_of charged a.pin (a.becomes (pin_of charged a.pin))

-- The cards after each commit of an attempt. The charge is a commit by itself.
abbrev pub attempt_commits : Card → Attempt → List Card
attempt_commits c a = charged_card c a ∷ (if is_right c a then settled_card c a ∷ [] else [])

-- The commits that the tries word makes: the charge, and the end of a match that restores only the tries.
abbrev pub tries_commits : Card → Attempt → List Card
tries_commits c a = charged_card c a ∷ (if is_right c a && not a.renews then settled_card c a ∷ [] else [])

-- The commits that a transaction makes: a match that also changes the value or the mark.
abbrev pub value_commits : Card → Attempt → List Card
value_commits c a = if is_right c a && a.renews then settled_card c a ∷ [] else []

-- A behaviour: one record for each command.

-- From the card and the session before the command: its refusals, its effect if nothing refuses it, and the card
-- after each commit, in order. From the command alone: the secret that it presents.
pub record Behaviour : Type 0 where
  pub refusals : Card → Session → Refusals
  pub effect : Card → Session → Outcome
  pub commits : Card → Session → List Card
  pub shown : Option Attempt

-- A command that only reads leaves the card unchanged and commits nothing.
abbrev pub looks : (Card → Session → Refusals) → (Card → Session → Outcome) → Behaviour
looks refusals effect = record {
  refusals = refusals;
  effect = λ c s. record (effect c s) { card = c };
  commits = λ c s. [];
  shown = None;
}

-- A command that changes the card with one commit.
abbrev pub changes : (Card → Session → Refusals) → (Card → Session → Outcome) → Behaviour
changes refusals effect = record {
  refusals = refusals;
  effect = effect;
  commits = λ c s. (effect c s).card ∷ [];
  shown = None;
}
