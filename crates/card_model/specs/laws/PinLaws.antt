-- Commands on PINs: proper cards stay proper, and answers are short.
use Rattle.std.specs.Prelude.{◌≡◌, ◌≤◌, ◌-◌, ◌++◌, ◌&&◌, not, ℕ, Bool, true, false, List, [], ◌∷◌}
use Rattle.std.specs.Prelude.{Option, Some, None, if◌then◌else◌}
use Rattle.std.proofs.Common.{arith, refl, inl, inr, lit<}
use Rattle.std.proofs.lemmas.List.Elements.{All-set}
use Rattle.card_model.specs.declared.status.TheConstants.Sw.{DONE}
use Rattle.card_model.specs.Requests.{IsStatusWord, Request, verify, change_reference_data, reset_retry_counter}
use Rattle.card_model.specs.Requests.{change_requirement}
use Rattle.card_model.specs.declared.requests.RequirementChange.{RequirementChange}
use Rattle.card_model.specs.declared.requests.RequirementChange.TheVariants.{Disable, Enable}
use Rattle.card_model.specs.Secrets.{HasFewTries, charged_pin, is_unblocking, tries_left}
use Rattle.card_model.specs.laws.FewTries.{changed_few, marked_few, reset_few, verified_few, with_few}
use Rattle.card_model.specs.Cards.{Card, Pin, IsProper}
use Rattle.card_model.specs.Behaviours.{Attempt, charged_card, is_right, no_pin, pin_of, settled_card, tries_of}
use Rattle.card_model.specs.Behaviours.{with_pin_of, unblocking_of, value_of}
use Rattle.card_model.specs.PinCommands.{attempted, attempted_as, pin_commits, pin_effect, told_tries, tries_status}
use Rattle.card_model.specs.PinCommands.{changing, marking, resetting, shows, verifying, is_enabled_by, unusable_by}
use Rattle.card_model.specs.PinCommands.{while_disabled, while_enabled}
use Rattle.card_model.specs.Sessions.{Session}
use Rattle.card_model.specs.laws.Lawful.{AreWords, AsMany, IsLawful, IsOfItsPin, Lawful}
use Rattle.card_model.specs.laws.Lawful.{many-none, many-one, same-none}
use Rattle.card_model.specs.laws.ProperLaws.{IsFine, at-or, either-if, short-status}

-- each PIN of a proper card, and one that stands for none
pub few-of : (c : Card) (n : ℕ) → IsProper c → HasFewTries (pin_of c n)
few-of c n proper =
    at-or HasFewTries c.pins (n - 1) no_pin (record { tries = omega arith; unblocking_tries = omega arith }) proper.pins

-- another PIN
proper-with_pin_of : (c : Card) (n : ℕ) (pin : Pin) → IsProper c → HasFewTries pin → IsProper (with_pin_of c n pin)
proper-with_pin_of c n pin proper few = record {
  files = proper.files;
  identifiers = proper.identifiers;
  pins = All-set HasFewTries c.pins (n - 1) pin few proper.pins;
}

few-charged : (secret : ℕ) (pin : Pin) → HasFewTries pin → HasFewTries (charged_pin secret pin)
few-charged secret pin few =
    let fewer : tries_left secret pin - 1 ≤ tries_left secret pin = omega arith in
    with_few secret (tries_left secret pin - 1) pin fewer few

proper-charged : (c : Card) (a : Attempt) → IsProper c → IsProper (charged_card c a)
proper-charged c a proper =
    proper-with_pin_of c a.pin (charged_pin a.secret (pin_of c a.pin)) proper
    (few-charged a.secret (pin_of c a.pin) (few-of c a.pin proper))

-- the status word that tells the tries that are left, at most ten
pub ten-tries : (test : Bool) (pin : Pin) → HasFewTries pin → (if test then pin.unblocking_tries else pin.tries) ≤ 10
ten-tries true pin few = few.unblocking_tries
ten-tries false pin few = let most = few.tries in omega (arith, most)

told-word : (c : Card) (n secret : ℕ) → IsProper c → IsStatusWord (tries_status (tries_of c n secret))
told-word c n secret proper =
    let few = ten-tries (is_unblocking secret) (pin_of c n) (few-of c n proper) in omega (arith, few)

-- a command after which no PIN has more tries left than there may be
abbrev pub KeepsFew : Attempt → Type 0
KeepsFew a = (pin : Pin) → HasFewTries pin → HasFewTries (a.becomes pin)

fine-attempted_as : (c : Card) (s : Session) (a : Attempt) (right : Bool) → IsProper c → KeepsFew a
    → IsFine (attempted_as c s a right)
fine-attempted_as c s a true proper keeps =
    let charged = charged_card c a in
    let still = proper-charged c a proper in
    record {
      card = proper-with_pin_of charged a.pin (a.becomes (pin_of charged a.pin)) still
          (keeps (pin_of charged a.pin) (few-of charged a.pin still));
      response = short-status DONE (lit< tt);
    }
fine-attempted_as c s a false proper keeps =
    let still = proper-charged c a proper in
    record {
      card = still;
      response = short-status (tries_status (tries_of (charged_card c a) a.pin a.secret))
          (told-word (charged_card c a) a.pin a.secret still);
    }

module _ (c : Card) (s : Session) (proper : IsProper c) where
  pub fine-attempted : (a : Attempt) → KeepsFew a → IsFine (attempted c s a)
  fine-attempted a keeps = fine-attempted_as c s a (is_right c a) proper keeps

  pub fine-told : (n secret : ℕ) → IsFine (told_tries c s n secret)
  fine-told n secret = record {
    card = proper;
    response = short-status (tries_status (tries_of c n secret)) (told-word c n secret proper);
  }

-- the commits of an attempt: where only the tries are renewed, and where a value is, with them
by-words : (right renews : Bool) (charged settled : Card)
    → (charged ∷ (if right && not renews then settled ∷ [] else [])) ++ (if right && renews then settled ∷ [] else [])
    ≡ charged ∷ (if right then settled ∷ [] else [])
by-words true true charged settled = refl
by-words true false charged settled = refl
by-words false renews charged settled = refl

-- the card that an attempt makes has as many blocks, and so has each that it passes
attempted-blocks : (c : Card) (s : Session) (a : Attempt) (right : Bool)
    → (attempted_as c s a right).card.blocks ≡ c.blocks
attempted-blocks c s a true = refl
attempted-blocks c s a false = refl

shown-blocks : (c : Card) (s : Session) (n secret : ℕ) (shown : Option Attempt)
    → (pin_effect c s n secret shown).card.blocks ≡ c.blocks
shown-blocks c s n secret None = refl
shown-blocks c s n secret (Some a) = attempted-blocks c s a (is_right c a)

shown-commits : (c : Card) (shown : Option Attempt) → AsMany c (pin_commits c shown)
shown-commits c None = many-none c
shown-commits c (Some a) =
    many-one c (charged_card c a) _ refl
    (either-if (AsMany c) (is_right c a) (settled_card c a ∷ []) []
    (many-one c (settled_card c a) [] refl (many-none c)) (many-none c))

-- the laws of a command on a secret of PIN n: it asks for the tries that are left, or shows the secret
module _ (request : Request) (n secret : ℕ) where
  lawful-asking : IsLawful request (shows n secret None)
  lawful-asking = record {
    words = λ c s. tt;
    fine = λ c s proper all unrefused. fine-told c s proper n secret;
    of_pin = tt;
    pins = λ c s is. (same-none c).0;
    blocks = λ c s. shown-blocks c s n secret None;
    many = λ c s. shown-commits c None;
    by_words = λ c s. refl;
  }

  lawful-showing : (a : Attempt) → KeepsFew a → ((pin : Pin) → AreWords (a.unusable pin))
      → IsOfItsPin a → IsLawful request (shows n secret (Some a))
  lawful-showing a keeps words of_pin = record {
    words = λ c s. (lit< tt, words (pin_of c a.pin));
    fine = λ c s proper all unrefused. fine-attempted c s proper a keeps;
    of_pin = of_pin;
    pins = λ c s is. absurd cc;
    blocks = λ c s. shown-blocks c s n secret (Some a);
    many = λ c s. shown-commits c (Some a);
    by_words = λ c s. by-words (is_right c a) a.renews _ _;
  }

-- what refuses a command by the mark of a PIN has status words
words-enabled : (pin : Pin) → AreWords (while_enabled pin)
words-enabled pin = (lit< tt, tt)

words-disabled : (pin : Pin) → AreWords (while_disabled pin)
words-disabled pin = (lit< tt, tt)

words-by : (change : RequirementChange) (pin : Pin) → AreWords (unusable_by change pin)
words-by Disable = words-enabled
words-by Enable = words-disabled

module _ (n : ℕ) where
  pub lawful-verify : (shown : Option (List ℕ)) → Lawful (verify n shown)
  lawful-verify None = lawful-asking (verify n None) n (value_of n)
  lawful-verify (Some shown) =
      lawful-showing (verify n (Some shown)) n (value_of n) (verifying n shown) verified_few
      words-enabled (inl refl)

  pub lawful-change : (shown new : List ℕ) → Lawful (change_reference_data n shown new)
  lawful-change shown new =
      lawful-showing (change_reference_data n shown new) n (value_of n) (changing n shown new)
      (changed_few new) words-enabled (inl refl)

  pub lawful-reset : (values : Option (List ℕ × List ℕ)) → Lawful (reset_retry_counter n values)
  lawful-reset None = lawful-asking (reset_retry_counter n None) n (unblocking_of n)
  lawful-reset (Some values) =
      lawful-showing (reset_retry_counter n (Some values)) n (unblocking_of n)
      (resetting n values.0 values.1) (λ was few. reset_few values.1 was) (λ pin. tt) (inr refl)

  pub lawful-requirement : (change : RequirementChange) (shown : List ℕ) → Lawful (change_requirement change n shown)
  lawful-requirement change shown =
      lawful-showing (change_requirement change n shown) n (value_of n) (marking change n shown)
      (marked_few (is_enabled_by change)) (words-by change) (inl refl)
