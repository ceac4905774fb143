-- What holds of every command: one record of laws for each.
use Rattle.std.specs.Prelude.{◌≡◌, ◌⊎◌, ◌≤◌, ◌++◌, List, [], ◌∷◌, All, Option, Some, None}
use Rattle.std.proofs.Common.{refl, sym, subst, lit<}
use Rattle.std.proofs.lemmas.List.Elements.{All-nil, All-cons}
use Rattle.card_model.specs.declared.requests.Target.{Target}
use Rattle.card_model.specs.declared.requests.Target.TheVariants.{Current, Short}
use Rattle.card_model.specs.Requests.{IsOfBytes, IsStatusWord, Request}
use Rattle.card_model.specs.Behaviours.{Attempt, unblocking_of, value_of, Behaviour, Refusal, in_order, refused_by}
use Rattle.card_model.specs.Cards.{Card, IsProper}
use Rattle.card_model.specs.Steps.{behaviour_of, commits_alone, commits_gated}
use Rattle.card_model.specs.Guards.{missing}
use Rattle.card_model.specs.Sessions.{Session}
use Rattle.card_model.specs.laws.ProperLaws.{IsFine}

-- each refusal has a status word
abbrev pub AreWords : List Refusal → Type 0
AreWords [] = Unit {0}
AreWords (refusal ∷ refusals) = IsStatusWord refusal.status × AreWords refusals

-- an attempt shows the value of its PIN, or the value that unblocks it
abbrev pub IsOfItsPin : Attempt → Type 0
IsOfItsPin a = (a.secret ≡ value_of a.pin) ⊎ (a.secret ≡ unblocking_of a.pin)

-- the same where there is one
abbrev pub IsOfPin : Option Attempt → Type 0
IsOfPin None = Unit {0}
IsOfPin (Some a) = IsOfItsPin a

-- cards with the PINs of this one, and cards with as many blocks
abbrev pub SamePins : Card → List Card → Type 0
SamePins c = All (λ d. d.pins ≡ c.pins)

abbrev pub AsMany : Card → List Card → Type 0
AsMany c = All (λ d. d.blocks ≡ c.blocks)

-- Of a request and its behaviour. Its refusals have status words. Where it is of bytes and isn't refused, it leaves a
-- proper card proper, and its answer is short. What it shows is a
-- secret of the PIN that it names; where it shows none, every PIN stays. The card that it makes has as many blocks, and
-- so has each that it passes. Its commits are those that words of their own make, and then those of the gate.
pub record IsLawful (request : Request) (behaviour : Behaviour) : Type 0 where
  pub words : (c : Card) (s : Session) → AreWords (in_order (behaviour.refusals c s))
  pub fine : (c : Card) (s : Session) → IsProper c → IsOfBytes request → refused_by (behaviour.refusals c s) ≡ None
      → IsFine (behaviour.effect c s)
  pub of_pin : IsOfPin behaviour.shown
  pub pins : (c : Card) (s : Session) → behaviour.shown ≡ None → SamePins c (behaviour.commits c s)
  pub blocks : (c : Card) (s : Session) → (behaviour.effect c s).card.blocks ≡ c.blocks
  pub many : (c : Card) (s : Session) → AsMany c (behaviour.commits c s)
  pub by_words : (c : Card) (s : Session)
      → commits_alone c behaviour.shown
      ++ commits_gated c behaviour.shown (behaviour.commits c s) ≡ behaviour.commits c s

abbrev pub Lawful : Request → Type 0
Lawful request = IsLawful request (behaviour_of request)

-- cards with as many blocks: none, and one more
pub many-none : (c : Card) → AsMany c []
many-none c = All-nil (λ (d : Card). d.blocks ≡ c.blocks)

pub many-one : (c d : Card) (cards : List Card) → d.blocks ≡ c.blocks → AsMany c cards → AsMany c (d ∷ cards)
many-one c d cards same rest = All-cons (λ (e : Card). e.blocks ≡ c.blocks) d cards same rest

-- what a command commits that shows no secret: no card, and one
abbrev pub Untouched : Card → List Card → Type 0
Untouched c cards = SamePins c cards × AsMany c cards

pub same-none : (c : Card) → Untouched c []
same-none c = (All-nil (λ (d : Card). d.pins ≡ c.pins), many-none c)

pub same-one : (c d : Card) → d.pins ≡ c.pins → d.blocks ≡ c.blocks → Untouched c (d ∷ [])
same-one c d pins blocks = (
  All-cons (λ (e : Card). e.pins ≡ c.pins) d [] pins (same-none c).0,
  many-one c d [] blocks (many-none c),
)

-- a command that shows no secret
module _ (request : Request) (behaviour : Behaviour) where
  pub lawful-unshown : behaviour.shown ≡ None
      → ((c : Card) (s : Session) → AreWords (in_order (behaviour.refusals c s)))
      → ((c : Card) (s : Session) → IsProper c → IsOfBytes request → refused_by (behaviour.refusals c s) ≡ None
      → IsFine (behaviour.effect c s))
      → ((c : Card) (s : Session) → (behaviour.effect c s).card.blocks ≡ c.blocks)
      → ((c : Card) (s : Session) → Untouched c (behaviour.commits c s)) → IsLawful request behaviour
  lawful-unshown unshown words fine blocks untouched = record {
    words = words;
    fine = fine;
    of_pin = subst IsOfPin (sym unshown) tt;
    pins = λ c s is. (untouched c s).0;
    blocks = blocks;
    many = λ c s. (untouched c s).1;
    by_words = λ c s. subst (λ (shown : Option Attempt). commits_alone c shown
        ++ commits_gated c shown (behaviour.commits c s) ≡ behaviour.commits c s) (sym unshown) refl;
  }

-- where no elementary file is named
pub missing-word : (target : Target) → IsStatusWord (missing target)
missing-word Current = lit< tt
missing-word (Short n) = lit< tt
