-- What a command shows of a PIN: its value, or the value that unblocks it; and where it shows neither, every PIN stays.
use Rattle.std.specs.Prelude.{◌≡◌, ◌⊎◌, ℕ, List, [], ◌∷◌, Contains}
use Rattle.std.specs.Prelude.{Option, Some, None, Result, Ok, Err}
use Rattle.std.proofs.Common.{refl, inl, inr}
use Rattle.std.proofs.lemmas.List.Elements.{All-cons, All-contains}
use Rattle.card_model.specs.declared.status.Sw.{Sw}
use Rattle.nvm_board.specs.Facts.{Facts}
use Rattle.card_model.specs.CommandTable.{asked}
use Rattle.card_model.specs.Requests.{Request}
use Rattle.card_model.specs.Cards.{Card}
use Rattle.card_model.specs.Steps.{attempt_of, IsStage, commits, commits_asked, commits_served, commits_unless}
use Rattle.card_model.specs.Steps.{refusals_of}
use Rattle.command_base.specs.Comparing.{Comparisons, ComparesAsked, ComparesAttempt, ComparesShown, comparisons}
use Rattle.card_model.specs.Behaviours.{refused_by, Attempt}
use Rattle.card_model.specs.Sessions.{Session}
use Rattle.card_model.specs.laws.CommandLaws.{lawful}
pub use Rattle.card_model.specs.laws.Lawful.{IsOfItsPin}
use Rattle.card_model.specs.laws.Lawful.{IsOfPin, SamePins, same-none}
use Rattle.card_model.specs.laws.ProperLaws.{either-if}

-- what a request shows is a secret of the PIN that it names
pub shown-of-pin : (request : Request) → IsOfPin (attempt_of request)
shown-of-pin request = (lawful request).of_pin

module _ (c : Card) (s : Session) where
  -- what a request commits, if it shows no secret
  commits-same : (request : Request) → attempt_of request ≡ None → SamePins c (commits c s request)
  unfolding commits
  commits-same request = (lawful request).pins c s

  -- and so of a request that may be refused, at every stage
  unless-same : (refusal : Option Sw) (cards : List Card) → SamePins c cards → SamePins c (commits_unless refusal cards)
  unless-same None cards all = all
  unless-same (Some status) cards all = (same-none c).0

  served-same : (request : Request) → attempt_of request ≡ None → SamePins c (commits_asked c s (Ok request))
  served-same request is =
      either-if (SamePins c) c.in_use (commits_served c s request) []
      (unless-same (refused_by (refusals_of c s request)) (commits c s request) (commits-same request is))
      (same-none c).0

  stage-same : (d : Card) (cards : List Card) → SamePins c cards → Contains (c ∷ cards) d → d.pins ≡ c.pins
  stage-same d cards all there =
      All-contains (λ (e : Card). e.pins ≡ c.pins) (c ∷ cards) d
      (All-cons (λ (e : Card). e.pins ≡ c.pins) c cards refl all) there

-- Nothing is compared, and every PIN stays; or a secret of a PIN is shown, and its comparison costs a try.
abbrev pub ComparesOrStays : Card → Card → Comparisons → Comparisons → Type 0
ComparesOrStays c d old new =
    ((new ≡ old) × (d.pins ≡ c.pins)) ⊎ ((a : Attempt) × IsOfItsPin a × ComparesAttempt a c d old new)

module _ (c d : Card) (old new : Facts) where
  abbrev Stays : Type 0
  Stays = ComparesOrStays c d (comparisons old) (comparisons new)

  by-shown : (shown : Option Attempt) → IsOfPin shown → (shown ≡ None → d.pins ≡ c.pins)
      → ComparesShown shown c old d new → Stays
  by-shown None is stays compares = inl (compares, stays refl)
  by-shown (Some a) is stays compares = inr (a, is, compares.0)

  by-asked : (s : Session) (wanted : Result Request Sw) → Contains (c ∷ commits_asked c s wanted) d
      → ComparesAsked wanted c old d new → Stays
  by-asked s (Ok request) there compares =
      by-shown (attempt_of request) (shown-of-pin request)
      (λ is. stage-same c s d (commits_asked c s (Ok request)) (served-same c s request is) there) compares
  by-asked s (Err status) there compares = inl (compares, stage-same c s d [] (same-none c).0 there)

  -- at each stage of a command
  pub compares-or-stays : (s : Session) (command : List ℕ) → IsStage c s command d
      → ComparesAsked (asked command) c old d new → Stays
  compares-or-stays s command = by-asked s (asked command)
