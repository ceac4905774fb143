-- No command changes how many blocks a card has, nor does any stage of one.
use Rattle.std.specs.Prelude.{◌≡◌, ℕ, List, [], ◌∷◌, Option, Some, None, Result, Ok, Err}
use Rattle.std.proofs.Common.{refl}
use Rattle.std.proofs.lemmas.List.Elements.{All-contains}
use Rattle.card_model.specs.declared.status.Sw.{Sw}
use Rattle.card_model.specs.CommandTable.{asked}
use Rattle.card_model.specs.Requests.{Request}
use Rattle.card_model.specs.Cards.{Card}
use Rattle.card_model.specs.Behaviours.{Outcome, refused_by, unless_refused}
use Rattle.card_model.specs.Sessions.{Session}
use Rattle.card_model.specs.Steps.{IsStage, commits, commits_asked, commits_served, commits_unless, carried_out, effect}
use Rattle.card_model.specs.Steps.{outcome_of, refusals_of, served, step}
use Rattle.card_model.specs.laws.CommandLaws.{lawful}
use Rattle.card_model.specs.laws.Lawful.{AsMany, many-none, many-one}
use Rattle.card_model.specs.laws.ProperLaws.{either-if}

module _ (c : Card) (s : Session) where
  unless-blocks : (refusal : Option Sw) (done : Outcome) → done.card.blocks ≡ c.blocks
      → (unless_refused c s refusal done).card.blocks ≡ c.blocks
  unless-blocks None done same = same
  unless-blocks (Some status) done same = refl

  served-blocks : (request : Request) → (served c s request).card.blocks ≡ c.blocks
  unfolding served effect
  served-blocks request =
      unless-blocks (refused_by (refusals_of c s request)) (effect c s request) ((lawful request).blocks c s)

  outcome-blocks : (wanted : Result Request Sw) → (outcome_of c s wanted).card.blocks ≡ c.blocks
  unfolding step
  outcome-blocks (Ok request) = either-if (λ (o : Outcome). o.card.blocks ≡ c.blocks) c.in_use _ _
      (served-blocks request) refl
  outcome-blocks (Err status) = refl

  -- one step of a card leaves as many blocks
  pub step_keeps_blocks : (command : List ℕ) → (carried_out c s command).card.blocks ≡ c.blocks
  step_keeps_blocks command = outcome-blocks (asked command)

  unless-many : (refusal : Option Sw) (cards : List Card) → AsMany c cards → AsMany c (commits_unless refusal cards)
  unless-many None cards all = all
  unless-many (Some status) cards all = many-none c

  commits-many : (request : Request) → AsMany c (commits c s request)
  unfolding commits
  commits-many request = (lawful request).many c s

  asked-many : (wanted : Result Request Sw) → AsMany c (commits_asked c s wanted)
  asked-many (Ok request) =
      either-if (AsMany c) c.in_use (commits_served c s request) []
      (unless-many (refused_by (refusals_of c s request)) (commits c s request) (commits-many request)) (many-none c)
  asked-many (Err status) = many-none c

  -- and so has each stage of a command
  pub stages_keep_blocks : (command : List ℕ) (d : Card) → IsStage c s command d → d.blocks ≡ c.blocks
  stages_keep_blocks command d there =
      All-contains (λ (e : Card). e.blocks ≡ c.blocks) (c ∷ commits_asked c s (asked command)) d
      (many-one c c (commits_asked c s (asked command)) refl (asked-many (asked command))) there
