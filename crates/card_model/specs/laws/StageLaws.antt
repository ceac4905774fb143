-- Which cards are stages of a command.
use Rattle.std.specs.Prelude.{◌≡◌, ℕ, Bool, true, List, [], ◌∷◌, drop, Contains, None, Ok, Option}
use Rattle.std.specs.Prelude.{Result, if◌then◌else◌}
use Rattle.std.proofs.Common.{sym, ◌∙◌, ap, subst, arith}
use Rattle.card_model.specs.declared.status.Sw.{Sw}
use Rattle.card_model.specs.CommandTable.{asked}
use Rattle.card_model.specs.Requests.{Request}
use Rattle.card_model.specs.Cards.{Card}
use Rattle.card_model.specs.Behaviours.{refused_by}
use Rattle.card_model.specs.Steps.{IsDoing, IsStage, ChangesNothing, commits, commits_asked, commits_served}
use Rattle.card_model.specs.Steps.{commits_unless, stages, refusals_of}
use Rattle.card_model.specs.Sessions.{Session}

module _ (c : Card) (s : Session) (command : List ℕ) where
  -- the card before a command is one of its stages
  pub stage_first : (d : Card) → d ≡ c → IsStage c s command d
  stage_first d same = (0, omega arith, sym same)

  module _ (request : Request) (is : asked command ≡ Ok request) (used : c.in_use ≡ true) where
    -- the stages of a request that isn't refused
    pub stages_unrefused : refused_by (refusals_of c s request) ≡ None
        → stages c s command ≡ c ∷ commits c s request
    stages_unrefused unrefused =
        ap (λ (wanted : Result Request Sw). c ∷ commits_asked c s wanted) is
        ∙ ap (λ (test : Bool). c ∷ (if test then commits_served c s request else [])) used
        ∙ ap (λ (refusal : Option Sw). c ∷ commits_unless refusal (commits c s request)) unrefused

    module _ (d : Card) (doing : IsDoing c s request d) where
      -- what is left by a request that isn't refused is a stage
      pub stage_doing : IsStage c s command d
      stage_doing =
          subst (λ (cards : List Card). Contains cards d) (sym (stages_unrefused doing.unrefused)) doing.card

      -- and it changes what lasts
      pub doing_lasts : ChangesNothing c s command → ⊥
      doing_lasts nothing =
          doing.lasts (ap (λ (cards : List Card). drop 1 cards) (sym (stages_unrefused doing.unrefused) ∙ nothing))
