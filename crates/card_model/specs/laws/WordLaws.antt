-- The commits of a request are those that words of their own make, and then those of which the gate is the word.
use Rattle.std.specs.Prelude.{◌≡◌, ◌++◌, Option, None, Some, refl}
use Rattle.card_model.specs.declared.status.Sw.{Sw}
use Rattle.card_model.specs.Requests.{Request}
use Rattle.card_model.specs.Cards.{Card}
use Rattle.card_model.specs.Steps.{attempt_of, commits, commits_served, commits_unless, refusals_of, alone_served}
use Rattle.card_model.specs.Steps.{commits_alone, commits_gated, gated_served}
use Rattle.card_model.specs.Behaviours.{refused_by}
use Rattle.card_model.specs.Sessions.{Session}
use Rattle.card_model.specs.laws.CommandLaws.{lawful}

commits-split : (c : Card) (s : Session) (request : Request)
    → commits_alone c (attempt_of request)
    ++ commits_gated c (attempt_of request) (commits c s request) ≡ commits c s request
unfolding commits
commits-split c s request = (lawful request).by_words c s

-- of a request that may be refused
pub served-split : (c : Card) (s : Session) (request : Request)
    → alone_served c s request ++ gated_served c s request ≡ commits_served c s request
served-split c s request = by (refused_by (refusals_of c s request))
  where
    by : (verdict : Option Sw)
        → commits_unless verdict (commits_alone c (attempt_of request))
        ++ commits_unless verdict (commits_gated c (attempt_of request) (commits c s request))
        ≡ commits_unless verdict (commits c s request)
    by None = commits-split c s request
    by (Some status) = refl
