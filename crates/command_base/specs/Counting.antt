-- An answered guess was counted, and wrote to the device (ISO/IEC 7816-4, clause 11, basic security handling).
use Rattle.std.specs.Prelude.{◌≡◌, ◌<◌, Bool, true, if◌then◌else◌, Option, Some, None, Result, Ok, Err}
use Rattle.card_model.specs.declared.status.Sw.{Sw}
use Rattle.nvm_board.specs.Facts.{Facts, raised}
use Rattle.card_model.specs.Requests.{Request}
use Rattle.card_model.specs.Cards.{Card}
use Rattle.card_model.specs.Steps.{attempt_of, refusals_of}
use Rattle.card_model.specs.Behaviours.{is_right, refused_by, Attempt}
use Rattle.card_model.specs.Sessions.{Session}

-- An answered attempt made one comparison, of its secret, and at least one device write. It counted a match if and only
-- if the value shown was right. (`ChargesFirst` says that the charge is the first write.)
pub record CountsAttempt (right : Bool) (a : Attempt) (old new : Facts) : Type 0 where
  pub compared : new.compares ≡ raised old.compares a.secret
  pub matched : new.matches ≡ (if right then raised old.matches a.secret else old.matches)
  pub charged : old.writes < new.writes

-- a request that shows no secret has nothing to count
abbrev pub CountsShown : Option Attempt → Card → Facts → Facts → Type 0
CountsShown None c old new = Unit {0}
CountsShown (Some a) c old new = CountsAttempt (is_right c a) a old new

-- a refused request has nothing to count
abbrev pub CountsServed : Card → Session → Request → Facts → Facts → Type 0
CountsServed c s request old new =
    refused_by (refusals_of c s request) ≡ None → CountsShown (attempt_of request) c old new

-- an invalid command, or one to a terminated card, has nothing to count
abbrev pub CountsAnswered : Result Request Sw → Card → Session → Facts → Facts → Type 0
CountsAnswered (Ok request) c s old new = c.in_use ≡ true → CountsServed c s request old new
CountsAnswered (Err status) c s old new = Unit {0}
