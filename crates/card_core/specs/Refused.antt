-- A command that answers no success changes nothing, unless it showed a wrong value of a PIN (ISO/IEC 7816-4, 5.6 and
-- clause 11).
use Rattle.std.specs.Prelude.{◌≡◌, ◌⊎◌, false, Option, Some, None, Result, Ok, Err}
use Rattle.card_model.specs.declared.status.Sw.{Sw}
use Rattle.card_model.specs.Requests.{Request}
use Rattle.card_model.specs.Cards.{Card}
use Rattle.card_model.specs.Sessions.{Session}
use Rattle.card_model.specs.Behaviours.{Attempt, Outcome, charged_card, is_right, tries_of}
use Rattle.card_model.specs.PinCommands.{tries_status}
use Rattle.card_model.specs.Steps.{attempt_of}

-- 9000, or one of the warnings 6282, 6283 and 6285
abbrev pub IsSuccess : Sw → Type 0
IsSuccess status = (status.0 ≡ 0x9000) ⊎ (status.0 ≡ 0x6282) ⊎ (status.0 ≡ 0x6283) ⊎ (status.0 ≡ 0x6285)

-- 63CX, where what was shown of a PIN is wrong: X tries are left
abbrev pub ShowsWrongBy : Card → Option Attempt → Sw → Type 0
ShowsWrongBy c None status = ⊥
ShowsWrongBy c (Some a) status =
    (is_right c a ≡ false) × (status ≡ tries_status (tries_of (charged_card c a) a.pin a.secret))

abbrev pub ShowsWrong : Card → Result Request Sw → Sw → Type 0
ShowsWrong c (Err refusal) status = ⊥
ShowsWrong c (Ok request) status = ShowsWrongBy c (attempt_of request) status

-- the card and the session are as before
abbrev pub LeavesAll : Card → Session → Outcome → Type 0
LeavesAll c s o = (o.card ≡ c) × (o.session ≡ s)
