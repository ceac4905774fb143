-- The comparisons of a request, and that each permanently uses up a try, before it is made (ISO/IEC 7816-4,
-- clause 11, basic security handling).
use Rattle.std.specs.Prelude.{◌≡◌, ◌⊎◌, ◌<◌, ◌+◌, ◌-◌, ℕ, List, ◌∷◌, length, slice_set, take}
use Rattle.std.specs.Prelude.{Option, Some, None, Result, Ok, Err}
use Rattle.card_model.specs.declared.status.Sw.{Sw}
use Rattle.nvm_board.specs.Aims.{WritesRuns}
use Rattle.nvm_board.specs.Facts.{Facts, raised}
use Rattle.nvm_board.specs.History.{Run, replayed, written}
use Rattle.card_model.specs.Requests.{Request}
use Rattle.card_model.specs.declared.pins.TheConstants.{PINS}
use Rattle.card_model.specs.Secrets.{charged_pin, full_tries, kept, tries_left}
use Rattle.card_model.specs.Behaviours.{Attempt, charged_card, pin_of}
use Rattle.card_model.specs.Cards.{Card, Pin}
use Rattle.card_model.specs.Steps.{attempt_of}
use Rattle.command_base.specs.Finding.{Finds}

-- the counters of a board for each secret: how often it was compared, and how often it matched
pub record Comparisons : Type 0 where
  pub compares : List ℕ
  pub matches : List ℕ

abbrev pub comparisons : Facts → Comparisons
comparisons facts = record { compares = facts.compares; matches = facts.matches }

-- no comparison is made
abbrev pub ComparesNothing : Comparisons → Comparisons → Type 0
ComparesNothing old new = new ≡ old

-- the presented value is the stored secret, and the board counted the match
pub record Matches (secret : ℕ) (shown : List ℕ) (was : Pin) (old new : Comparisons) : Type 0 where
  pub right : kept secret was ≡ shown
  pub compared : new.compares ≡ raised old.compares secret
  pub matched : new.matches ≡ raised old.matches secret

-- a match that resets the tries of the secret to the maximum
pub record FillsTries (secret : ℕ) (shown : List ℕ) (was now : Pin) (old new : Comparisons) : Type 0 where
  pub match_counted : Matches secret shown was old new
  pub full : tries_left secret now ≡ full_tries secret

-- a comparison with a try left: it permanently uses up the try, or it matches and resets the tries
pub record PaysForOne (secret : ℕ) (shown : List ℕ) (was now : Pin) (old new : Comparisons) : Type 0 where
  pub compared : new.compares ≡ raised old.compares secret
  pub left : 0 < tries_left secret was
  pub paid : (tries_left secret now + 1 ≡ tries_left secret was) ⊎ FillsTries secret shown was now old new

-- The cost of presenting a secret, wherever the command stops. Its tries stay, decrease by one, or are reset by a
-- match. At most one comparison is counted, of this secret only, and it is paid for. A match is counted only if the
-- presented value is the stored secret. Without tries nothing is compared. Beyond these tries the PIN changes only
-- after a match. Its unblocking value never changes, and its unblocking tries change by no command that presents the
-- PIN's own value.
pub record CostsATry (secret : ℕ) (shown : List ℕ) (was now : Pin) (old new : Comparisons) : Type 0 where
  pub tries : (tries_left secret now ≡ tries_left secret was) ⊎ (tries_left secret now + 1 ≡ tries_left secret was)
      ⊎ FillsTries secret shown was now old new
  pub compares : (new.compares ≡ old.compares) ⊎ PaysForOne secret shown was now old new
  pub matches : (new.matches ≡ old.matches) ⊎ Matches secret shown was old new
  pub blocked : tries_left secret was ≡ 0 → (now ≡ was) × (new ≡ old)
  pub pin : (now ≡ was) ⊎ (now ≡ charged_pin secret was) ⊎ Matches secret shown was old new
  pub unblocking : now.unblocking ≡ was.unblocking
  pub unblocking_tries : secret < PINS → now.unblocking_tries ≡ was.unblocking_tries

-- an attempt costs a try of its PIN, and no other PIN changes
pub record ComparesAttempt (a : Attempt) (c d : Card) (old new : Comparisons) : Type 0 where
  pub costs : CostsATry a.secret a.shown (pin_of c a.pin) (pin_of d a.pin) old new
  pub others : d.pins ≡ slice_set c.pins (a.pin - 1) (pin_of d a.pin)

-- The device writes of an attempt begin with its charge. Power-on with the first write, and no other, finds the card
-- with one try less of the presented secret, which had one, and otherwise unchanged. So does power-on with the charge
-- and any number of the other writes, but not all.
pub record ChargesFirst (a : Attempt) (c : Card) (old new : Facts) : Type 0 where
  pub left : 0 < tries_left a.secret (pin_of c a.pin)
  pub wrote : WritesRuns old new
  pub charge : Run
  pub rest : List Run
  pub begins : wrote.runs ≡ charge ∷ rest
  pub charged : Finds (written old.words charge.at charge.words) (charged_card c a)
  pub between : (k : ℕ) → k < length rest
      → Finds (replayed (written old.words charge.at charge.words) (take k rest)) (charged_card c a)

-- wherever an attempt stops: nothing was compared, or its first device write was the charge
abbrev pub ComparesCharged : Attempt → Card → Facts → Facts → Type 0
ComparesCharged a c old new = ComparesNothing (comparisons old) (comparisons new) ⊎ ChargesFirst a c old new

-- A request that presents no secret makes no comparison. One that does costs a try, and charges it first.
abbrev pub ComparesShown : Option Attempt → Card → Facts → Card → Facts → Type 0
ComparesShown None c old d new = ComparesNothing (comparisons old) (comparisons new)
ComparesShown (Some a) c old d new =
    ComparesAttempt a c d (comparisons old) (comparisons new) × ComparesCharged a c old new

abbrev pub ComparesBy : Request → Card → Facts → Card → Facts → Type 0
ComparesBy request c old d new = ComparesShown (attempt_of request) c old d new

-- a command that is no valid request makes no comparison
abbrev pub ComparesAsked : Result Request Sw → Card → Facts → Card → Facts → Type 0
ComparesAsked (Ok request) c old d new = ComparesBy request c old d new
ComparesAsked (Err status) c old d new = ComparesNothing (comparisons old) (comparisons new)
