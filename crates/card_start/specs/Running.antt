-- A powered card: the effect of each of its calls, and of power-on.
use Rattle.std.specs.Prelude.{◌≡◌, ◌⊎◌, ℕ, true, List, []}
use Rattle.card_model.specs.declared.status.TheConstants.Sw.{MEMORY_FAILURE}
use Rattle.nvm_board.specs.Facts.{Facts, Steady, GoesDark, Fails}
use Rattle.undo_journal.specs.Undo.{IsSound, IsBadJournal}
use Rattle.card_start.specs.declared.state.CardState.{CardState}
use Rattle.card_start.specs.declared.state.CardState.TheVariants.{Working, Failed, Dark}
use Rattle.card_start.specs.declared.faults.StartFault.{StartFault}
use Rattle.card_start.specs.declared.faults.StartFault.TheVariants.{PowerLost, Fault, BadJournal, Damaged}
use Rattle.card_model.specs.CommandTable.{asked}
use Rattle.card_model.specs.Cards.{Card}
use Rattle.command_base.specs.Counting.{CountsAnswered}
use Rattle.card_model.specs.Sessions.{Session, fresh_session}
use Rattle.card_model.specs.Behaviours.{answer_bytes, only_status}
use Rattle.card_model.specs.Steps.{carried_out}
use Rattle.command_base.specs.Standing.{IsAnyCard}
use Rattle.command_base.specs.Finding.{words_found, found, HasCard}

-- the board, the session, and the state of the card; a card that doesn't work has a fresh session
pub record Running : Type 0 where
  pub facts : Facts
  pub session : Session
  pub state : CardState

-- the card state after recovery of its memory
abbrev pub card_found : Running → Card
card_found r = found r.facts.words

-- the answer of a card after a memory failure
abbrev pub memory_failure : List ℕ
memory_failure = answer_bytes (only_status MEMORY_FAILURE)

-- The command is one step of the card model. Card state, session and answer are those of the step, and the board had no
-- power loss and no fault. If the command presented a secret and wasn't refused, it made one comparison, and at
-- least one device write.
pub record Steps (old : Running) (command : List ℕ) (new : Running) (answer : List ℕ) : Type 0 where
  pub power : Steady old.facts new.facts
  pub state : new.state ≡ Working
  pub card : card_found new ≡ (carried_out (card_found old) old.session command).card
  pub session : new.session ≡ (carried_out (card_found old) old.session command).session
  pub answered : answer ≡ answer_bytes (carried_out (card_found old) old.session command).response
  pub counted : CountsAnswered (asked command) (card_found old) old.session old.facts new.facts

-- the board had a fault, and the card fails
pub record CommandFails (old new : Running) (answer : List ℕ) : Type 0 where
  pub power : Fails old.facts new.facts
  pub state : new.state ≡ Failed
  pub session : new.session ≡ fresh_session
  pub answered : answer ≡ memory_failure

-- the board lost power, and the card gives no answer
pub record CommandIsCut (old new : Running) (answer : List ℕ) : Type 0 where
  pub power : GoesDark old.facts new.facts
  pub state : new.state ≡ Dark
  pub session : new.session ≡ fresh_session
  pub answered : answer ≡ []

-- Power-on succeeds: there is a card state after recovery, and the session is fresh.
pub record Starts (old : Facts) (new : Running) : Type 0 where
  pub has_card : HasCard old.words
  pub power : Steady old new.facts
  pub session : new.session ≡ fresh_session
  pub state : new.state ≡ Working

-- Why power-on stops. Power was lost, or was off; the device failed; undo isn't defined, and nothing was written; or
-- the recovered words are no valid card image.
abbrev pub StartStopsBy : StartFault → Facts → Facts → Type 0
StartStopsBy PowerLost old new = GoesDark old new ⊎ ((old.dark ≡ true) × (new ≡ old))
StartStopsBy Fault old new = Fails old new
StartStopsBy BadJournal old new =
    IsBadJournal old.words × Steady old new × (new.words ≡ old.words) × (new.writes ≡ old.writes)
StartStopsBy Damaged old new = IsSound old.words × ¬ IsAnyCard (words_found old.words) × Steady old new
