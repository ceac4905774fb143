-- A card behind its end of the link: its reaction to each block.
use Rattle.std.specs.Prelude.{◌≡◌, ℕ, List, []}
use Rattle.nvm_board.specs.Facts.{Facts, Steady, GoesDark, Fails}
use Rattle.t1_link.specs.CardTable.{Link, link_step, Taken, Reaction, replies, runs, answers, reply_bytes}
use Rattle.undo_journal.specs.Spending.{KeepsBoard}
use Rattle.card_model.specs.CommandTable.{asked}
use Rattle.command_base.specs.Comparing.{comparisons, ComparesAsked, ComparesNothing}
use Rattle.command_base.specs.Counting.{CountsAnswered}
use Rattle.command_base.specs.Finding.{found}
use Rattle.card_start.specs.declared.state.CardState.TheVariants.{Working, Failed, Dark}
use Rattle.card_model.specs.Cards.{Card}
use Rattle.card_model.specs.Sessions.{Session, fresh_session}
use Rattle.card_model.specs.Steps.{ChangesNothing, IsStage, Outcome, answer_bytes, carried_out}
use Rattle.command_base.specs.CommitWords.{StandsAsked, TurnsAsked}
use Rattle.card_start.specs.Running.{Running, card_found, memory_failure}

-- the card and its end of the link
pub record Powered : Type 0 where
  pub card : Running
  pub link : Link

-- the link after a reaction and the block to send, where the answer of a command comes from `answer_to`
abbrev pub answering : Link → Reaction → (List ℕ → List ℕ) → Taken
answering link (replies block) answer_to = record { link = link; reaction = replies block }
answering link (runs command) answer_to = answers link (answer_to command)

-- the session after a reaction
abbrev pub session_by : Session → Reaction → (List ℕ → Session) → Session
session_by session (replies block) session_to = session
session_by session (runs command) session_to = session_to command

-- the reaction of the card's end to a block, with an answer for each command
abbrev pub block_answered : Link → List ℕ → (List ℕ → List ℕ) → Taken
block_answered link got answer_to = answering (link_step link got).link (link_step link got).reaction answer_to

-- the reaction runs a command
abbrev pub IsRun : Reaction → Type 0
IsRun (replies block) = ⊥
IsRun (runs command) = Unit {0}

-- the model's outcome of a command on this card, in its session
abbrev pub machine : Powered → List ℕ → Outcome
machine old command = carried_out (card_found old.card) old.card.session command

-- the card after a reaction
abbrev pub card_by : Card → Reaction → (List ℕ → Card) → Card
card_by card (replies block) card_to = card
card_by card (runs command) card_to = card_to command

-- the card is a stage of the command that the reaction runs, or unchanged if none runs
abbrev pub IsBlockStage : Powered → Reaction → Card → Type 0
IsBlockStage old (replies block) card = card ≡ card_found old.card
IsBlockStage old (runs command) card = IsStage (card_found old.card) old.card.session command card

-- the card state after recovery, during the command that the reaction runs; without a command nothing is written
abbrev pub BlockStands : Powered → Reaction → List ℕ → Type 0
BlockStands old (replies block) m = Unit {0}
BlockStands old (runs command) m = StandsAsked (card_found old.card) old.card.session (asked command) m

-- the card state after recovery, once the gate has turned in that command
abbrev pub BlockTurns : Powered → Reaction → Facts → Type 0
BlockTurns old (replies block) new = Unit {0}
BlockTurns old (runs command) new =
    TurnsAsked (card_found old.card) old.card.session (asked command) old.card.facts new

-- the reaction runs no command, or one that changes nothing permanent
abbrev pub BlockChangesNothing : Powered → Reaction → Type 0
BlockChangesNothing old (replies block) = Unit {0}
BlockChangesNothing old (runs command) = ChangesNothing (card_found old.card) old.card.session command

-- the comparisons of a block, by the board after it: those of the command that it runs, else none
abbrev pub BlockCompares : Powered → Reaction → Facts → Type 0
BlockCompares old (replies block) new = ComparesNothing (comparisons old.card.facts) (comparisons new)
BlockCompares old (runs command) new =
    ComparesAsked (asked command) (card_found old.card) old.card.facts (found new.words) new

-- a reply to a block counts the PIN comparison of the command that it runs; nothing is stated without a command
abbrev pub BlockCounts : Powered → Reaction → Powered → Type 0
BlockCounts old (replies block) new = Unit {0}
BlockCounts old (runs command) new =
    CountsAnswered (asked command) (card_found old.card) old.card.session old.card.facts new.card.facts

-- The reply of the link, without power loss and fault of the board. If a command runs, card, session and answer are
-- those of one step of the card model. An answered PIN command made one comparison. A block without a PIN command
-- makes none, and a block that changes nothing permanent writes nothing.
pub record Replies (old : Powered) (got : List ℕ) (new : Powered) (out : List ℕ) : Type 0 where
  pub power : Steady old.card.facts new.card.facts
  pub state : new.card.state ≡ Working
  pub card : card_found new.card
      ≡ card_by (card_found old.card) (link_step old.link got).reaction (λ command. (machine old command).card)
  pub session : new.card.session
      ≡ session_by old.card.session (link_step old.link got).reaction (λ command. (machine old command).session)
  pub link : new.link ≡ (block_answered old.link got (λ command. answer_bytes (machine old command).response)).link
  pub block : out
      ≡ reply_bytes (block_answered old.link got (λ command. answer_bytes (machine old command).response)).reaction
  pub counted : BlockCounts old (link_step old.link got).reaction new
  pub compares : BlockCompares old (link_step old.link got).reaction new.card.facts
  pub idle : BlockChangesNothing old (link_step old.link got).reaction → KeepsBoard old.card.facts new.card.facts

-- The reply of a card whose memory has failed: each command is answered with 6581.
pub record RepliesFailure (old : Powered) (got : List ℕ) (new : Powered) (out : List ℕ) : Type 0 where
  pub state : new.card.state ≡ Failed
  pub link : new.link ≡ (block_answered old.link got (λ command. memory_failure)).link
  pub block : out ≡ reply_bytes (block_answered old.link got (λ command. memory_failure)).reaction

-- a command ran, the board had a fault, and from now on the memory has failed
pub record BlockFails (old : Powered) (got : List ℕ) (new : Powered) (out : List ℕ) : Type 0 where
  pub power : Fails old.card.facts new.card.facts
  pub run : IsRun (link_step old.link got).reaction
  pub session : new.card.session ≡ fresh_session
  pub reply : RepliesFailure old got new out

-- a command ran, and the board lost power: there is no reply
pub record BlockIsCut (old : Powered) (got : List ℕ) (new : Powered) (out : List ℕ) : Type 0 where
  pub power : GoesDark old.card.facts new.card.facts
  pub run : IsRun (link_step old.link got).reaction
  pub state : new.card.state ≡ Dark
  pub session : new.card.session ≡ fresh_session
  pub block : out ≡ []
