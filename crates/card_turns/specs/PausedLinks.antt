-- A card behind its end of the link, between two blocks without its board.
use Rattle.std.specs.Prelude.{◌≡◌, ℕ, List}
use Rattle.nvm_board.specs.Facts.{Facts}
use Rattle.card_model.specs.Sessions.{Session}
use Rattle.t1_link.specs.CardTable.{Link}
use Rattle.card_core.specs.PausedCards.{session_on, IsPaused, Resumes}
use Rattle.bench_turns.specs.CardBlocks.{Powered}
use Rattle.card_turns.specs.declared.paused_link.PausedLink.{PausedLink}

-- the paused card fits these data words
abbrev pub IsPausedBehind : List ℕ → PausedLink → Type 0
IsPausedBehind m p = IsPaused m p.card

-- its session in the model, over the data words
abbrev pub session_behind : List ℕ → PausedLink → Session
session_behind m p = session_on m p.card

-- its end of the link
abbrev pub link_of : PausedLink → Link
link_of p = p.link.link

-- The card works again, with the session and the end of the link that it had.
pub record ResumesBehind (old : Facts) (paused : PausedLink) (new : Powered) : Type 0 where
  pub card : Resumes old paused.card new.card
  pub link : new.link ≡ link_of paused
