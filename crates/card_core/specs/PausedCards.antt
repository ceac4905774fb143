-- A card between two commands without its board: what it keeps, and how it goes on.
use Rattle.std.specs.Prelude.{◌≡◌, ◌⊎◌, ℕ, true, false, List}
use Rattle.nvm_board.specs.Facts.{Facts, Steady, GoesDark, Fails}
use Rattle.undo_journal.specs.Undo.{gate, IsSound}
use Rattle.undo_journal.specs.Spending.{KeepsShut, WritesAtMost, start_writes}
use Rattle.file_tree.specs.Table.{table}
use Rattle.file_tree.specs.Indexes.{IsIndex}
use Rattle.card_model.specs.Cards.{card_space}
use Rattle.card_model.specs.Sessions.{Session}
use Rattle.command_base.specs.Finding.{words_found, HasCard, FindsAgain}
use Rattle.command_base.specs.Standing.{card_of, IsCard}
use Rattle.command_base.specs.Working.{session_of, IsCurrent}
use Rattle.card_start.specs.declared.faults.StartFault.{StartFault}
use Rattle.card_start.specs.declared.faults.StartFault.TheVariants.{PowerLost, Fault, BadJournal, Damaged}
use Rattle.card_start.specs.declared.state.CardState.TheVariants.{Working}
use Rattle.card_start.specs.Running.{Running}
use Rattle.card_core.specs.declared.paused.Paused.{Paused}

-- What a paused card keeps fits these data words: they are a valid card image, its current files exist in it, and
-- free space and index are those of its files. It speaks of the words after recovery alone, so whoever keeps them can
-- resume the card.
pub record IsPaused (m : List ℕ) (p : Paused) : Type 0 where
  pub card : IsCard m
  pub current : IsCurrent (table m) p.current
  pub space : p.free ≡ card_space (card_of m)
  pub index : IsIndex (table m) p.index

-- the session in the model of a paused card, over the data words
abbrev pub session_on : List ℕ → Paused → Session
session_on m p = session_of (table m) p.current

-- A board between two commands: it has power, and its journal is valid and empty.
pub record IsBetween (facts : Facts) : Type 0 where
  pub sound : IsSound facts.words
  pub shut : gate facts.words ≡ 0
  pub lit : facts.dark ≡ false

-- The board's journal is recovered, and no more. With an empty journal nothing is written.
pub record Recovers (old new : Facts) : Type 0 where
  pub words : words_found new.words ≡ words_found old.words
  pub found : FindsAgain old.words new.words
  pub shut : KeepsShut old new
  pub writes : WritesAtMost (start_writes old) old new

-- A paused card works again, with the session that it had.
pub record Resumes (old : Facts) (paused : Paused) (new : Running) : Type 0 where
  pub has_card : HasCard new.facts.words
  pub power : Steady old new.facts
  pub session : new.session ≡ session_on (words_found old.words) paused
  pub state : new.state ≡ Working

-- Why a paused card can't go on: power was lost, or was off; or the device failed. The memory is never to blame.
abbrev pub ResumeStopsBy : StartFault → Facts → Facts → Type 0
ResumeStopsBy PowerLost old new = GoesDark old new ⊎ ((old.dark ≡ true) × (new ≡ old))
ResumeStopsBy Fault old new = Fails old new
ResumeStopsBy BadJournal old new = ⊥
ResumeStopsBy Damaged old new = ⊥
