-- The card state after recovery, by the words written so far. A commit is the write of 0 to the gate. The charge of a
-- PIN, and the reset of its tries by VERIFY, are writes of the word of tries.
use Rattle.std.specs.Prelude.{◌≡◌, ◌⊎◌, ◌<◌, ◌+◌, ℕ, List, [], ◌∷◌, slice_set, Contains, Result, Ok, Err}
use Rattle.std.specs.Prelude.{if◌then◌else◌}
use Rattle.nvm_board.specs.Facts.{Facts}
use Rattle.card_model.specs.declared.status.Sw.{Sw}
use Rattle.undo_journal.specs.declared.layout.TheConstants.{GATE}
use Rattle.undo_journal.specs.Undo.{gate}
use Rattle.card_model.specs.Requests.{Request, create_file, verify, change_reference_data, reset_retry_counter}
use Rattle.card_model.specs.Requests.{change_requirement}
use Rattle.card_model.specs.Cards.{Card}
use Rattle.card_model.specs.FileCommands.{told_by}
use Rattle.card_model.specs.FileControl.{size_of_kind}
use Rattle.card_model.specs.Spaces.{blocks_for}
use Rattle.card_model.specs.TemplateGrammar.{fcp_read}
use Rattle.command_base.specs.Finding.{Finds, found}
use Rattle.card_model.specs.Sessions.{Session}
use Rattle.card_model.specs.Steps.{last_of, alone_served, gated_served, commits_asked, commits_served}

-- The write to the gate committed the card state, and no other write was needed:
-- with the former number of pairs in the gate, recovery gives the state before.
pub record IsGated (before : Card) (gated : List Card) (m : List ℕ) : Type 0 where
  pub card : Contains gated (found m)
  pub pairs : ℕ
  pub former : Finds (slice_set m GATE pairs) before

-- The card state after recovery, during a command. The command goes through the states `alone`, each by the write of
-- one word, and then through `gated`, by writes to the gate. While the gate isn't 0, it is the last state before
-- `gated`. With the gate 0 it is `c`, one of `alone`, or the one that the gate committed.
pub record StandsByWord (c : Card) (alone gated : List Card) (m : List ℕ) : Type 0 where
  pub undone : 0 < gate m → found m ≡ last_of c alone
  pub shut : gate m ≡ 0 → Contains (c ∷ alone) (found m) ⊎ IsGated (last_of c alone) gated m

-- the card state after recovery, during a request to a card in use
abbrev pub StandsServed : Card → Session → Request → List ℕ → Type 0
StandsServed c s request m = StandsByWord c (alone_served c s request) (gated_served c s request) m

-- and during a command
abbrev pub StandsAsked : Card → Session → Result Request Sw → List ℕ → Type 0
StandsAsked c s (Ok request) m =
    StandsByWord c (if c.in_use then alone_served c s request else [])
    (if c.in_use then gated_served c s request else []) m
StandsAsked c s (Err status) m = StandsByWord c [] [] m

-- The device writes of a request before its transaction: CREATE FILE fills the blocks of the new file, and a PIN
-- command charges a try.
abbrev pub early_writes : Request → ℕ
early_writes (create_file template) = blocks_for (size_of_kind (told_by (fcp_read template)).kind)
early_writes (verify pin shown) = 1
early_writes (change_reference_data pin shown new) = 1
early_writes (reset_retry_counter pin values) = 1
early_writes (change_requirement change pin shown) = 1
early_writes request = 0

-- The journal gate has turned: it is 0, and more device writes were made in the transaction than those of the first
-- pairs and of the gate itself. Then the card after the last commit is found.
abbrev pub TurnsServed : Card → Session → Request → Facts → Facts → Type 0
TurnsServed c s request old new = gate new.words ≡ 0 → old.writes + early_writes request + 2 < new.writes
    → found new.words ≡ last_of c (commits_served c s request)

-- the same during a command; one that is no valid request writes nothing
abbrev pub TurnsAsked : Card → Session → Result Request Sw → Facts → Facts → Type 0
TurnsAsked c s (Ok request) old new = gate new.words ≡ 0 → old.writes + early_writes request + 2 < new.writes
    → found new.words ≡ last_of c (commits_asked c s (Ok request))
TurnsAsked c s (Err status) old new = Unit {0}
