-- The card state after recovery, for any contents of the journal.
use Rattle.std.specs.Prelude.{◌≡◌, ◌↔◌, List, ℕ}
use Rattle.undo_journal.specs.Undo.{undo, data_words, IsSound}
use Rattle.card_model.specs.Cards.{Card}
use Rattle.command_base.specs.Standing.{IsAnyCard, card_of}

-- the data words after recovery
abbrev pub words_found : List ℕ → List ℕ
words_found m = data_words (undo m)

-- the memory has a card state after recovery: undo is defined, and its words are a valid card image
pub record HasCard (m : List ℕ) : Type 0 where
  pub journal : IsSound m
  pub words : IsAnyCard (words_found m)

-- the card state after recovery
abbrev pub found : List ℕ → Card
found m = card_of (words_found m)

-- this is the card state after recovery
pub record Finds (m : List ℕ) (c : Card) : Type 0 where
  pub has_card : HasCard m
  pub card : found m ≡ c

-- both memories recover to the same card state, in either format, or to none; undo is defined for both or neither
pub record FindsAgain (old new : List ℕ) : Type 0 where
  pub card : found new ≡ found old
  pub there : HasCard new ↔ HasCard old
  pub journal : IsSound new ↔ IsSound old
