-- Valid card images, and the card state of each. Page 0 is the header, pages 1 to 64 contain the file entries, pages 65
-- to 72 the PINs, and blocks begin at page 128. The store has its gate and journal between them. There are two formats:
-- the blocks end at page 1,024 in format 1, and at the page in the header in format 2.
use Rattle.std.specs.Prelude.{◌≡◌, ◌⊎◌, ℕ, ◌≤◌, ◌-◌, ◌==◌, if◌then◌else◌, List}
use Rattle.nvm_board.specs.Facts.{pages_of}
use Rattle.undo_journal.specs.Undo.{gate}
use Rattle.block_chain.specs.BlockWords.{word}
use Rattle.file_tree.specs.Formats.{block_count, is_format_2}
use Rattle.file_tree.specs.Trees.{tree_of, TreeStands}
use Rattle.pin_store.specs.Pages.{pins_of, unmarked_pins_of, AreMarks, ArePinPages}
use Rattle.block_chain.specs.declared.layout.TheConstants.{FIRST_BLOCK_PAGE, HEADER_PAGE}
use Rattle.file_tree.specs.declared.layout.TheConstants.{MARK, MARK_WORD, OLD_END_PAGE, OLD_MARK}
use Rattle.file_tree.specs.declared.layout.TheConstants.{PAGES_WORD, STATE_WORD}
use Rattle.card_model.specs.Cards.{Card, Pin}

-- the header of format 2: the mark "TSC2"; the page where the blocks end, at least 1,024;
-- and the state, 0 in use or 1 terminated
pub record IsHeader (m : List ℕ) : Type 0 where
  pub mark : word m HEADER_PAGE MARK_WORD ≡ MARK
  pub end : OLD_END_PAGE ≤ word m HEADER_PAGE PAGES_WORD
  pub state : word m HEADER_PAGE STATE_WORD ≤ 1

-- A valid card image of format 2: a header, entries that form a tree over chains in which each block occurs once,
-- and PINs, each with a mark.
pub record IsCard (m : List ℕ) : Type 0 where
  pub header : IsHeader m
  pub tree : TreeStands m
  pub pins : ArePinPages m
  pub marks : AreMarks m

-- the header of format 1: the mark "TSC1", and the state
pub record IsOldHeader (m : List ℕ) : Type 0 where
  pub mark : word m HEADER_PAGE MARK_WORD ≡ OLD_MARK
  pub state : word m HEADER_PAGE STATE_WORD ≤ 1

-- A valid card image of format 1, which power-on migrates to format 2.
pub record IsOldCard (m : List ℕ) : Type 0 where
  pub header : IsOldHeader m
  pub tree : TreeStands m
  pub pins : ArePinPages m

-- a valid card image, in either format
abbrev pub IsAnyCard : List ℕ → Type 0
IsAnyCard m = IsCard m ⊎ IsOldCard m

-- the number of blocks that the board has space for: one a page, from page 128 on
abbrev pub board_blocks : List ℕ → ℕ
board_blocks m = pages_of m - FIRST_BLOCK_PAGE

-- The number of blocks of the card after power-on. In format 2 the header gives it. In format 1 it is the number that
-- the board has space for, as migration uses them all.
unfoldable pub card_blocks : List ℕ → ℕ
card_blocks m = if is_format_2 m then block_count m else board_blocks m

-- its PINs; those of format 1 are all enabled, as their pages have no marks
unfoldable pub card_pins : List ℕ → List Pin
card_pins m = if is_format_2 m then pins_of m else unmarked_pins_of m

-- the card state of a valid card image
unfoldable pub card_of : List ℕ → Card
card_of m = record {
  tree = tree_of m;
  pins = card_pins m;
  in_use = word m HEADER_PAGE STATE_WORD == 0;
  blocks = card_blocks m;
}

-- A memory that is a valid card image of this card: its journal is empty, so that recovery changes nothing.
pub record StandsFor (m : List ℕ) (c : Card) : Type 0 where
  pub shut : gate m ≡ 0
  pub words : IsAnyCard m
  pub card : card_of m ≡ c
