-- The bytes of an image, and why words are no valid one.
use Rattle.std.specs.Prelude.{ℕ, List, flat_map}
use Rattle.std.specs.Int.{w32, to_be_bytes}
use Rattle.nvm_board.specs.Facts.{IsMemory}
use Rattle.undo_journal.specs.Undo.{IsBadJournal, IsSound}
use Rattle.card_start.specs.declared.faults.StartFault.{StartFault}
use Rattle.card_start.specs.declared.faults.StartFault.TheVariants.{BadJournal, Damaged, PowerLost, Fault}
use Rattle.command_base.specs.Finding.{HasCard, words_found}
use Rattle.command_base.specs.Standing.{IsAnyCard}
use Rattle.card_boards.specs.declared.image.NoCard.{NoCard}
use Rattle.card_boards.specs.declared.image.NoCard.TheVariants.{Memory, Size, Start}

-- Power-on fails by these words: undo isn't defined, or the words after it are no valid card image. A new board loses
-- no power, and has no fault.
abbrev pub IsFaultOf : StartFault → List ℕ → Type 0
IsFaultOf BadJournal words = IsBadJournal words
IsFaultOf Damaged words = IsSound words × ¬ IsAnyCard (words_found words)
IsFaultOf PowerLost words = ⊥
IsFaultOf Fault words = ⊥

-- No board has this number of words, or recovery finds no card in them. Too little memory is reported only of words of
-- a board.
abbrev pub IsRefusedRightly : NoCard → List ℕ → Type 0
IsRefusedRightly Memory words = IsMemory words
IsRefusedRightly Size words = ¬ IsMemory words
IsRefusedRightly (Start fault) words = IsMemory words × ¬ HasCard words × IsFaultOf fault words

-- the bytes of words in an image: the most significant of each first
abbrev pub image_bytes : List ℕ → List ℕ
image_bytes words = flat_map (to_be_bytes w32) words
