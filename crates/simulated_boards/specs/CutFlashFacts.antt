-- The facts of a board on a flash that loses power at a chosen write.
use Rattle.nvm_board.specs.Aims.{due_of}
use Rattle.nvm_board.specs.Facts.{Facts}
use Rattle.simulated_boards.specs.declared.cut_flash_board.CutFlashBoard.{CutFlashBoard}

-- A cut is due while an arm is pending.
abbrev pub cut_flash_facts : {B : Type 0} {g : _} → (B → Facts) → CutFlashBoard B g → Facts
cut_flash_facts facts b = record (facts b.board) { due = due_of b.arm; pending = b.arm }
