-- The exit status that reports that there is no board to sweep.
use Rattle.std.specs.Prelude.{ℕ}
use Rattle.card_files.specs.declared.swept_file.BoardFault.{BoardFault}
use Rattle.card_files.specs.declared.swept_file.BoardFault.TheVariants as board

-- the exit status if there is no board
abbrev pub board_status_of : BoardFault → ℕ
board_status_of (board.Open error) = 6
board_status_of (board.Read error) = 6
board_status_of board.NotAFile = 6
board_status_of board.InUse = 6
board_status_of (board.Lock error) = 6
board_status_of board.Size = 6
board_status_of board.NoCard = 6
board_status_of board.Memory = 5
