-- A board that begins with given words.
use Rattle.std.specs.Prelude.{ℕ, List}
use Rattle.nvm_board.specs.Facts.{Facts, new_board, pages_of}

-- a new board but for its words
abbrev pub board_with : List ℕ → Facts
board_with words = record (new_board (pages_of words)) { words = words }
