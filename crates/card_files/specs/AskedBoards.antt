-- The board that a command line asks for.
use Rattle.std.specs.Prelude.{◌≡◌, Bool, Option, None, Some, option_map, if◌then◌else◌}
use Rattle.std.specs.declared.fs.File.{File}
use Rattle.nvm_board.specs.declared.board.TheConstants.{LEAST_PAGES}
use Rattle.nvm_board.specs.Facts.{Facts}
use Rattle.card_boards.specs.FactoryBoards.{IsFactoryBoard}
use Rattle.simulated_boards.specs.declared.kept_board.KeptBoard.{KeptBoard}
use Rattle.simulated_boards.specs.Kept.{kept_facts, kept_words}
use Rattle.card_files.specs.FileRefusals.{HasPagesOf}
use Rattle.card_files.specs.declared.kept_file.KeptFile.{KeptFile}
use Rattle.card_files.specs.declared.options.Asked.{Asked}
use Rattle.card_files.specs.declared.options.Asked.TheVariants as asked

-- the facts of a board: the log of a file is not known
abbrev pub facts_of : KeptBoard KeptFile → Facts
facts_of board = kept_facts (λ file. None) board

-- whether each write waits until the disk has it, if a file follows the board and gets the next write
abbrev pub syncs : KeptBoard KeptFile → Option Bool
syncs board = if board.follows then option_map (λ file. file.sync) board.follower else None

-- the file that follows a board, if one does
abbrev pub followed_file : KeptBoard KeptFile → Option File
followed_file board = option_map (λ file. file.file) board.follower

-- Without `--card` it is a new board of 1,024 pages with the factory card, and no file follows it. A file follows the
-- board of a card in a file, gets its next write, and waits for the disk as the options ask. The board has the pages
-- that they give. There is no board for unknown words.
abbrev pub IsBoardOf : Asked → KeptBoard KeptFile → Type 0
IsBoardOf asked.Factory board = (board.follower ≡ None) × IsFactoryBoard LEAST_PAGES (facts_of board)
IsBoardOf (asked.Card options) board =
    (syncs board ≡ Some options.sync) × HasPagesOf options (kept_words board)
IsBoardOf asked.Unknown board = ⊥
