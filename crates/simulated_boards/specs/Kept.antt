-- What contracts know of a board that something follows.
use Rattle.std.specs.Prelude.{ℕ, List, Option, None, if◌then◌else◌}
use Rattle.nvm_board.specs.Facts.{Facts}
use Rattle.nvm_board.specs.History.{Log}
use Rattle.simulated_boards.specs.Cut.{cut_facts}
use Rattle.simulated_boards.specs.Handed.{log_of, FollowerState}
use Rattle.simulated_boards.specs.declared.kept_board.KeptBoard.{KeptBoard}

-- the words of the board
abbrev pub kept_words : {F : Type 0} → KeptBoard F → List ℕ
kept_words b = (cut_facts b.cut).words

-- the log of the follower, unless that has fallen behind
abbrev pub kept_log : {F : Type 0} → (F → Option Log) → KeptBoard F → Option Log
kept_log log b = if b.follows then log_of log b.follower else None

-- the follower of the board, and whether it gets the next write
abbrev pub follower_state : {F : Type 0} → KeptBoard F → FollowerState F
follower_state b = record { follower = b.follower; follows = b.follows }

-- those of the board in working memory, with the log: a file that falls behind is no fault of the board
abbrev pub kept_facts : {F : Type 0} → (F → Option Log) → KeptBoard F → Facts
kept_facts log b = record (cut_facts b.cut) { log = kept_log log b }
