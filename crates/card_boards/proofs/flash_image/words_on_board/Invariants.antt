use Rattle.std.proofs.Common.{◌≡◌, take}
use Rattle.card_boards.proofs.flash_image.words_on_board.Given as goal

abbrev pub invariant-loop-at : goal.invariant-loop-at
invariant-loop-at g l = record {
  words : (g.B.Board.facts l.board).words ≡ (g.B.Board.facts l.initial.board).words;
  so_far : l.words.items ≡ take l.at (g.B.Board.facts l.initial.board).words;
}
