use Rattle.std.proofs.Common.{ℕ, ◌<◌}
use Rattle.nvm_board.specs.Facts.{Steady}
use Rattle.undo_journal.specs.Undo.{pair_at, IsDataAddress}
use Rattle.undo_journal.specs.Spending.{KeepsBoard}
use Rattle.undo_journal.proofs.journal.names_data_words.Given as goal

abbrev pub invariant-loop-i : goal.invariant-loop-i
invariant-loop-i g l = let first = g.B.Board.facts l.initial.board in let now = g.B.Board.facts l.board in record {
  steady : Steady first now;
  reads : KeepsBoard first now;
  named : (k : ℕ) → k < l.i → IsDataAddress first.words (pair_at first.words k).address;
}
