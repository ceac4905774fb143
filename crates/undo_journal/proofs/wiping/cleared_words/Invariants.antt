use Rattle.std.proofs.Common.{◌≡◌, ◌⊎◌, ◌<◌, ◌+◌, ◌*◌, ℕ, length, slice_index}
use Rattle.nvm_board.specs.Facts.{Steady, address}
use Rattle.undo_journal.specs.Spending.{KeepsBoard}
use Rattle.undo_journal.proofs.wiping.cleared_words.Given as goal

abbrev pub invariant-loop-i : goal.invariant-loop-i
invariant-loop-i g l = let first = g.B.Board.facts l.initial.board in let now = g.B.Board.facts l.board in record {
  steady : (l.i ≡ 0 × now ≡ first) ⊎ Steady first now;
  reads : KeepsBoard first now;
  size : length l.words ≡ 16;
  names : (k : ℕ) → k < l.i → slice_index l.words (2 * k) ≡ slice_index first.words (address l.page (2 * k));
  cleared : (k : ℕ) → k < 8 → slice_index l.words (2 * k + 1) ≡ 0;
}
