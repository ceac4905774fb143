use Rattle.std.proofs.Common.{◌≡◌, ◌⊎◌, ◌<◌, ℕ}
use Rattle.nvm_board.specs.Facts.{Steady}
use Rattle.undo_journal.specs.Spending.{KeepsBoard}
use Rattle.undo_journal.specs.Undo.{pair_at}
use Rattle.undo_journal.specs.Wiping.{IsInPages}
use Rattle.undo_journal.proofs.wiping.names_pages.Given as goal

abbrev pub invariant-loop-i : goal.invariant-loop-i
invariant-loop-i g l = let old = g.B.Board.facts l.initial.board in let now = g.B.Board.facts l.board in record {
  steady : (l.i ≡ 0 × now ≡ old) ⊎ Steady old now;
  reads : KeepsBoard old now;
  apart : (k : ℕ) → k < l.i → ¬ IsInPages l.first l.end (pair_at old.words k).address;
}
