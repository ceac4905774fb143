use Rattle.std.proofs.Common.{◌≡◌, ◌<◌, ℕ, get_or}
use Rattle.flash_board.proofs.flash_board.are_equal.Given as goal

abbrev pub invariant-loop-k : goal.invariant-loop-k
invariant-loop-k l = record {
  same : l.differences ≡ 0 → (j : ℕ) → j < l.k → get_or l.kept j 0 ≡ get_or l.shown j 0;
  none : l.kept ≡ l.shown → l.differences ≡ 0;
}
