use Rattle.std.proofs.Common.{◌≡◌, ◌⊎◌, ◌+◌, ◌<◌, ◌≤◌, ℕ, length, get_or}
use Rattle.std.specs.Int.{IsBitSet}
use Rattle.nvm_board.specs.Facts.{AreWords}
use Rattle.simulated_boards.proofs.runs.put_masked.Given as goal

abbrev pub invariant-loop-i : goal.invariant-loop-i
invariant-loop-i l = record {
  fits : AreWords l.initial.words.items → AreWords l.words.items;
  size : length l.words.items ≡ length l.initial.words.items;
  elsewhere : (k : ℕ) → (k < l.start) ⊎ (l.start + l.i ≤ k)
      → get_or l.words.items k 0 ≡ get_or l.initial.words.items k 0;
  chosen : (k : ℕ) → k < l.i → IsBitSet l.mask k → get_or l.words.items (l.start + k) 0 ≡ get_or l.run k 0;
  others : (k : ℕ) → k < l.i → ¬ IsBitSet l.mask k
      → get_or l.words.items (l.start + k) 0 ≡ get_or l.initial.words.items (l.start + k) 0;
}
