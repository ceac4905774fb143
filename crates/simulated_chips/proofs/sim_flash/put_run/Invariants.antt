use Rattle.std.proofs.Common.{◌≡◌, ◌⊎◌, ◌+◌, ◌<◌, ◌≤◌, ℕ, length, get_or}
use Rattle.nvm_board.specs.Facts.{AreWords}
use Rattle.simulated_chips.proofs.sim_flash.put_run.Given as goal

abbrev pub invariant-loop-k : goal.invariant-loop-k
invariant-loop-k l = record {
  fits : AreWords l.initial.words.items → AreWords l.words.items;
  size : length l.words.items ≡ length l.initial.words.items;
  there : (j : ℕ) → j < l.k → get_or l.words.items (l.at + j) 0 ≡ get_or l.run j 0;
  elsewhere : (j : ℕ) → (j < l.at) ⊎ (l.at + l.k ≤ j)
      → get_or l.words.items j 0 ≡ get_or l.initial.words.items j 0;
}
