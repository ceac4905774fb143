use Rattle.std.proofs.Common.{◌≡◌, ◌⊎◌, ◌+◌, ◌<◌, ◌≤◌, ℕ, length, get_or}
use Rattle.simulated_chips.proofs.sim_units.count_run.Given as goal

abbrev pub invariant-loop-k : goal.invariant-loop-k
invariant-loop-k l = record {
  size : length l.programs.items ≡ length l.initial.programs.items;
  all : (j : ℕ) → j < l.k → get_or l.programs.items (l.at + j) 0 ≡ l.number;
  elsewhere : (j : ℕ) → (j < l.at) ⊎ (l.at + l.k ≤ j)
      → get_or l.programs.items j 0 ≡ get_or l.initial.programs.items j 0;
}
