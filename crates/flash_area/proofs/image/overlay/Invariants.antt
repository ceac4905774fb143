use Rattle.std.proofs.Common.{◌≡◌, ◌⊎◌, ◌<◌, ◌≤◌, ◌+◌, ℕ, length, get_or}
use Rattle.flash_area.proofs.image.overlay.Given as goal

abbrev pub invariant-loop-k : goal.invariant-loop-k
invariant-loop-k l = record {
  size : length l.found ≡ 18;
  other : (j : ℕ) → (j < l.first) ⊎ (l.first + l.k ≤ j) → get_or l.found j 0 ≡ get_or l.initial.found j 0;
  run : (j : ℕ) → j < l.k → get_or l.found (l.first + j) 0 ≡ get_or l.words j 0;
}
