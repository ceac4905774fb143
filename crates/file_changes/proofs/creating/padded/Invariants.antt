use Rattle.std.proofs.Common.{◌≡◌, ◌<◌, ◌≤◌, ℕ, length, slice_index}
use Rattle.file_changes.proofs.creating.padded.Given as goal

abbrev pub invariant-loop-i : goal.invariant-loop-i
invariant-loop-i g l = record {
  size : length l.all ≡ length l.initial.all;
  done : (j : ℕ) → j < l.i → slice_index l.all j ≡ slice_index l.bytes j;
  rest : (j : ℕ) → l.i ≤ j → slice_index l.all j ≡ 0;
}
