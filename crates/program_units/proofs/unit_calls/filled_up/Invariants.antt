use Rattle.std.proofs.Common.{◌≡◌, ◌<◌, ◌≤◌, ℕ, length, slice_index}
use Rattle.flash_device.specs.declared.flash.TheConstants.{BLANK}
use Rattle.program_units.proofs.unit_calls.filled_up.Given as goal

abbrev pub invariant-loop-k : goal.invariant-loop-k
invariant-loop-k l = record {
  size : length l.whole ≡ 24;
  there : (j : ℕ) → j < l.k → slice_index l.whole j ≡ slice_index l.words j;
  rest : (j : ℕ) → l.k ≤ j → j < 24 → slice_index l.whole j ≡ BLANK;
}
