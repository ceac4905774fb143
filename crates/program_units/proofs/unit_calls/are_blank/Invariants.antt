use Rattle.std.proofs.Common.{◌≡◌, ◌<◌, ℕ, slice_index}
use Rattle.flash_device.specs.declared.flash.TheConstants.{BLANK}
use Rattle.program_units.proofs.unit_calls.are_blank.Given as goal

abbrev pub invariant-loop-k : goal.invariant-loop-k
invariant-loop-k l = (j : ℕ) → j < l.k → slice_index l.words j ≡ BLANK
