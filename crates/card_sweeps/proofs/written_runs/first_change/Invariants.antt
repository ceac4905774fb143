use Rattle.std.proofs.Common.{◌≡◌, ◌<◌, ℕ}
use Rattle.std.specs.Prelude.{slice_index}
use Rattle.card_sweeps.proofs.written_runs.first_change.Given as goal

abbrev pub invariant-loop-at : goal.invariant-loop-at
invariant-loop-at l = record { so_far : (a : ℕ) → a < l.at → slice_index l.left a ≡ slice_index l.right a }
