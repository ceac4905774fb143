use Rattle.std.proofs.Common.{◌≡◌, take}
use Rattle.card_sweeps.proofs.tally.is_same_trace.Given as goal

abbrev pub invariant-loop-i : goal.invariant-loop-i
invariant-loop-i l = record { so_far : take l.i l.left ≡ take l.i l.right }
