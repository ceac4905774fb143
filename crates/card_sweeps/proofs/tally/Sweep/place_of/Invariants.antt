use Rattle.std.proofs.Common.{◌≢◌, take, All}
use Rattle.card_sweeps.specs.Tallies.{finding}
use Rattle.card_sweeps.proofs.tally.Sweep.place_of.Given as goal

abbrev pub invariant-loop-i : goal.invariant-loop-i
invariant-loop-i l =
    record { so_far : All (λ s. finding s ≢ record { trace = l.trace; free = l.free }) (take l.i l.self.seen.items) }
