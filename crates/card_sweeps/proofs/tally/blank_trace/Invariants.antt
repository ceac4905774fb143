use Rattle.std.proofs.Common.{◌≡◌, length}
use Rattle.card_sweeps.proofs.tally.blank_trace.Given as goal

abbrev pub invariant-loop : goal.invariant-loop
invariant-loop l = record { so_far : length l.trace.items ≡ l.counter }
