use Rattle.std.proofs.Common.{◌≡◌, ◌≤◌, ◌+◌, ◌-◌, length, drop}
use Rattle.undo_journal.specs.JournalParts.{before}
use Rattle.undo_journal.proofs.batch.place_of.Given as goal

abbrev pub invariant-loop-place : goal.invariant-loop-place
invariant-loop-place l = record {
  within : l.place ≤ length l.sets;
  so_far : l.place + before l.at (drop l.place l.sets) ≡ before l.at l.sets;
}

abbrev pub decreases-loop-place : goal.decreases-loop-place
decreases-loop-place l = length l.sets - l.place
