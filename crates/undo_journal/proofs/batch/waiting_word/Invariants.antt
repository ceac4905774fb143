use Rattle.std.proofs.Common.{◌≡◌, drop}
use Rattle.undo_journal.specs.Batches.{look_up}
use Rattle.undo_journal.proofs.batch.waiting_word.Given as goal

abbrev pub invariant-loop-set : goal.invariant-loop-set
invariant-loop-set l = record {
  so_far : look_up l.at (drop l.set-index l.sets) ≡ look_up l.at l.sets;
}
