use Rattle.std.proofs.Common.{◌≡◌, ◌≤◌, ◌+◌, ◌-◌, ◌++◌, length, drop}
use Rattle.undo_journal.specs.JournalParts.{run_words, first_words}
use Rattle.undo_journal.proofs.batch.first_run.Given as goal

abbrev pub invariant-loop-words : goal.invariant-loop-words
invariant-loop-words l = record {
  some : 1 ≤ length l.words.items;
  within : length l.words.items ≤ length l.sets;
  so_far : l.words.items ++ run_words (l.first.at + length l.words.items) (drop (length l.words.items) l.sets)
      ≡ first_words l.sets;
}

abbrev pub decreases-loop-words : goal.decreases-loop-words
decreases-loop-words l = length l.sets - length l.words.items
