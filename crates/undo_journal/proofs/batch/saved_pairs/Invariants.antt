use Rattle.std.proofs.Common.{◌≡◌, ◌*◌, ◌++◌, length, drop}
use Rattle.nvm_board.specs.Facts.{Steady}
use Rattle.undo_journal.specs.Spending.{KeepsBoard}
use Rattle.undo_journal.specs.Batches.{AreSets}
use Rattle.undo_journal.specs.JournalParts.{pair_words}
use Rattle.undo_journal.proofs.batch.saved_pairs.Given as goal

abbrev pub invariant-loop-set : goal.invariant-loop-set
invariant-loop-set g l = let first = g.B.Board.facts l.initial.board in let now = g.B.Board.facts l.board in record {
  steady : Steady first now;
  reads : KeepsBoard first now;
  sets : AreSets (length first.words) 0 (drop l.set-index l.sets);
  count : length l.words.items ≡ 2 * l.set-index;
  so_far : l.words.items ++ pair_words first.words (drop l.set-index l.sets) ≡ pair_words first.words l.sets;
}
