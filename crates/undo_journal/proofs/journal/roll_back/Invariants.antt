use Rattle.std.proofs.Common.{◌≡◌, ◌+◌, ◌≤◌}
use Rattle.nvm_board.specs.Aims.{AimsOn}
use Rattle.nvm_board.specs.Facts.{Steady}
use Rattle.undo_journal.specs.Commits.{CommitsLast, StaysCommitted}
use Rattle.undo_journal.proofs.Restore.{put_back_from}
use Rattle.undo_journal.proofs.journal.roll_back.Given as goal

abbrev pub invariant-loop-left : goal.invariant-loop-left
invariant-loop-left g l = let first = g.B.Board.facts l.initial.board in let now = g.B.Board.facts l.board in record {
  within : l.left ≤ l.count;
  steady : Steady first now;
  so_far : now.words ≡ put_back_from first.words l.left;
  committed : StaysCommitted first.words now.words;
  writes : now.writes + l.left ≡ first.writes + l.count;
  more : first.writes ≤ now.writes;
  cut : AimsOn first now;
  compares : now.compares ≡ first.compares;
  matches : now.matches ≡ first.matches;
  between : CommitsLast first now;
}

abbrev pub decreases-loop-left : goal.decreases-loop-left
decreases-loop-left g l = l.left
