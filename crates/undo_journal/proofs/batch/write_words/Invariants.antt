use Rattle.std.proofs.Common.{◌≡◌, ◌≤◌, ◌+◌, length}
use Rattle.nvm_board.specs.Aims.{AimsOn}
use Rattle.nvm_board.specs.Facts.{Steady}
use Rattle.undo_journal.specs.declared.batch.TheConstants.{BATCH}
use Rattle.undo_journal.specs.Commits.{CommitsLast}
use Rattle.undo_journal.specs.Undo.{pairs}
use Rattle.undo_journal.specs.Batches.{overlay, runs_from, AreSets}
use Rattle.undo_journal.specs.JournalParts.{AllNamed}
use Rattle.undo_journal.proofs.Saving.{SameUndo}
use Rattle.undo_journal.proofs.batch.write_words.Given as goal

abbrev pub invariant-loop-rest : goal.invariant-loop-rest
invariant-loop-rest g l = let first = g.B.Board.facts l.initial.board in let now = g.B.Board.facts l.board in record {
  steady : Steady first now;
  few : length l.rest ≤ BATCH;
  sets : AreSets (length first.words) 0 l.rest;
  named : AllNamed (pairs now.words) l.rest;
  same : SameUndo first.words now.words;
  left : overlay l.rest now.words ≡ overlay l.sets first.words;
  writes : now.writes + runs_from 0 l.rest ≡ first.writes + runs_from 0 l.sets;
  more : first.writes ≤ now.writes;
  cut : AimsOn first now;
  compares : now.compares ≡ first.compares;
  matches : now.matches ≡ first.matches;
  between : CommitsLast first now;
}

abbrev pub decreases-loop-rest : goal.decreases-loop-rest
decreases-loop-rest g l = length l.rest
