use Rattle.std.proofs.Common.{◌≡◌, ◌⊎◌, ◌≤◌, ◌<◌, ◌+◌, ◌*◌, ℕ}
use Rattle.nvm_board.specs.Facts.{Steady}
use Rattle.undo_journal.specs.declared.layout.TheConstants.{JOURNAL}
use Rattle.undo_journal.specs.Undo.{pair_at}
use Rattle.undo_journal.specs.Wiping.{ChangesPairs, NamesSame}
use Rattle.undo_journal.proofs.wiping.clear_pairs.Given as goal

abbrev pub invariant-loop-pair_page : goal.invariant-loop-pair_page
invariant-loop-pair_page g l = let old = g.B.Board.facts l.initial.board in let new = g.B.Board.facts l.board in record {
  others : ChangesPairs old.words new.words;
  names : NamesSame old.words new.words;
  cleared : (i : ℕ) → JOURNAL + 2 * i + 1 < 16 * l.pair_page → (pair_at new.words i).earlier ≡ 0;
  steady : (l.pair_page ≡ 74 × new ≡ old) ⊎ Steady old new;
  least : 74 ≤ l.pair_page;
  compares : new.compares ≡ old.compares;
  matches : new.matches ≡ old.matches;
  writes : new.writes + 74 ≤ old.writes + l.pair_page;
}
