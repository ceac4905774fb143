use Rattle.std.proofs.Common.{◌≡◌, ◌⊎◌, ◌≤◌, ◌<◌, ◌+◌, ◌*◌, ℕ, slice_index}
use Rattle.nvm_board.specs.Facts.{Steady}
use Rattle.undo_journal.specs.declared.layout.TheConstants.{JOURNAL}
use Rattle.undo_journal.specs.Wiping.{ChangesPairs}
use Rattle.undo_journal.proofs.wiping.wipe_pairs.Given as goal

abbrev pub invariant-loop-page : goal.invariant-loop-page
invariant-loop-page g l = let old = g.B.Board.facts l.initial.board in let new = g.B.Board.facts l.board in record {
  others : ChangesPairs old.words new.words;
  wiped : (k : ℕ) → JOURNAL ≤ k → k < 16 * l.page → slice_index new.words k ≡ 0;
  steady : (l.page ≡ 74 × new ≡ old) ⊎ Steady old new;
  least : 74 ≤ l.page;
  compares : new.compares ≡ old.compares;
  matches : new.matches ≡ old.matches;
  writes : new.writes + 74 ≤ old.writes + l.page;
}
