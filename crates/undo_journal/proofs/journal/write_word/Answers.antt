use Rattle.std.proofs.Common.{◌≡◌, ℕ, [], ◌∷◌, arith, subst, slice_set}
use Rattle.std.specs.Prelude.{OnOk}
use Rattle.nvm_board.specs.Torn.{Torn}
use Rattle.undo_journal.specs.laws.LastWrites.{last_written}
use Rattle.undo_journal.proofs.Telling.{write_costs}
use Rattle.undo_journal.proofs.journal.write_word.Goals as goal

pub returns : goal.returns
returns g c =
    let before = (g.B.Board.facts c.args.board.now).words in
    let after = (g.B.Board.facts c.write.new.self).words in
    let told = c.write.ensures in
    let same = c.page_and_place-page.ensures.same in
    record {
      done = subst (λ (k : ℕ). OnOk c.write.result (after ≡ slice_set before k c.args.word)) same told.done;
      torn = subst (λ (k : ℕ). Torn before k (c.args.word ∷ []) after) same told.torn;
      light = told.light;
      counted = told.counted;
      writes = write_costs _ _ _ _ _ (omega arith) told;
      between = last_written _ _ _ _ _ told;
    }
