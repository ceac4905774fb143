use Rattle.std.proofs.Common.{ℕ, subst}
use Rattle.undo_journal.specs.declared.layout.TheConstants.{GATE}
use Rattle.undo_journal.specs.Spending.{WritesWord}
use Rattle.undo_journal.proofs.journal.write_gate.Goals as goal

pub returns : goal.returns
returns g c =
    let before = g.B.Board.facts c.args.board.now in
    let after = g.B.Board.facts c.write_word.new.board in
    subst (λ (w : ℕ). WritesWord GATE w before after c.write_word.result) c.from.ensures c.write_word.ensures
