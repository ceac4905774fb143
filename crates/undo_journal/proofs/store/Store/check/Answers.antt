use Rattle.std.proofs.Common.{subst}
use Rattle.undo_journal.specs.Memory.{Memory, IsOpen}
use Rattle.undo_journal.proofs.Standing.{held-fits, open-from}
use Rattle.undo_journal.proofs.store.Store.check.Goals as goal

pub returns-in-None-clause-ready : goal.returns-in-None-clause-ready
returns-in-None-clause-ready g c =
    let family : Memory → Type 0 = λ m. IsOpen m in
    subst family c.self.view_is (open-from _ c.in-None.is (c.self.invariant.works c.in-None.is).lit
    (g.met.B.Board.is_board c.self.inside.board).sized (g.met.B.Board.is_board c.self.inside.board).words_fit
    (held-fits _ _ _ (c.self.invariant.works c.in-None.is)))
