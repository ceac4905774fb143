use Rattle.std.proofs.Common.{ap}
use Rattle.undo_journal.specs.Memory.{Memory}
use Rattle.undo_journal.proofs.store.Store.into_board.Goals as goal

pub returns : goal.returns
returns g c = ap (λ (m : Memory). m.facts) c.self.view_is
