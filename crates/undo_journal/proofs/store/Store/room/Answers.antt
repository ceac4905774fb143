use Rattle.std.proofs.Common.{ap, arith}
use Rattle.undo_journal.specs.Memory.{room}
use Rattle.undo_journal.proofs.store.Store.room.Goals as goal

pub returns : goal.returns
returns g c =
    omega (
      arith,
      c.saturating_sub.ensures,
      c.from.ensures,
      c.from-2.ensures,
      c.len.ensures.value,
      ap room c.self.view_is,
    )
