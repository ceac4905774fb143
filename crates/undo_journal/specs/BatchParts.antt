-- A store that hasn't failed, from its board and its batch.
use Rattle.std.specs.Prelude.{None}
use Rattle.nvm_board.specs.Facts.{Facts}
use Rattle.undo_journal.specs.declared.batch.Batch.{Batch}
use Rattle.undo_journal.specs.Memory.{Memory}

abbrev pub working : Facts → Batch → Memory
working facts batch = record { facts = facts; failed = None; used = batch.used; waiting = batch.waiting.items }
