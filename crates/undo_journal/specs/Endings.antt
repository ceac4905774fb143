-- The end of a transaction by the result of its work: commit after success, abandon after an error.
use Rattle.std.specs.Prelude.{ℕ, Option, Some, None, Result, Ok, Err}
use Rattle.undo_journal.specs.declared.error.StoreErr.{StoreErr}
use Rattle.undo_journal.specs.Memory.{Memory, commit_writes}
use Rattle.undo_journal.specs.Spending.{rollback_writes}

-- The result of the end: the work's error, or else the store's failure, or else success.
abbrev pub ended : {T : Type 0} → Result T StoreErr → Option StoreErr → Result T StoreErr
ended (Err e) failed = Err e
ended (Ok v) None = Ok v
ended (Ok v) (Some e) = Err e

-- The device writes of the end: those of the commit or of the rollback.
abbrev pub end_writes : {T : Type 0} → Result T StoreErr → Memory → ℕ
end_writes (Ok v) m = commit_writes m
end_writes (Err e) m = rollback_writes m.used
