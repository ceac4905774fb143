-- The store of a transaction, as contracts know it.
use Rattle.std.specs.Borrow.{MutBor}
use Rattle.undo_journal.specs.declared.txn.Txn.{Txn}
use Rattle.undo_journal.specs.Memory.{Memory}

-- The store that the transaction borrows.
abbrev pub store_of : {B : Type 0} → Txn B → MutBor Memory
store_of t = t.store

-- The value of that store.
abbrev pub memory_of : {B : Type 0} → Txn B → Memory
memory_of t = t.store.now
