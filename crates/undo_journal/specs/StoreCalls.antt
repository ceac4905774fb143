-- The postconditions of calls on a store or in a transaction: effect, failure and number of writes.
use Rattle.std.specs.Prelude.{◌≡◌, ◌+◌, ◌≤◌, ℕ, Option, Some, None, Result, IfOk}
use Rattle.std.specs.Result.{result_err}
use Rattle.undo_journal.specs.declared.error.StoreErr.{StoreErr}
use Rattle.undo_journal.specs.declared.txn.Txn.{Txn}
use Rattle.undo_journal.specs.Commits.{CommitsLast, RisesEarly}
use Rattle.undo_journal.specs.Lent.{memory_of, store_of}
use Rattle.undo_journal.specs.Memory.{Memory, KeepsWords, Reports, IsOpen, IsIdle, IsReady, InRuns, committed, taken}
use Rattle.undo_journal.specs.Memory.{room}
use Rattle.undo_journal.specs.Spending.{KeepsBoard, WritesAtMost}

-- The calls only read: committed, current and waiting words are unchanged, and so are the board's words and counts.
-- Only cuts and faults may be counted.
pub record OnlyReads (old new : Memory) : Type 0 where
  pub board : KeepsBoard old.facts new.facts
  pub keeps : KeepsWords old new
  pub reports : Reports old new

-- The calls in a transaction only read.
pub record TxnReads {B : Type 0} (old new : Txn B) : Type 0 where
  pub same_store : (store_of new).ghost_name ≡ (store_of old).ghost_name
  pub reads : OnlyReads (memory_of old) (memory_of new)

-- The calls in a transaction make at most n sets, and otherwise only read. The committed words and the store are the
-- same, and are so between any two device writes. The sets lie in at most n runs; a contract with fewer runs says so in
-- another clause. Nothing is written before the pairs and the gate.
pub record Sets {B : Type 0} (n : ℕ) (old new : Txn B) : Type 0 where
  pub same_store : (store_of new).ghost_name ≡ (store_of old).ghost_name
  pub kept : committed (memory_of new) ≡ committed (memory_of old)
  pub room : room (memory_of old) ≤ room (memory_of new) + n
  pub taken : taken (memory_of new) ≤ taken (memory_of old) + n
  pub reports : Reports (memory_of old) (memory_of new)
  pub writes : InRuns n (memory_of old) (memory_of new)
  pub rises : RisesEarly (memory_of old) (memory_of new)
  pub between : CommitsLast (memory_of old).facts (memory_of new).facts

-- A fact that holds unless a call failed. `told` is the error that was returned, if any.
abbrev pub UnlessFailed : Option StoreErr → Type 0 → Type 0
UnlessFailed None fact = fact
UnlessFailed (Some e) fact = Unit {0}

-- The calls only read, outside a transaction. The store is ready, or it has failed with the returned error.
pub record Reads (old new : Memory) (told : Option StoreErr) : Type 0 where
  pub only : OnlyReads old new
  pub ready : UnlessFailed told (IsReady new)
  pub tells : new.failed ≡ told

-- The calls may write, and leave no transaction open. The store is ready, or it has failed with the returned error.
pub record Leaves (old new : Memory) (told : Option StoreErr) : Type 0 where
  pub reports : Reports old new
  pub idle : IsIdle new
  pub ready : UnlessFailed told (IsReady new)
  pub tells : new.failed ≡ told

-- The same, with at most n device writes and no comparison.
pub record Changes (n : ℕ) (old new : Memory) (told : Option StoreErr) : Type 0 where
  pub reports : Reports old new
  pub idle : IsIdle new
  pub ready : UnlessFailed told (IsReady new)
  pub tells : new.failed ≡ told
  pub writes : WritesAtMost n old.facts new.facts

-- The calls only read in a transaction. Its store is open, or it has failed with the returned error.
pub record ReadsIn {B : Type 0} (old new : Txn B) (told : Option StoreErr) : Type 0 where
  pub only : TxnReads old new
  pub ready : UnlessFailed told (IsOpen (memory_of new))
  pub tells : (memory_of new).failed ≡ told

-- The calls make at most n sets in a transaction, and otherwise only read. Its store is open, or it has failed with
-- the returned error.
pub record SetsIn {B : Type 0} (n : ℕ) (old new : Txn B) (told : Option StoreErr) : Type 0 where
  pub sets : Sets n old new
  pub ready : UnlessFailed told (IsOpen (memory_of new))
  pub tells : (memory_of new).failed ≡ told

-- The calls only read, outside a transaction. Their result satisfies `fact`, unless the store fails.
pub record Learns {T : Type 0} (old new : Memory) (result : Result T StoreErr) (fact : T → Type 0) : Type 0 where
  pub told : IfOk result fact
  pub store : Reads old new (result_err result)
