-- The calls that set a PIN and compare nothing. No public clause uses these definitions.
use Rattle.std.specs.Prelude.{◌≡◌, ◌⊎◌, ◌+◌, ℕ, Result, OnOk}
use Rattle.std.specs.Result.{result_err}
use Rattle.undo_journal.specs.declared.error.StoreErr.{StoreErr}
use Rattle.undo_journal.specs.declared.txn.Txn.{Txn}
use Rattle.undo_journal.specs.Commits.{CommitsByGate, CommitsLast, TurnsTo}
use Rattle.undo_journal.specs.StoreCalls.{Changes, SetsIn}
use Rattle.undo_journal.specs.Lent.{memory_of}
use Rattle.undo_journal.specs.Memory.{Memory, CountsCommit, InRuns, committed, current}
use Rattle.undo_journal.specs.Spending.{transaction_writes}
use Rattle.card_model.specs.Secrets.{Pin, owner}
use Rattle.pin_store.specs.Pages.{ArePinPages, SetsPin, pin_at}
use Rattle.pin_store.specs.Trials.{pin_in}

-- Within a transaction, the PIN of a secret is changed by `set`, with `words` sets in `spans` runs. A commit of these
-- sets alone takes the device writes of such a transaction.
pub record SetsIts {B : Type 0} (words spans secret : ℕ) (set : Pin → Pin) (old new : Txn B)
    (result : Result (Unit {0}) StoreErr) : Type 0 where
  pub done : OnOk result (SetsPin (current (memory_of old)) (owner secret)
      (set (pin_at (current (memory_of old)) (owner secret))) (current (memory_of new)))
  pub store : SetsIn words old new (result_err result)
  pub counted : OnOk result (CountsCommit (transaction_writes words spans) (memory_of old) (memory_of new))
  pub runs : InRuns spans (memory_of old) (memory_of new)

-- The gate alone commits the change of a PIN by `set`. Once it has turned, the PIN is changed.
abbrev pub SetsByGate : ℕ → (Pin → Pin) → Memory → Memory → Type 0
SetsByGate secret set old new = CommitsByGate old new
    × TurnsTo (SetsPin (committed old) (owner secret) (set (pin_in old secret))) old new

-- The PIN of a secret is changed by `set`, in `writes` device writes. At each exit either that is done, or nothing
-- has changed, and only the last device write can do it. `gate` describes the effect on the gate.
pub record PutsIts (gate : Memory → Memory → Type 0) (writes secret : ℕ) (set : Pin → Pin) (old new : Memory)
    (result : Result (Unit {0}) StoreErr) : Type 0 where
  pub any_exit : (committed new ≡ committed old)
      ⊎ SetsPin (committed old) (owner secret) (set (pin_in old secret)) (committed new)
  pub done : OnOk result (SetsPin (committed old) (owner secret) (set (pin_in old secret)) (committed new))
  pub by_gate : gate old new
  pub pages : ArePinPages (committed old) → ArePinPages (committed new)
  pub store : Changes writes old new (result_err result)
  pub counted : OnOk result (new.facts.writes ≡ old.facts.writes + writes)
  pub between : CommitsLast old.facts new.facts
