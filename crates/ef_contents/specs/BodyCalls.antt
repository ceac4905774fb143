-- The postconditions of calls on bodies: for the buffer, the store and its committed words.
use Rattle.std.specs.Prelude.{◌≡◌, ◌⊎◌, ℕ, Option, List, [], Result, OnOk}
use Rattle.std.specs.Result.{result_err}
use Rattle.card_model.specs.declared.status.Sw.{Sw}
use Rattle.undo_journal.specs.declared.error.StoreErr.{StoreErr}
use Rattle.undo_journal.specs.StoreCalls.{Reads, Changes}
use Rattle.undo_journal.specs.Commits.{CommitsByGate, TurnsTo}
use Rattle.undo_journal.specs.Memory.{Memory, committed}
use Rattle.block_chain.specs.ChainChanges.{AppendsSome}
use Rattle.ef_contents.specs.declared.error.BodyErr.{BodyErr}
use Rattle.ef_contents.specs.Refusals.{Decides, WhereRefused, why_failed}

-- The call reads these bytes into a buffer, replacing its content. If the store fails, the buffer has a first part of
-- them.
pub record ReadsInto {T : Type 0} (wanted : List ℕ) (old new : Memory) (buffer : List ℕ) (result : Result T StoreErr)
    : Type 0 where
  pub bytes : OnOk result (buffer ≡ wanted)
  pub any_exit : AppendsSome [] wanted buffer
  pub store : Reads old new (result_err result)

-- The same, unless the call is refused: then the buffer is empty, and nothing was done.
pub record ReadsUnlessRefused {T : Type 0} (due : Option Sw) (wanted : List ℕ) (old new : Memory) (buffer : List ℕ)
    (result : Result T BodyErr) : Type 0 where
  pub bytes : OnOk result (buffer ≡ wanted)
  pub any_exit : AppendsSome [] wanted buffer
  pub refusal : Decides due (result_err result)
  pub refused : WhereRefused (result_err result) ((buffer ≡ []) × (new ≡ old))
  pub store : Reads old new (why_failed (result_err result))

-- The committed words become new ones that satisfy `becomes`, by one turn of the gate and at most n device writes. If
-- the store fails, they may be as before.
pub record Commits {T : Type 0} (becomes : List ℕ → Type 0) (n : ℕ) (old new : Memory) (result : Result T StoreErr)
    : Type 0 where
  pub any_exit : (committed new ≡ committed old) ⊎ becomes (committed new)
  pub done : OnOk result (becomes (committed new))
  pub by_gate : CommitsByGate old new
  pub turned : TurnsTo becomes old new
  pub store : Changes n old new (result_err result)

-- The same, unless the call is refused: then nothing was done.
pub record CommitsUnlessRefused {T : Type 0} (due : Option Sw) (becomes : List ℕ → Type 0) (n : ℕ) (old new : Memory)
    (result : Result T BodyErr) : Type 0 where
  pub any_exit : (committed new ≡ committed old) ⊎ becomes (committed new)
  pub done : OnOk result (becomes (committed new))
  pub refusal : Decides due (result_err result)
  pub refused : WhereRefused (result_err result) (new ≡ old)
  pub by_gate : CommitsByGate old new
  pub turned : TurnsTo becomes old new
  pub store : Changes n old new (why_failed (result_err result))
