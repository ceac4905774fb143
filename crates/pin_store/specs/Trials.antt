-- The postconditions of a charge and of the calls that consume it, and the PIN law: a comparison permanently uses up
-- a try.
use Rattle.std.specs.Prelude.{◌≡◌, ◌⊎◌, ◌<◌, ◌≤◌, ◌+◌, ℕ, List, slice_index}
use Rattle.std.specs.Prelude.{Option, Some, None, Result, Ok, Err, IfOk, OnOk}
use Rattle.std.specs.Result.{result_err}
use Rattle.nvm_board.specs.Aims.{AimsOn}
use Rattle.nvm_board.specs.Facts.{RisesAt, raised}
use Rattle.undo_journal.specs.declared.error.StoreErr.{StoreErr}
use Rattle.undo_journal.specs.StoreCalls.{Changes, Leaves, OnlyReads}
use Rattle.undo_journal.specs.Commits.{CommitsByGate, CommitsLast, StaysShut, TurnsTo}
use Rattle.undo_journal.specs.Memory.{Memory, committed, IsReady}
use Rattle.pin_store.specs.declared.errors.PinErr.{PinErr}
use Rattle.pin_store.specs.declared.errors.PinErr.TheVariants as pin_err
use Rattle.pin_store.specs.declared.errors.Outcome.{Outcome}
use Rattle.pin_store.specs.declared.errors.Outcome.TheVariants.{Matched, Wrong}
use Rattle.card_model.specs.Secrets.{Pin, owner, kept, tries_left, full_tries, charged_pin}
use Rattle.pin_store.specs.Pages.{pin_at, ArePinPages, IsApart, IsMark, SetsPin}
use Rattle.card_model.specs.declared.pins.TheConstants.{PINS}

-- The PIN of a secret in the committed words.
abbrev pub pin_in : Memory → ℕ → Pin
pin_in m secret = pin_at (committed m) (owner secret)

-- The store is ready, and its words have valid PINs.
pub record HasPins (m : Memory) : Type 0 where
  pub ready : IsReady m
  pub pages : ArePinPages (committed m)

-- The store's failure in the result of a charge.
abbrev pub store_failure : {T : Type 0} → Result T PinErr → Option StoreErr
store_failure (Ok x) = None
store_failure (Err pin_err.Blocked) = None
store_failure (Err (pin_err.Store e)) = Some e

-- A try of a secret was left, and is used up.
pub record Charges (secret : ℕ) (old new : Memory) : Type 0 where
  pub left : 0 < tries_left secret (pin_in old secret)
  pub charged : SetsPin (committed old) (owner secret) (charged_pin secret (pin_in old secret)) (committed new)

-- The presented bytes equal the stored ones, and the match is counted.
pub record IsMatch (secret : ℕ) (shown : List ℕ) (old new : Memory) : Type 0 where
  pub right : kept secret (pin_in old secret) ≡ shown
  pub compared : new.facts.compares ≡ raised old.facts.compares secret
  pub matched : new.facts.matches ≡ raised old.facts.matches secret

-- At most n device writes, which bring a set cut nearer, and at most one comparison, of this secret. A match is counted
-- only if it is one.
pub record ComparesOnce (n secret : ℕ) (shown : List ℕ) (old new : Memory) : Type 0 where
  pub writes : new.facts.writes ≤ old.facts.writes + n
  pub more : old.facts.writes ≤ new.facts.writes
  pub cut : AimsOn old.facts new.facts
  pub compares : RisesAt old.facts.compares secret new.facts.compares
  pub matches : (new.facts.matches ≡ old.facts.matches) ⊎ IsMatch secret shown old new

-- The match set the PIN.
pub record SetsByMatch (secret : ℕ) (shown : List ℕ) (now : Pin) (old new : Memory) : Type 0 where
  pub match_counted : IsMatch secret shown old new
  pub sets : SetsPin (committed old) (owner secret) now (committed new)

-- The presented bytes differ from the stored ones. The comparison is counted, nothing is written, and `tries` are
-- left.
pub record IsWrong (secret : ℕ) (shown : List ℕ) (tries : ℕ) (old new : Memory) : Type 0 where
  pub wrong : ¬ (kept secret (pin_in old secret) ≡ shown)
  pub left : tries ≡ tries_left secret (pin_in old secret)
  pub compared : new.facts.compares ≡ raised old.facts.compares secret
  pub matched : new.facts.matches ≡ old.facts.matches
  pub writes : new.facts.writes ≡ old.facts.writes
  pub same : committed new ≡ committed old

-- The effect of a comparison by its outcome, before the PIN is set.
abbrev pub Compared : ℕ → List ℕ → Memory → Memory → Outcome → Type 0
Compared secret shown old new Matched = IsMatch secret shown old new
Compared secret shown old new (Wrong left) = IsWrong secret shown left old new

-- The effect of a renewal on the gate: the gate alone commits it. Once the gate has turned, the PIN is set by `set`
-- after a match.
abbrev pub RenewsByGate : ℕ → List ℕ → (Pin → Pin) → Memory → Memory → Type 0
RenewsByGate secret shown set old new = CommitsByGate old new
    × TurnsTo (λ after. SetsByMatch secret shown (set (pin_in old secret)) old new) old new

-- The device writes after a charge: `writes` after a match, none after a mismatch.
abbrev pub trial_end_writes : ℕ → Outcome → ℕ
trial_end_writes writes Matched = writes
trial_end_writes writes (Wrong left) = 0

-- The effect of such a call by its outcome: after a match the PIN is `now`, after a mismatch nothing is written.
abbrev pub EndsByOutcome : ℕ → List ℕ → Pin → Memory → Memory → Outcome → Type 0
EndsByOutcome secret shown now old new Matched = SetsByMatch secret shown now old new
EndsByOutcome secret shown now old new (Wrong left) = IsWrong secret shown left old new

-- A call that uses up a try of a secret, or is refused. At each exit either nothing has changed, or the try is used
-- up by one device write. A refused call writes nothing.
pub record TakesTry {T E : Type 0} (secret : ℕ) (refused : Type 0) (old new : Memory) (result : Result T E)
    (told : Option StoreErr) : Type 0 where
  pub any_exit : (committed new ≡ committed old) ⊎ Charges secret old new
  pub kept : refused → OnlyReads old new
  pub pages : ArePinPages (committed new)
  pub shut : StaysShut old new
  pub store : Changes 1 old new told
  pub counted : OnOk result (new.facts.writes ≡ old.facts.writes + 1)

-- A call that consumes a charge. It compares once, and a match changes the PIN by `set` in `writes` device writes. At
-- each exit either that is done, or nothing has changed, and only the last device write can do it. `gate` describes the
-- effect on the gate.
pub record EndsTrial (gate : Memory → Memory → Type 0) (writes secret : ℕ) (shown : List ℕ) (set : Pin → Pin)
    (old new : Memory) (result : Result Outcome StoreErr) : Type 0 where
  pub any_exit : (committed new ≡ committed old) ⊎ SetsByMatch secret shown (set (pin_in old secret)) old new
  pub done : IfOk result (EndsByOutcome secret shown (set (pin_in old secret)) old new)
  pub by_gate : gate old new
  pub pages : ArePinPages (committed new)
  pub store : Leaves old new (result_err result)
  pub spends : ComparesOnce writes secret shown old new
  pub counted : IfOk result (λ outcome. new.facts.writes ≡ old.facts.writes + trial_end_writes writes outcome)
  pub between : CommitsLast old.facts new.facts

-- A match was counted, and all tries of the secret are restored.
pub record FillsByMatch (secret : ℕ) (shown : List ℕ) (old new : Memory) : Type 0 where
  pub match_counted : IsMatch secret shown old new
  pub full : tries_left secret (pin_in new secret) ≡ full_tries secret

-- A comparison was counted and is paid for: a try was left and is used up, or all tries are restored after a match.
pub record PaysForCounted (secret : ℕ) (shown : List ℕ) (old new : Memory) : Type 0 where
  pub compared : new.facts.compares ≡ raised old.facts.compares secret
  pub left : 0 < tries_left secret (pin_in old secret)
  pub paid : (tries_left secret (pin_in new secret) + 1 ≡ tries_left secret (pin_in old secret))
      ⊎ FillsByMatch secret shown old new

-- The PIN law, from before the charge to any exit of the charge or of the call that consumes it. The tries of the
-- presented secret are unchanged, one fewer, or all restored after a match. A counted comparison is paid for, and a
-- counted match is one. Only a match changes the PIN but for these tries. The unblocking value never changes, and the
-- unblocking tries only by a command that presents the unblocking value. No word apart from the PIN changes, and a
-- valid mark stays valid.
pub record KeepsPinLaw (secret : ℕ) (shown : List ℕ) (old new : Memory) : Type 0 where
  pub tries : (tries_left secret (pin_in new secret) ≡ tries_left secret (pin_in old secret))
      ⊎ (tries_left secret (pin_in new secret) + 1 ≡ tries_left secret (pin_in old secret))
      ⊎ FillsByMatch secret shown old new
  pub compares : (new.facts.compares ≡ old.facts.compares) ⊎ PaysForCounted secret shown old new
  pub matches : (new.facts.matches ≡ old.facts.matches) ⊎ IsMatch secret shown old new
  pub pin : (pin_in new secret ≡ pin_in old secret) ⊎ (pin_in new secret ≡ charged_pin secret (pin_in old secret))
      ⊎ IsMatch secret shown old new
  pub unblocking : (pin_in new secret).unblocking ≡ (pin_in old secret).unblocking
  pub unblocking_tries : secret < PINS → (pin_in new secret).unblocking_tries ≡ (pin_in old secret).unblocking_tries
  pub elsewhere : (k : ℕ) → IsApart (owner secret) k → slice_index (committed new) k ≡ slice_index (committed old) k
  pub mark : IsMark (committed old) (owner secret) → IsMark (committed new) (owner secret)
