-- The value of a store: committed and current words, failure, and the reports of its calls.
use Rattle.std.specs.Prelude.{◌≡◌, ◌≢◌, ◌⊎◌, ◌<◌, ◌≤◌, ◌+◌, ◌-◌, ◌*◌, ◌/◌, ◌%◌, ◌==◌, ℕ, true, false, List}
use Rattle.std.specs.Prelude.{if◌then◌else◌, [], length, IsSome, Option, Some, None, Result}
use Rattle.std.specs.Result.{result_map_both}
use Rattle.nvm_board.specs.declared.board.TheConstants.{PAGE_WORDS}
use Rattle.nvm_board.specs.declared.board.DeviceErr.{DeviceErr}
use Rattle.nvm_board.specs.declared.board.DeviceErr.TheVariants as device
use Rattle.nvm_board.specs.Aims.{AimsOn}
use Rattle.nvm_board.specs.Facts.{Facts, AreWords, IsMemory, Steady, GoesDark, Fails}
use Rattle.undo_journal.specs.declared.error.StoreErr.{StoreErr}
use Rattle.undo_journal.specs.declared.error.StoreErr.TheVariants.{PowerLost, Fault}
use Rattle.undo_journal.specs.declared.error.OpenFault.{OpenFault}
use Rattle.undo_journal.specs.declared.error.OpenFault.TheVariants as fault
use Rattle.undo_journal.specs.declared.layout.TheConstants.{PAIRS}
use Rattle.undo_journal.specs.declared.batch.TheConstants.{BATCH}
use Rattle.undo_journal.specs.declared.batch.Waiting.{Waiting}
use Rattle.undo_journal.specs.Batches.{overlay, look_up, with_set, batch_writes, AreSets}
use Rattle.undo_journal.specs.Undo.{gate, undo, data_words, IsSound, IsBadJournal}

-- A store: the facts of its board, its failure, the number of journal pairs in use, and the waiting sets.
pub record Memory : Type 0 where
  pub facts : Facts
  pub failed : Option StoreErr
  pub used : ℕ
  pub waiting : List Waiting

-- The committed words, which power loss or a fault leaves: the words after undo.
abbrev pub committed : Memory → List ℕ
committed m = data_words (undo m.facts.words)

-- The current words, which a read returns.
abbrev pub current : Memory → List ℕ
current m = data_words (overlay m.waiting m.facts.words)

-- The number of pairs that the transaction takes, the waiting sets included.
abbrev pub taken : Memory → ℕ
taken m = m.used + length m.waiting

-- The number of further sets that fit in the journal.
abbrev pub room : Memory → ℕ
room m = PAIRS - taken m

-- The device writes so far, and those still due for the waiting sets.
abbrev pub spent : Memory → ℕ
spent m = m.facts.writes + batch_writes m.waiting

-- The device writes of a commit: those of the waiting sets and one for the gate; none without a set.
abbrev pub commit_writes : Memory → ℕ
commit_writes m = if taken m == 0 then 0 else batch_writes m.waiting + 1

-- The word at this address waits, or no set waits after a written batch. In both cases the next word of the run costs
-- no extra write.
abbrev pub EndsAt : Memory → ℕ → Type 0
EndsAt m a = ((m.waiting ≡ []) × (0 < m.used)) ⊎ IsSome (look_up a m.waiting)

-- A set at this address continues the run of the word before it in the same page.
abbrev pub ContinuesRun : Memory → ℕ → Type 0
ContinuesRun m a = (a % PAGE_WORDS ≢ 0) × EndsAt m (a - 1)

-- The device writes of `sets` sets in one run, but for the gate of their commit. Each eight take three: pairs, gate
-- and words. `InRuns` counts the words of the first eight.
abbrev pub run_writes : ℕ → ℕ
run_writes sets = 3 * ((sets + 7) / 8) - 1

-- The calls cost no more than sets in `runs` runs of successive addresses of a page, each word right after the one
-- before it. Each further run costs one more device write.
pub record InRuns (runs : ℕ) (old new : Memory) : Type 0 where
  pub writes : spent new + run_writes (taken old) ≤ spent old + run_writes (taken new) + runs
  pub more : old.facts.writes ≤ new.facts.writes
  pub cut : AimsOn old.facts new.facts
  pub compares : new.facts.compares ≡ old.facts.compares
  pub matches : new.facts.matches ≡ old.facts.matches

-- A set that waits with fewer than a batch of others: nothing is written.
pub record Waits (sets : List Waiting) (old new : Memory) : Type 0 where
  pub few : length sets < BATCH
  pub waiting : new.waiting ≡ sets
  pub used : new.used ≡ old.used
  pub facts : new.facts ≡ old.facts

-- A set that fills a batch, which is written.
pub record FillsBatch (sets : List Waiting) (old new : Memory) : Type 0 where
  pub full : length sets ≡ BATCH
  pub waiting : new.waiting ≡ []
  pub used : new.used ≡ old.used + BATCH
  pub writes : new.facts.writes ≡ old.facts.writes + batch_writes sets

-- The effect of a successful set on the waiting ones.
abbrev pub Joins : Waiting → Memory → Memory → Type 0
Joins set old new = Waits (with_set set old.waiting) old new ⊎ FillsBatch (with_set set old.waiting) old new

-- The device writes of a set: those of the batch that it fills, else none.
abbrev pub set_writes : Waiting → Memory → ℕ
set_writes set m = if length (with_set set m.waiting) == BATCH then batch_writes (with_set set m.waiting) else 0

-- No call has failed, and the board has power.
pub record IsOpen (m : Memory) : Type 0 where
  pub works : m.failed ≡ None
  pub lit : m.facts.dark ≡ false
  pub committed_size : IsMemory (committed m)
  pub current_size : IsMemory (current m)
  pub committed_fit : AreWords (committed m)
  pub current_fit : AreWords (current m)

-- No transaction is under way, or it has made no set yet.
abbrev pub IsIdle : Memory → Type 0
IsIdle m = taken m ≡ 0

-- A transaction that begins with these calls takes `writes` device writes: those so far and those of its commit.
abbrev pub CountsCommit : ℕ → Memory → Memory → Type 0
CountsCommit writes old new = IsIdle old → new.facts.writes + commit_writes new ≡ old.facts.writes + writes

-- The store is open without a transaction, and no pair counts.
pub record IsReady (m : Memory) : Type 0 where
  pub usable : IsOpen m
  pub idle : IsIdle m
  pub shut : gate m.facts.words ≡ 0
  pub same : committed m ≡ current m

-- The words, the waiting sets and the number of pairs taken are unchanged.
pub record KeepsWords (old new : Memory) : Type 0 where
  pub committed_words : committed new ≡ committed old
  pub current_words : current new ≡ current old
  pub taken : taken new ≡ taken old
  pub waiting : new.waiting ≡ old.waiting

-- The invariant of a store that hasn't failed. The gate counts the pairs in use, which are whole batches. The waiting
-- sets are fewer than a batch, and fit in the journal.
pub record IsHeld (facts : Facts) (used : ℕ) (waiting : List Waiting) : Type 0 where
  pub sound : IsSound facts.words
  pub counts : gate facts.words ≡ used
  pub lit : facts.dark ≡ false
  pub whole : used % BATCH ≡ 0
  pub few : length waiting < BATCH
  pub fits : used + length waiting ≤ PAIRS
  pub sets : AreSets (length facts.words) 0 waiting

-- The invariant of a store. If it failed because power was lost, its board has no power.
pub record IsTrueToBoard (m : Memory) : Type 0 where
  pub works : m.failed ≡ None → IsHeld m.facts m.used m.waiting
  pub lost : m.failed ≡ Some PowerLost → m.facts.dark ≡ true

-- The store's error for a device error.
abbrev pub store_err_of : DeviceErr → StoreErr
store_err_of device.PowerLost = PowerLost
store_err_of device.Fault = Fault

-- The store's result for a device's result.
abbrev pub store_result_of : {T : Type 0} → Result T DeviceErr → Result T StoreErr
store_result_of answer = result_map_both (λ v. v) store_err_of answer

-- The error of a failed open for a device error.
abbrev pub open_fault_of : DeviceErr → OpenFault
open_fault_of device.PowerLost = fault.PowerLost
open_fault_of device.Fault = fault.Fault

-- Power is as before, and neither a cut nor a fault was counted.
pub record SameLight (old new : Facts) : Type 0 where
  pub dark : new.dark ≡ old.dark
  pub faults : new.faults ≡ old.faults
  pub cuts : new.cuts ≡ old.cuts
  pub due : new.due ≡ old.due

-- The effect of a failure on the board.
abbrev pub FailsBy : StoreErr → Facts → Facts → Type 0
FailsBy PowerLost old new = GoesDark old new
FailsBy Fault old new = Fails old new

-- The effect of one or more calls on the store's failure, on its board's power and on its journal. A failed store
-- stays failed and leaves its board alone. One that still works had neither a cut nor a fault. One that fails in
-- these calls had exactly one. Undo stays defined, so that the next open finds a valid journal.
pub record Reports (old new : Memory) : Type 0 where
  pub stuck : (e : StoreErr) → old.failed ≡ Some e → (new.failed ≡ Some e) × (new.facts ≡ old.facts)
  pub works : new.failed ≡ None → (old.failed ≡ None) × SameLight old.facts new.facts
  pub fails : (e : StoreErr) → old.failed ≡ None → new.failed ≡ Some e → FailsBy e old.facts new.facts
  pub sound : IsSound old.facts.words → IsSound new.facts.words

-- The reason of a failed open, and its effect on the board.
abbrev pub OpensNot : OpenFault → Facts → Facts → Type 0
OpensNot fault.PowerLost old new = GoesDark old new ⊎ ((old.dark ≡ true) × (new ≡ old))
OpensNot fault.Fault old new = Fails old new
OpensNot fault.BadJournal old new = IsBadJournal old.words × Steady old new × (new.words ≡ old.words)
    × (new.writes ≡ old.writes)
