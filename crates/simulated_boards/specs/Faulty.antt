-- The facts of a board that fails at a chosen call.
use Rattle.std.specs.Prelude.{◌≡◌, ◌+◌, ◌-◌, ◌<◌, ℕ, List, Option, Some, None, Result, IsOk, IsErr, IsErrAnd, IsErrOf}
use Rattle.std.specs.Prelude.{true, false}
use Rattle.nvm_board.specs.declared.board.TheConstants.{COUNT_END}
use Rattle.nvm_board.specs.declared.board.Arm.{Arm}
use Rattle.nvm_board.specs.declared.board.DeviceErr.{DeviceErr}
use Rattle.nvm_board.specs.declared.board.DeviceErr.TheVariants.{PowerLost, Fault}
use Rattle.simulated_boards.specs.declared.fault_board.Counted.{Counted}
use Rattle.simulated_boards.specs.declared.fault_board.Counted.TheVariants.{Calls, Writes}
use Rattle.simulated_boards.specs.declared.fault_board.FaultBoard.{FaultBoard}
use Rattle.nvm_board.specs.Facts.{Facts, IsWorn, new_board}
use Rattle.simulated_boards.specs.Ram.{ram_facts}
use Rattle.nvm_board.specs.Torn.{IsTornBy}

-- No cut is ever due. The pending arm is a fault.
abbrev pub fault_facts : FaultBoard → Facts
fault_facts b = record (ram_facts b.ram) { pending = b.arm; faults = b.faults }

-- The events that the present arm counts, and those that an arm set by `Armed::arm` counts.
pub record Counting : Type 0 where
  pub counted : Counted
  pub armed_by : Counted

abbrev pub counting : FaultBoard → Counting
counting b = record { counted = b.counted; armed_by = b.armed_by }

-- A new board with this number of pages and no fault set, whose arms count what `counted` says.
pub record IsNewFaultBoard (pages : ℕ) (counted : Counted) (b : FaultBoard) : Type 0 where
  pub facts : fault_facts b ≡ new_board pages
  pub counts : counting b ≡ record { counted = counted; armed_by = counted }

-- Sets a fault at the kth of what is counted. It replaces what was set before.
pub record SetsFault (counted : Counted) (k mask : ℕ) (old new : FaultBoard) : Type 0 where
  pub facts : fault_facts new
      ≡ record (fault_facts old) { pending = Some (record { whole_writes = k - 1; mask = mask }) }
  pub counts : counting new ≡ record (counting old) { counted = counted }

-- A call that no fault falls into. On success `next` is pending. On an error power is lost, for a count was at its
-- end, and the arm is unchanged.
pub record IsPassed {T : Type 0} (next : Option Arm) (old new : Facts) (result : Result T DeviceErr) : Type 0 where
  pub done : IsOk result → new.pending ≡ next
  pub lost : IsErr result → IsErrOf result PowerLost
  pub worn : IsErr result → IsWorn old
  pub stays : IsErr result → new.pending ≡ old.pending

-- The call that the fault falls into. It counts the fault and returns Fault, or loses power if the count is at its
-- end. No fault is set any more. Otherwise only words may change.
pub record IsFaulty (old new : Facts) (answer : DeviceErr) : Type 0 where
  pub fault : old.faults < COUNT_END
      → (answer ≡ Fault) × (new ≡ record old { words = new.words; pending = None; faults = old.faults + 1 })
  pub worn : old.faults ≡ COUNT_END
      → (answer ≡ PowerLost)
      × (new ≡ record old { words = new.words; pending = None; dark = true; cuts = old.cuts + 1 })

-- The effect of a counted call on the set fault. On a board without power there is none. On a powered one the fault
-- comes nearer by one call, or comes if no call is left before it.
pub record IsCounted {T : Type 0} (old new : Facts) (result : Result T DeviceErr) : Type 0 where
  pub dark : old.dark ≡ true → new.pending ≡ old.pending
  pub unarmed : old.dark ≡ false → old.pending ≡ None → IsPassed None old new result
  pub before : (left mask : ℕ) → old.dark ≡ false → old.pending ≡ Some (record { whole_writes = left + 1; mask = mask })
      → IsPassed (Some (record { whole_writes = left; mask = mask })) old new result
  pub fires : (mask : ℕ) → old.dark ≡ false → old.pending ≡ Some (record { whole_writes = 0; mask = mask })
      → IsErrAnd result (λ answer. IsFaulty old new answer)

-- A call that isn't counted: no fault falls into it, and the arm is unchanged.
pub record IsUncounted {T : Type 0} (old new : Facts) (result : Result T DeviceErr) : Type 0 where
  pub lost : IsErr result → IsErrOf result PowerLost
  pub stays : new.pending ≡ old.pending

-- The effect of a read or a comparison on the set fault.
abbrev pub AfterCall : {T : Type 0} → Counted → Facts → Facts → Result T DeviceErr → Type 0
AfterCall Calls old new result = IsCounted old new result
AfterCall Writes old new result = IsUncounted old new result

-- The run after a failing write: the old words, or torn by the mask.
abbrev pub LeavesRun : Counted → ℕ → ℕ → List ℕ → List ℕ → List ℕ → Type 0
LeavesRun Calls mask at run old new = new ≡ old
LeavesRun Writes mask at run old new = IsTornBy mask old at run new

-- The effect of a write of this run on the set fault.
pub record AfterWrite {T : Type 0} (counted : Counted) (at : ℕ) (run : List ℕ) (old new : Facts)
    (result : Result T DeviceErr) : Type 0 where
  pub pending : IsCounted old new result
  pub words : (mask : ℕ) → old.dark ≡ false → old.pending ≡ Some (record { whole_writes = 0; mask = mask })
      → LeavesRun counted mask at run old.words new.words
