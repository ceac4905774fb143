-- What contracts know of a flash, and what its calls promise.
use Rattle.std.specs.Prelude.{◌≡◌, ◌⊎◌, ◌<◌, ◌≤◌, ◌+◌, ◌*◌, ℕ, Bool, true, false, List, length, slice_index}
use Rattle.std.specs.Prelude.{Result, IsOk, IsErrOf}
use Rattle.nvm_board.specs.declared.board.DeviceErr.{DeviceErr}
use Rattle.nvm_board.specs.declared.board.DeviceErr.TheVariants.{PowerLost, Fault}

-- All that contracts know of a flash: its words, whether it has no power, how many power losses may still come, how
-- often it has failed, how many programs and erases were begun, how many of these were erases, and whether what
-- follows it has them all, which is so where nothing follows it.
pub record FlashState : Type 0 where
  pub words : List ℕ
  pub dark : Bool
  pub due : ℕ
  pub faults : ℕ
  pub operations : ℕ
  pub erases : ℕ
  pub kept : Bool

-- The flash has power as before, and didn't fail.
pub record StaysLit (old new : FlashState) : Type 0 where
  pub lit : new.dark ≡ false
  pub due : new.due ≡ old.due
  pub faults : new.faults ≡ old.faults

-- The flash has power as before, and failed.
pub record HasFailed (old new : FlashState) : Type 0 where
  pub lit : new.dark ≡ false
  pub due : new.due ≡ old.due
  pub faults : new.faults ≡ old.faults + 1

-- The flash loses power, as was due.
pub record GoesOut (old new : FlashState) : Type 0 where
  pub dark : new.dark ≡ true
  pub due : old.due ≡ new.due + 1
  pub faults : new.faults ≡ old.faults

-- The effect of one call on power and faults. The flash has power before it.
pub record Lights {T : Type 0} (old new : FlashState) (result : Result T DeviceErr) : Type 0 where
  pub ok : IsOk result → StaysLit old new
  pub lost : IsErrOf result PowerLost → GoesOut old new
  pub fault : IsErrOf result Fault → HasFailed old new

-- Several calls in a row, some of which may fail: the flash has power as before.
pub record KeepsPower (old new : FlashState) : Type 0 where
  pub lit : new.dark ≡ false
  pub due : new.due ≡ old.due
  pub faults : old.faults ≤ new.faults

-- Several calls in a row: the flash loses power, as was due.
pub record LosesPower (old new : FlashState) : Type 0 where
  pub dark : new.dark ≡ true
  pub due : old.due ≡ new.due + 1
  pub faults : old.faults ≤ new.faults

-- The effect of several calls on power and faults. A Fault is returned only after so many faults of the flash.
pub record Tries {T : Type 0} (least : ℕ) (old new : FlashState) (result : Result T DeviceErr) : Type 0 where
  pub ok : IsOk result → KeepsPower old new
  pub lost : IsErrOf result PowerLost → LosesPower old new
  pub fault : IsErrOf result Fault → KeepsPower old new × (old.faults + least ≤ new.faults)

-- At most so many programs and erases are begun, and so many more for each fault of the flash.
pub record Costs (most more : ℕ) (old new : FlashState) : Type 0 where
  pub operations : new.operations + more * old.faults ≤ old.operations + most + more * new.faults

-- All words but those of a run are the same. Those of the run may be anything.
pub record SameElsewhere (m : List ℕ) (at size : ℕ) (after : List ℕ) : Type 0 where
  pub same : (k : ℕ) → (k < at) ⊎ (at + size ≤ k) → slice_index after k ≡ slice_index m k

-- The run is there.
pub record IsThere (m : List ℕ) (at : ℕ) (run : List ℕ) : Type 0 where
  pub each : (k : ℕ) → k < length run → slice_index m (at + k) ≡ slice_index run k

-- The words from an address on are all this one.
pub record AreFilled (m : List ℕ) (at size word : ℕ) : Type 0 where
  pub each : (k : ℕ) → k < size → slice_index m (at + k) ≡ word
