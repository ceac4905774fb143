-- What contracts know of a device with spare sectors.
use Rattle.std.specs.Prelude.{◌≡◌, ◌⊎◌, ◌%◌, ℕ, List, Option, Some, Result, IsOk, IsErrOf}
use Rattle.nvm_board.specs.declared.board.DeviceErr.{DeviceErr}
use Rattle.nvm_board.specs.declared.board.DeviceErr.TheVariants.{PowerLost, Fault}
use Rattle.flash_device.specs.FlashCalls.{FlashState}
use Rattle.spare_sectors.specs.declared.map_device.SparePart.{SparePart}

-- The flash that the device is, with the words of all its sectors; for each word how many programs of its unit returned
-- Ok since an erase of its sector was begun, if the device programs whole units; the words of the map; how many entries
-- of the map were begun, which is one more than the last one that a program was begun in; and which part failed last.
pub record SpareState : Type 0 where
  pub flash : FlashState
  pub programs : List ℕ
  pub map : List ℕ
  pub begun : ℕ
  pub failed : Option SparePart

-- A run of the map that is programmed: the number of an entry alone, or its mark alone.
pub record IsEntryRun (at size : ℕ) : Type 0 where
  pub is : ((at % 20 ≡ 16) × (size ≡ 1)) ⊎ ((at % 20 ≡ 18) × (size ≡ 2))

-- A call of a part is that which failed last, if it returns a Fault. Any other leaves the one that was.
pub record Blames {T : Type 0} (part : SparePart) (old new : SpareState) (result : Result T DeviceErr) : Type 0 where
  pub ok : IsOk result → new.failed ≡ old.failed
  pub lost : IsErrOf result PowerLost → new.failed ≡ old.failed
  pub fault : IsErrOf result Fault → new.failed ≡ Some part
