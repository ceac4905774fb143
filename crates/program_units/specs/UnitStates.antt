-- What contracts know of a device with program units.
use Rattle.std.specs.Prelude.{◌≡◌, ◌⊎◌, ℕ, List}
use Rattle.flash_device.specs.FlashCalls.{AreFilled, FlashState}

-- The flash that the device is, and for each word how many programs of its unit returned Ok since an erase of its
-- sector was begun.
pub record UnitState : Type 0 where
  pub flash : FlashState
  pub programs : List ℕ

-- Once the erase of these words is begun, no program of them counts any more. One that isn't begun changes nothing.
pub record CountsErase (old new : UnitState) (at size : ℕ) : Type 0 where
  pub is : AreFilled new.programs at size 0
      ⊎ ((new.flash.words ≡ old.flash.words) × (new.programs ≡ old.programs))
