-- The runs of words that a log programs.
use Rattle.std.specs.Prelude.{◌≡◌, ◌⊎◌, ◌<◌, ◌+◌, ℕ}
use Rattle.flash_device.specs.declared.flash.TheConstants.{BLOCKS}
use Rattle.flash_device.specs.declared.layout.TheConstants.{RECORD_WORDS}
use Rattle.flash_device.specs.FlashLogs.{base_in, close_of, slot_of}

-- A record begins at the address: that of a slot of area A or of area B.
pub record IsSlotPlace (slots at : ℕ) : Type 0 where
  pub area : ℕ
  pub slot : ℕ
  pub below : slot < slots
  pub is : at ≡ slot_of (base_in slots area) slot

-- A commit mark begins at the address, behind the record of a slot.
pub record IsCommitPlace (slots at : ℕ) : Type 0 where
  pub area : ℕ
  pub slot : ℕ
  pub below : slot < slots
  pub is : at ≡ slot_of (base_in slots area) slot + RECORD_WORDS

-- A close mark begins at the address.
pub record IsClosePlace (slots at : ℕ) : Type 0 where
  pub block : ℕ
  pub small : block < BLOCKS
  pub is : at ≡ close_of slots block

-- The run is a whole record, a commit mark, or a close mark.
pub record IsProgramRun (slots at size : ℕ) : Type 0 where
  pub is : ((size ≡ RECORD_WORDS) × IsSlotPlace slots at)
      ⊎ ((size ≡ 2) × (IsCommitPlace slots at ⊎ IsClosePlace slots at))
