-- The access mode byte of a rule in compact format (ISO/IEC 7816-4, 9.3.3.1).
use Rattle.std.specs.Prelude.{ℕ, ◌-◌, ◌/◌, ◌^◌, Bool, ◌==◌, count_ones}
use Rattle.std.specs.Int.{bit_at}
use Rattle.card_model.specs.declared.access_mode.AccessMode.{AccessMode}
use Rattle.card_model.specs.declared.access_mode.AccessBit.{AccessBit}
use Rattle.card_model.specs.declared.access_mode.AccessBit.TheVariants.{DeleteSelf, Terminate, Activate, Deactivate}
use Rattle.card_model.specs.declared.access_mode.AccessBit.TheVariants.{CreateDf, Append, CreateEf, Update, DeleteChild}
use Rattle.card_model.specs.declared.access_mode.AccessBit.TheVariants.{Read}

-- the byte of an access mode
abbrev pub mode_byte : AccessMode → ℕ
mode_byte mode = mode.0

-- the number of the bit that controls an operation; bit 1 is the least significant
abbrev pub bit_number : AccessBit → ℕ
bit_number DeleteSelf = 7
bit_number Terminate = 6
bit_number Activate = 5
bit_number Deactivate = 4
bit_number CreateDf = 3
bit_number Append = 3
bit_number CreateEf = 2
bit_number Update = 2
bit_number DeleteChild = 1
bit_number Read = 1

-- the access mode byte in which only this bit is set
abbrev pub flag_of : AccessBit → ℕ
flag_of bit = 2 ^ (bit_number bit - 1)

-- true if the bit is set in an access mode byte
abbrev pub is_set : ℕ → AccessBit → Bool
is_set mode bit = bit_at mode (bit_number bit - 1) == 1

-- the number of set bits from the highest down to this one, inclusive
abbrev pub set_down_to : ℕ → AccessBit → ℕ
set_down_to mode bit = count_ones (mode / 2 ^ (bit_number bit - 1))
