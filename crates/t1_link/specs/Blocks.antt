-- The blocks of the protocol T=1, and their bytes (ISO/IEC 7816-3, third edition, clause 11).
use Rattle.std.specs.Prelude.{◌+◌, ◌≤◌, ◌==◌, ℕ, Bool, true, false, not, ◌||◌, ◌&&◌, nat_lt, nat_le, if◌then◌else◌}
use Rattle.std.specs.Prelude.{List, [], ◌∷◌, ◌++◌, length, fold, bit_xor}
use Rattle.std.specs.Prelude.{slice_index, slice_range, Option, None, Some, Result, Err}
use Rattle.std.specs.Option.{ok_or, option_map}
use Rattle.t1_link.specs.declared.block.ErrorKind.{ErrorKind}
use Rattle.t1_link.specs.declared.block.ErrorKind.TheVariants.{ErrorFree, RedundancyError, OtherError}
use Rattle.t1_link.specs.declared.block.Fault.{Fault}
use Rattle.t1_link.specs.declared.block.Fault.TheVariants.{WrongLength, WrongCheck, UnknownBlock}
use Rattle.t1_link.specs.declared.sequence_number.SequenceNumber.{SequenceNumber}
use Rattle.t1_link.specs.declared.sequence_number.SequenceNumber.TheVariants.{Zero, One}
use Rattle.t1_link.specs.SequenceNumbers.{at_bit}

-- The contents of a block (11.3.2.2). An I-block has its number N(S), the bit M (more blocks of the chain follow), and
-- its information field. An R-block has the number N(R) of the expected I-block, and the kind of error. S-blocks
-- request RESYNCH or an information field size, or respond to such a request.
pub data Block : Type 0 where
  information : SequenceNumber → Bool → List ℕ → Block
  receive_ready : SequenceNumber → ErrorKind → Block
  resynch_request : Block
  resynch_response : Block
  ifs_request : ℕ → Block
  ifs_response : ℕ → Block

-- the information field of a block
abbrev pub field_of : Block → List ℕ
field_of (information number more field) = field
field_of (receive_ready number error) = []
field_of resynch_request = []
field_of resynch_response = []
field_of (ifs_request size) = size ∷ []
field_of (ifs_response size) = size ∷ []

-- the bits of an R-block's control byte for the kind of error
abbrev pub error_code : ErrorKind → ℕ
error_code ErrorFree = 0
error_code RedundancyError = 1
error_code OtherError = 2

-- the protocol control byte: an I-block has N(S) in bit 7 and M in bit 6, an R-block N(R) in bit 5
abbrev pub control_byte : Block → ℕ
control_byte (information number more field) = at_bit 0x40 number + (if more then 0x20 else 0)
control_byte (receive_ready number error) = 0x80 + at_bit 0x10 number + error_code error
control_byte resynch_request = 0xC0
control_byte resynch_response = 0xE0
control_byte (ifs_request size) = 0xC1
control_byte (ifs_response size) = 0xE1

-- the exclusive-or of all these bytes
abbrev pub exclusive_or : List ℕ → ℕ
exclusive_or bytes = fold bit_xor 0 bytes

-- the prologue (node address, control byte, length byte) and the information field
abbrev pub checked_bytes : Block → List ℕ
checked_bytes b = 0x00 ∷ control_byte b ∷ length (field_of b) ∷ field_of b

-- the bytes of a block (11.3.1): prologue, information field, and the check byte,
-- which makes the exclusive-or of all bytes 00
abbrev pub frame : Block → List ℕ
frame b = checked_bytes b ++ exclusive_or (checked_bytes b) ∷ []

-- a block of a kind without information field
abbrev pub bare : List ℕ → Block → Option Block
bare field b = if length field == 0 then Some b else None

-- the information field size of an S-block: one byte, 01 to FE
abbrev pub size_told : List ℕ → Option ℕ
size_told field =
    if length field == 1 && (nat_le 1 (slice_index field 0) && nat_le (slice_index field 0) 254)
    then Some (slice_index field 0) else None

-- each control byte, and the block it makes of an information field; None: the field doesn't fit the kind
abbrev pub kinds : List ℕ → List (ℕ × Option Block)
kinds field =
    (0x00, Some (information Zero false field))
    ∷ (0x20, Some (information Zero true field))
    ∷ (0x40, Some (information One false field))
    ∷ (0x60, Some (information One true field))
    ∷ (0x80, bare field (receive_ready Zero ErrorFree))
    ∷ (0x81, bare field (receive_ready Zero RedundancyError))
    ∷ (0x82, bare field (receive_ready Zero OtherError))
    ∷ (0x90, bare field (receive_ready One ErrorFree))
    ∷ (0x91, bare field (receive_ready One RedundancyError))
    ∷ (0x92, bare field (receive_ready One OtherError))
    ∷ (0xC0, bare field resynch_request)
    ∷ (0xE0, bare field resynch_response)
    ∷ (0xC1, option_map ifs_request (size_told field))
    ∷ (0xE1, option_map ifs_response (size_told field))
    ∷ []

-- the entry of a table for a control byte; None: no entry
abbrev pub at_byte : ℕ → List (ℕ × Option Block) → Option Block
at_byte byte [] = None
at_byte byte (k ∷ ks) = if byte == k.0 then k.1 else at_byte byte ks

-- the value of the first row whose test is true, else the default value
abbrev pub first_of : {A : Type 0} → List (Bool × A) → A → A
first_of [] otherwise = otherwise
first_of (row ∷ rows) otherwise = if row.0 then row.1 else first_of rows otherwise

-- true if the bytes are fewer than 4, or the length byte is FF, or it isn't the length of the information field
abbrev pub has_wrong_length : List ℕ → Bool
has_wrong_length bytes =
    nat_lt (length bytes) 4 || nat_lt 254 (slice_index bytes 2) || not (length bytes == slice_index bytes 2 + 4)

-- What bytes mean: a block, or the first of three faults. The length is wrong; the exclusive-or isn't 00;
-- or the node address isn't 00, or no kind of block has this control byte and information field.
unfoldable pub heard : List ℕ → Result Block Fault
heard bytes = first_of (
    (has_wrong_length bytes, Err WrongLength)
    ∷ (not (exclusive_or bytes == 0), Err WrongCheck)
    ∷ (not (slice_index bytes 0 == 0), Err UnknownBlock)
    ∷ [])
    (ok_or (at_byte (slice_index bytes 1) (kinds (slice_range bytes 3 (3 + slice_index bytes 2)))) UnknownBlock)

-- a block that can be sent: an information field of at most 254 bytes, or a size of 01 to FE
abbrev pub IsSpellable : Block → Type 0
IsSpellable (information number more field) = length field ≤ 254
IsSpellable (receive_ready number error) = Unit {0}
IsSpellable resynch_request = Unit {0}
IsSpellable resynch_response = Unit {0}
IsSpellable (ifs_request size) = (1 ≤ size) × (size ≤ 254)
IsSpellable (ifs_response size) = (1 ≤ size) × (size ≤ 254)

-- the kind of error that reports a fault to the other end
abbrev pub told_as : Fault → ErrorKind
told_as WrongLength = OtherError
told_as WrongCheck = RedundancyError
told_as UnknownBlock = OtherError
