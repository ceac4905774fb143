-- Sequence numbers of I-blocks, counted modulo 2 (ISO/IEC 7816-3, 11.3.2.2).
use Rattle.std.specs.Prelude.{ℕ, Bool, true, false}
use Rattle.t1_link.specs.declared.sequence_number.SequenceNumber.{SequenceNumber}
use Rattle.t1_link.specs.declared.sequence_number.SequenceNumber.TheVariants.{Zero, One}

-- the other number, both the next and the previous one
abbrev pub other_number : SequenceNumber → SequenceNumber
other_number Zero = One
other_number One = Zero

-- true if two numbers are the same
abbrev pub same : SequenceNumber → SequenceNumber → Bool
same Zero Zero = true
same Zero One = false
same One Zero = false
same One One = true

-- the value of a number within a control byte, where `bit` is the number's bit
abbrev pub at_bit : ℕ → SequenceNumber → ℕ
at_bit bit Zero = 0
at_bit bit One = bit
