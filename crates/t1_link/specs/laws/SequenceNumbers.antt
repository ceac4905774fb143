-- Laws of sequence numbers: two numbers are the same, or one is the other's other.
use Rattle.std.specs.Prelude.{◌≡◌, true, false, refl}
use Rattle.t1_link.specs.declared.sequence_number.SequenceNumber.{SequenceNumber}
use Rattle.t1_link.specs.declared.sequence_number.SequenceNumber.TheVariants.{Zero, One}
use Rattle.t1_link.specs.SequenceNumbers.{other_number, same}

-- a number is the same as itself
pub same-refl : (a : SequenceNumber) → same a a ≡ true
same-refl Zero = refl
same-refl One = refl

-- and is not the same as the other one
pub same-other : (a : SequenceNumber) → same a (other_number a) ≡ false
same-other Zero = refl
same-other One = refl

pub other-same : (a : SequenceNumber) → same (other_number a) a ≡ false
other-same Zero = refl
other-same One = refl

-- the other one of the other one is the number itself
pub other-other : (a : SequenceNumber) → other_number (other_number a) ≡ a
other-other Zero = refl
other-other One = refl
