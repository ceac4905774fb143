use Rattle.std.proofs.Common.{ap, sym}
use Rattle.t1_link.specs.SequenceNumbers.{other_number}
use Rattle.t1_link.proofs.sequence_number.SequenceNumber.other.Goals as goal

pub returns-in-Zero : goal.returns-in-Zero
returns-in-Zero c = sym (ap other_number c.in-Zero.is)

pub returns-in-One : goal.returns-in-One
returns-in-One c = sym (ap other_number c.in-One.is)
