use Rattle.std.proofs.Common.{ap, arith, refl}
use Rattle.card_files.specs.CommandLines.{pages_number}
use Rattle.card_files.proofs.reading.check_size.Goals as goal

pub returns-in-Some-clause-refused : goal.returns-in-Some-clause-refused
returns-in-Some-clause-refused c = (
  record { whole = omega arith; least = omega arith; most = omega arith },
  refl,
  λ asked.
      let same = asked c.in-Some.wanted.number (ap pages_number c.in-Some.is) in
      absurd (omega (arith, same)),
)
