use Rattle.ef_body.proofs.Adding.{IsAdded}
use Rattle.ef_body.proofs.number.add_number.Given as goal

abbrev pub invariant-loop-i : goal.invariant-loop-i
invariant-loop-i g l = IsAdded l.initial.number.items l.sent l.number.items l.i l.carry
