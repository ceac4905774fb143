use Rattle.std.proofs.Common.{take}
use Rattle.card_model.specs.Requests.{AreBytes}
use Rattle.card_calls.proofs.of_bytes.are_bytes.Given as goal

abbrev pub invariant-loop-i : goal.invariant-loop-i
invariant-loop-i l = record { all : AreBytes (take l.i l.given) }
