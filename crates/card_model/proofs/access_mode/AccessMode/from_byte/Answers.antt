use Rattle.bitflags.proofs.OnLiterals.{bitflags_on_literals}
use Rattle.card_model.proofs.BitFacts.{from_known}
use Rattle.card_model.proofs.access_mode.AccessMode.from_byte.Goals as goal

pub returns : goal.returns
unfolding bitflags_on_literals
returns c = from_known c.from_bits.result c.args.byte (c.from_bits.ensures.value tt) (c.from_bits.ensures.known tt)
