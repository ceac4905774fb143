use Rattle.std.proofs.Common.{rules}
use Rattle.apdu_core.proofs.pins.Replacement.of.Goals as goal

pub returns : goal.returns
returns c = record { known = search rules; named = search rules }
