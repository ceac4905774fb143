use Rattle.std.proofs.Common.{rules}
use Rattle.card_model.proofs.pins.PinSet.new.Goals as goal

pub returns : goal.returns
returns c = search rules
