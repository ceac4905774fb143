use Rattle.std.proofs.Common.{rules}
use Rattle.card_model.proofs.access_mode.AccessMode.set_down_to.Goals as goal

pub returns : goal.returns
returns c = search rules
