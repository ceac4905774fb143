use Rattle.std.proofs.Common.{rules}
use Rattle.card_model.proofs.access_mode.AccessBit.number.Goals as goal

pub returns-in-CreateEf : goal.returns-in-CreateEf
returns-in-CreateEf c = search rules
