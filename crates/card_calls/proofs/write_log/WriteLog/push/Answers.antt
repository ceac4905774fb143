use Rattle.std.proofs.Common.{refl}
use Rattle.card_calls.proofs.LogLaws.{log_pushed}
use Rattle.card_calls.proofs.write_log.WriteLog.push.Goals as goal

pub returns : goal.returns
returns c = log_pushed c.args.self.now c.args.write _ refl _ c.push_back.ensures.items
