use Rattle.std.proofs.Common.{rules}
use Rattle.apdu_core.proofs.form.CommandBody.with_data.Goals as goal

pub returns-then-rest-sent_length-2 : goal.returns-then-rest-sent_length-2
returns-then-rest-sent_length-2 c = record { form = search rules; short = search rules; refusal = tt }
