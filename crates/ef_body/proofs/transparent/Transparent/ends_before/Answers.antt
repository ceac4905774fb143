use Rattle.std.proofs.Common.{rules}
use Rattle.ef_body.proofs.transparent.Transparent.ends_before.Goals as goal

pub returns : goal.returns
returns c = search rules
