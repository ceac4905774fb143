use Rattle.bench_lines.proofs.Spelled.{spelled-lower, spelled-upper}
use Rattle.bench_lines.proofs.laws.spellings_are_read_back.Goals as goal

pub returns-clause-upper : goal.returns-clause-upper
returns-clause-upper c = spelled-upper

pub returns-clause-lower : goal.returns-clause-lower
returns-clause-lower c = spelled-lower
