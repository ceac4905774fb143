use Rattle.t1_link.specs.laws.Blocks.{frame-heard}
use Rattle.t1_link.proofs.laws.block_spelled_so.Goals as goal

pub returns-clause-spelled : goal.returns-clause-spelled
returns-clause-spelled c bytes b e = (frame-heard bytes b e).0

pub returns-clause-spellable : goal.returns-clause-spellable
returns-clause-spellable c bytes b e = (frame-heard bytes b e).1
