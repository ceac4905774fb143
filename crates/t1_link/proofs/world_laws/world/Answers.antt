use Rattle.t1_link.specs.TreeMachine.{tree_machine, IsProperState}
use Rattle.t1_link.proofs.TreeAnswers.{tree-answers}
use Rattle.t1_link.proofs.WorldLawful.{world-lawful, world-repairs, world-resynchs}
use Rattle.t1_link.proofs.world_laws.world.Goals as goal

pub returns-clause-law : goal.returns-clause-law
returns-clause-law c = world-lawful tree_machine IsProperState tree-answers

pub returns-clause-resynch : goal.returns-clause-resynch
returns-clause-resynch c = world-resynchs tree_machine IsProperState tree-answers

pub returns-clause-repair : goal.returns-clause-repair
returns-clause-repair c = world-repairs tree_machine IsProperState tree-answers
