use Rattle.std.proofs.Common.{IsTrue}
use Rattle.t1_link.proofs.WorldLawful.{world-lawful, world-repairs, world-resynchs}
use Rattle.t1_link.proofs.world_laws.world_of_any_machine.Goals as goal

pub returns-clause-law : goal.returns-clause-law
returns-clause-law g c = λ machine holds fits. world-lawful machine (λ m. IsTrue (holds m)) fits

pub returns-clause-resynch : goal.returns-clause-resynch
returns-clause-resynch g c = λ machine holds fits. world-resynchs machine (λ m. IsTrue (holds m)) fits

pub returns-clause-repair : goal.returns-clause-repair
returns-clause-repair g c = λ machine holds fits. world-repairs machine (λ m. IsTrue (holds m)) fits
