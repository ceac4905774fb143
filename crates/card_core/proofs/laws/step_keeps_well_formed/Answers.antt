use Rattle.card_core.proofs.FormedSessions.{step_current}
use Rattle.card_core.proofs.FormedSteps.{step_formed}
use Rattle.card_core.proofs.laws.step_keeps_well_formed.Goals as goal

pub returns-clause-card : goal.returns-clause-card
returns-clause-card _ = λ c s command formed current. step_formed c s command formed current

pub returns-clause-files : goal.returns-clause-files
returns-clause-files _ = λ c s command formed current. step_current c s command formed current
