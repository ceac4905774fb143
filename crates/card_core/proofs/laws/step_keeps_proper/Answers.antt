use Rattle.card_model.specs.laws.AnswerLaws.{step_keeps_proper}
use Rattle.card_core.proofs.laws.step_keeps_proper.Goals as goal

pub returns : goal.returns
returns _ = λ c s command proper bytes. step_keeps_proper c s command proper bytes
