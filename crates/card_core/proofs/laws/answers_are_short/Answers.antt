use Rattle.card_model.specs.laws.AnswerLaws.{answers_are_short}
use Rattle.card_core.proofs.laws.answers_are_short.Goals as goal

pub returns : goal.returns
returns _ = λ c s command proper bytes. answers_are_short c s command proper bytes
