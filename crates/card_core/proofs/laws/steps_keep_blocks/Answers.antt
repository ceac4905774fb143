use Rattle.card_model.specs.laws.BlockLaws.{stages_keep_blocks, step_keeps_blocks}
use Rattle.card_core.proofs.laws.steps_keep_blocks.Goals as goal

pub returns-clause-step : goal.returns-clause-step
returns-clause-step _ = λ c s command. step_keeps_blocks c s command

pub returns-clause-stages : goal.returns-clause-stages
returns-clause-stages _ = λ c s command d there. stages_keep_blocks c s command d there
