use Rattle.card_sweeps.proofs.StageLemmas.{stage-shown}
use Rattle.card_sweeps.proofs.laws.swept_cards_are_stages.Goals as goal

pub returns : goal.returns
returns c = stage-shown
