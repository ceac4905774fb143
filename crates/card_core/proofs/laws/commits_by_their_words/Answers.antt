use Rattle.card_model.specs.laws.WordLaws.{served-split}
use Rattle.card_core.proofs.laws.commits_by_their_words.Goals as goal

pub returns : goal.returns
returns _ = served-split
