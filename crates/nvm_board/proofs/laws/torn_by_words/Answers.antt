use Rattle.nvm_board.specs.laws.Torn.{IsMixture-Torn, Torn-IsMixture}
use Rattle.nvm_board.proofs.laws.torn_by_words.Goals as goal

pub returns : goal.returns
returns c = λ m run after at fits. (IsMixture-Torn m run after at fits, Torn-IsMixture m run after at fits)
