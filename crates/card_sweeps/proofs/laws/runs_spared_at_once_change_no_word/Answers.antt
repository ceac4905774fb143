use Rattle.card_sweeps.proofs.SparedLemmas.{command-still, start-still}
use Rattle.card_sweeps.proofs.laws.runs_spared_at_once_change_no_word.Goals as goal

pub returns-clause-start : goal.returns-clause-start
returns-clause-start c = start-still

pub returns-clause-command : goal.returns-clause-command
returns-clause-command c = command-still
