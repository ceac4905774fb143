use Rattle.card_sweeps.proofs.SparedLemmas.{spared-command, spared-start}
use Rattle.card_sweeps.proofs.laws.spared_runs_make_fewer_writes.Goals as goal

pub returns-clause-start : goal.returns-clause-start
returns-clause-start c = spared-start

pub returns-clause-command : goal.returns-clause-command
returns-clause-command c = spared-command
