use Rattle.undo_journal.specs.laws.Exits.{none_ok}
use Rattle.undo_journal.specs.laws.Told.{reads_handed}
use Rattle.block_links.proofs.words.read_head.Goals as goal

pub returns-in_err-head-clause-page : goal.returns-in_err-head-clause-page
returns-in_err-head-clause-page g c = none_ok _ _ _ c.from_residual.ensures.1

pub returns-in_err-head-clause-store : goal.returns-in_err-head-clause-store
returns-in_err-head-clause-store g c =
    reads_handed _ _ _ _ c.from_residual.ensures.1 c.in_err-head.ensures.store
