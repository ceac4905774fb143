use Rattle.undo_journal.specs.laws.Exits.{none_ok}
use Rattle.undo_journal.specs.laws.Told.{reads_handed}
use Rattle.block_links.proofs.words.read_link.Goals as goal

pub returns-in_err-after-clause-page : goal.returns-in_err-after-clause-page
returns-in_err-after-clause-page g c = none_ok _ _ _ c.from_residual.ensures.1

pub returns-in_err-after-clause-store : goal.returns-in_err-after-clause-store
returns-in_err-after-clause-store g c =
    reads_handed _ _ _ _ c.from_residual.ensures.1 c.in_err-after.ensures.store
