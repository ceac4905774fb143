use Rattle.undo_journal.specs.laws.Exits.{none_ok}
use Rattle.undo_journal.specs.laws.Told.{reads_in_handed}
use Rattle.block_links.proofs.words.next.Goals as goal

pub returns-in_err-following-clause-page : goal.returns-in_err-following-clause-page
returns-in_err-following-clause-page g c = none_ok _ _ _ c.from_residual.ensures.1

pub returns-in_err-following-clause-store : goal.returns-in_err-following-clause-store
returns-in_err-following-clause-store g c =
    reads_in_handed _ _ _ _ c.from_residual.ensures.1 c.in_err-following.ensures.store
