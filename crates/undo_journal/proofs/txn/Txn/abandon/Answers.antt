use Rattle.undo_journal.proofs.txn.Txn.abandon.Goals as goal

pub returns-clause-kept : goal.returns-clause-kept
returns-clause-kept g c = search

pub returns-clause-done : goal.returns-clause-done
returns-clause-done g c = c.abandon.ensures.done

pub returns-clause-store : goal.returns-clause-store
returns-clause-store g c = c.abandon.ensures.store
