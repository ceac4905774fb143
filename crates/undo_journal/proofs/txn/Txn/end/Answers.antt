use Rattle.std.proofs.Common.{sym, subst}
use Rattle.undo_journal.specs.Commits.{CommitsLast}
use Rattle.undo_journal.specs.Lent.{memory_of}
use Rattle.undo_journal.specs.Memory.{Memory}
use Rattle.undo_journal.proofs.txn.Txn.end.Goals as goal
use Rattle.undo_journal.proofs.txn.Txn.end.Goals.{in-Ok, in-Err}

pub returns-clause-between : goal.returns-clause-between
returns-clause-between g c =
    let from = (memory_of c.args.self).facts in
    elim c.match-work.branch [
      | in-Ok w ↦ subst (λ (m : Memory). CommitsLast from m.facts) (sym w.store-is) w.commit.ensures.between
      | in-Err w ↦ subst (λ (m : Memory). CommitsLast from m.facts) (sym w.store-is) w.abandon.ensures.between
    ]
