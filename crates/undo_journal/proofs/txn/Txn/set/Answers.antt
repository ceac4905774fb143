use Rattle.std.proofs.Common.{refl}
use Rattle.undo_journal.specs.Memory.{IsOpen}
use Rattle.undo_journal.proofs.Noted.{unless_failed}
use Rattle.undo_journal.proofs.txn.Txn.set.Goals as goal

pub returns-clause-done : goal.returns-clause-done
returns-clause-done g c = c.set.ensures.done

pub returns-clause-goes_on : goal.returns-clause-goes_on
returns-clause-goes_on g c = c.set.ensures.goes_on

pub returns-clause-next : goal.returns-clause-next
returns-clause-next g c = c.set.ensures.next

pub returns-clause-spends : goal.returns-clause-spends
returns-clause-spends g c = c.set.ensures.spends

pub returns-clause-joins : goal.returns-clause-joins
returns-clause-joins g c = c.set.ensures.joins

pub returns-clause-dark : goal.returns-clause-dark
returns-clause-dark g c = c.set.ensures.dark

pub set-requires-clause-room : goal.set-requires-clause-room
set-requires-clause-room g c = c.requires.room

pub set-requires-clause-place : goal.set-requires-clause-place
set-requires-clause-place g c = c.requires.place

pub returns-clause-store : goal.returns-clause-store
returns-clause-store g c =
    let set = c.set.ensures in
    record {
      sets = record {
        same_store = refl;
        kept = set.kept;
        room = set.room;
        taken = set.taken;
        reports = set.reports;
        writes = set.runs;
        rises = set.rises;
        between = set.between;
      };
      ready = unless_failed (IsOpen c.set.new.self) c.set.result set.ready;
      tells = set.tells;
    }
