use Rattle.std.proofs.Common.{arith, inl, inr, lit<}
use Rattle.undo_journal.specs.Lent.{memory_of}
use Rattle.undo_journal.specs.Memory.{current}
use Rattle.undo_journal.specs.laws.Calls.{runs_then, runs_weaker}
use Rattle.undo_journal.specs.laws.Exits.{none_ok, on_then}
use Rattle.undo_journal.specs.laws.Told.{sets_in_handed, sets_in_on, sets_in_within}
use Rattle.file_changes.proofs.creating.add_file.Goals as goal

pub returns-then-blocks-eq0-clause-done : goal.returns-then-blocks-eq0-clause-done
returns-then-blocks-eq0-clause-done g c =
    on_then _ _ c.write_entry.result (λ written. inl (c.if-blocks-eq0.true, written)) c.write_entry.ensures.done

pub returns-then-blocks-eq0-clause-store : goal.returns-then-blocks-eq0-clause-store
returns-then-blocks-eq0-clause-store g c = sets_in_within 11 13 _ _ _ (lit< tt) c.write_entry.ensures.store

pub returns-in_err-take-clause-done : goal.returns-in_err-take-clause-done
returns-in_err-take-clause-done g c = none_ok _ _ _ c.from_residual.ensures.1

pub returns-in_err-take-clause-store : goal.returns-in_err-take-clause-store
returns-in_err-take-clause-store g c =
    sets_in_handed 13 _ _ _ _ c.from_residual.ensures.1
    (sets_in_within 2 13 _ _ _ (lit< tt) c.in_err-take.ensures.store)

pub returns-clause-done : goal.returns-clause-done
returns-clause-done g c =
    on_then _ _ c.write_entry-2.result
    (λ written. inr (record {
      between = current (memory_of c.take.new.txn);
      chain = c.args.run.chain;
      some = omega (arith, c.if-blocks-eq0.false);
      takes = c.in_ok-take.ensures.done;
      writes = written;
    }))
    c.write_entry-2.ensures.done

pub returns-clause-store : goal.returns-clause-store
returns-clause-store g c =
    sets_in_on 2 11 13 _ _ _ _ (lit< tt) c.take.ensures.store.sets c.write_entry-2.ensures.store

pub returns-then-blocks-eq0-clause-runs : goal.returns-then-blocks-eq0-clause-runs
returns-then-blocks-eq0-clause-runs g c = runs_weaker 1 3 _ _ (lit< tt) c.write_entry.ensures.runs

pub returns-in_err-take-clause-runs : goal.returns-in_err-take-clause-runs
returns-in_err-take-clause-runs g c = runs_weaker 2 3 _ _ (lit< tt) c.in_err-take.ensures.store.sets.writes

pub returns-clause-runs : goal.returns-clause-runs
returns-clause-runs g c =
    runs_then 2 1 3 _ _ _ (lit< tt) c.take.ensures.store.sets.writes c.write_entry-2.ensures.runs

pub write_entry-requires-clause-entry : goal.write_entry-requires-clause-entry
write_entry-requires-clause-entry g c = record {
  within = c.requires.entry.within;
  used = c.requires.entry.used;
}

pub write_entry-requires-clause-room : goal.write_entry-requires-clause-room
write_entry-requires-clause-room g c = record {
  ready = c.requires.room.ready;
  enough = omega (arith, c.requires.room.enough);
}

pub write_entry-requires-2-clause-entry : goal.write_entry-requires-2-clause-entry
write_entry-requires-2-clause-entry g c = record {
  within = c.requires.entry.within;
  used = c.requires.entry.used;
}

pub write_entry-requires-2-clause-room : goal.write_entry-requires-2-clause-room
write_entry-requires-2-clause-room g c = record {
  ready = c.in_ok-take.ensures.store.ready;
  enough = omega (arith, c.requires.room.enough, c.take.ensures.store.sets.room);
}

pub take-requires-clause-room : goal.take-requires-clause-room
take-requires-clause-room g c = record {
  ready = c.requires.room.ready;
  enough = omega (arith, c.requires.room.enough);
}

pub take-requires-clause-blocks : goal.take-requires-clause-blocks
take-requires-clause-blocks g c = record {
  free = c.requires.blocks.free;
  some = omega (arith, c.if-blocks-eq0.false);
  enough = c.requires.blocks.enough;
  first = c.requires.blocks.first (omega (arith, c.if-blocks-eq0.false));
}
