use Rattle.std.proofs.Common.{arith}
use Rattle.undo_journal.specs.Memory.{current}
use Rattle.undo_journal.specs.Lent.{memory_of}
use Rattle.undo_journal.specs.laws.Exits.{on_then, none_ok}
use Rattle.undo_journal.specs.laws.Told.{sets_in_on, sets_in_within, sets_in_handed}
use Rattle.file_changes.proofs.deleting.take_away.Goals as goal

pub returns-in_err-free_part-clause-done : goal.returns-in_err-free_part-clause-done
returns-in_err-free_part-clause-done g c = none_ok _ _ _ c.from_residual.ensures.1

pub returns-in_err-free_part-clause-store : goal.returns-in_err-free_part-clause-store
returns-in_err-free_part-clause-store g c =
    sets_in_handed _ _ _ _ _ c.from_residual.ensures.1
    (sets_in_within _ _ _ _ _ (omega arith) c.in_err-free_part.ensures.store)

pub give_back-requires-clause-free : goal.give_back-requires-clause-free
give_back-requires-clause-free g c =
    let apart = c.requires.apart in (apart.2 _ (c.in_ok-free_part.ensures.done apart.0 apart.1)).0

pub give_back-requires-clause-apart : goal.give_back-requires-clause-apart
give_back-requires-clause-apart g c =
    let apart = c.requires.apart in (apart.2 _ (c.in_ok-free_part.ensures.done apart.0 apart.1)).1

pub returns-clause-done : goal.returns-clause-done
returns-clause-done g c =
    on_then _ _ c.give_back.result
    (λ given part told. record {
      between = current (memory_of c.free_part.new.txn);
      freed = c.in_ok-free_part.ensures.done part told;
      given = given;
    })
    c.give_back.ensures.done

pub returns-clause-store : goal.returns-clause-store
returns-clause-store g c =
    sets_in_on _ _ _ _ _ _ _ (omega arith) c.free_part.ensures.store.sets c.give_back.ensures.store

pub free_part-requires : goal.free_part-requires
free_part-requires g c = record {
  room = record {
    ready = c.requires.room.ready;
    enough = let room = c.requires.room.enough in omega (arith, room);
  };
}

pub give_back-requires-clause-room : goal.give_back-requires-clause-room
give_back-requires-clause-room g c = record {
  ready = c.in_ok-free_part.ensures.store.ready;
  enough = let room = c.requires.room.enough in
      let left = c.free_part.ensures.store.sets.room in
      omega (arith, room, left);
}
