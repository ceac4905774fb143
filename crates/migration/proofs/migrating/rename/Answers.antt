use Rattle.std.proofs.Common.{arith}
use Rattle.std.proofs.lemmas.Result.{on_ok_weaker}
use Rattle.undo_journal.specs.Memory.{current}
use Rattle.undo_journal.specs.Lent.{memory_of}
use Rattle.undo_journal.specs.laws.Told.{sets_in_on, sets_in_within, sets_in_handed}
use Rattle.migration.proofs.Sets.{both_renamed}
use Rattle.migration.proofs.migrating.rename.Goals as goal

pub returns-in_err-mark_pins-clause-store : goal.returns-in_err-mark_pins-clause-store
returns-in_err-mark_pins-clause-store g c =
    sets_in_handed _ _ _ _ _ c.from_residual.ensures.1
    (sets_in_within 8 11 _ _ _ (omega arith) c.in_err-mark_pins.ensures.store)

pub returns-clause-store : goal.returns-clause-store
returns-clause-store g c =
    sets_in_on 8 3 11 _ _ _ _ (omega arith) c.mark_pins.ensures.store.sets c.rename_header.ensures.store

pub returns-clause-done : goal.returns-clause-done
returns-clause-done g c =
    on_ok_weaker c.rename_header.result
    (λ header. both_renamed c.args.end (current (memory_of c.args.txn.now)) (current (memory_of c.mark_pins.new.txn)) _
    c.in_ok-mark_pins.ensures.done header) c.rename_header.ensures.done

pub mark_pins-requires : goal.mark_pins-requires
mark_pins-requires g c = record {
  ready = c.requires.ready;
  enough = omega (arith, c.requires.enough);
}

pub rename_header-requires : goal.rename_header-requires
rename_header-requires g c = record {
  ready = c.in_ok-mark_pins.ensures.store.ready;
  enough = let left = c.mark_pins.ensures.store.sets.room in omega (arith, left, c.requires.enough);
}
