use Rattle.std.proofs.Common.{arith, refl}
use Rattle.undo_journal.specs.laws.Calls.{reads_same, reads_sets, sets_then}
use Rattle.undo_journal.specs.laws.Told.{idle_waits, sets_in_on, sets_in_handed}
use Rattle.migration.proofs.Sets.{marks_more}
use Rattle.std.specs.Prelude.{◌<◌}
use Rattle.undo_journal.specs.Lent.{memory_of}
use Rattle.migration.proofs.Costs.{marked_more, marks_spend}
use Rattle.migration.proofs.migrating.mark_pins.Goals as goal

pub returns-in_err-set-clause-store : goal.returns-in_err-set-clause-store
returns-in_err-set-clause-store g c =
    sets_in_handed _ _ _ _ _ c.from_residual.ensures.1
    (sets_in_on _ 1 8 _ _ _ _ (omega (arith, c.loop-pin-test.true)) c.loop-pin.invariant.sets
    c.in_err-set.ensures.store)

pub loop-pin-preserved : goal.loop-pin-preserved
loop-pin-preserved g c =
    let so_far = c.loop-pin.invariant in
    let lt : c.loop-pin.pin < 8 = omega (arith, c.loop-pin-test.true) in
    let set = c.in_ok-set.ensures in
    record {
      within = omega (arith, lt);
      ready = set.store.ready;
      sets = sets_then c.loop-pin.pin 1 _ _ _ _ (omega arith) so_far.sets set.store.sets;
      marks = marks_more _ _ _ c.loop-pin.pin _ c.requires.ready.current_size lt refl so_far.marks set.done;
      waits = λ idle. marked_more c.loop-pin.pin _ (memory_of c.args.txn.now) (memory_of c.loop-pin.txn) _ lt refl
          (so_far.waits idle) set.joins;
    }

pub returns-in_err-set-clause-spends : goal.returns-in_err-set-clause-spends
returns-in_err-set-clause-spends g c = λ idle.
    marks_spend c.loop-pin.pin _ (memory_of c.args.txn.now) (memory_of c.loop-pin.txn)
    (memory_of c.set.new.self) (omega (arith, c.loop-pin-test.true)) refl (c.loop-pin.invariant.waits idle)
    c.in_err-set.ensures.spends

pub returns-clause-fills : goal.returns-clause-fills
returns-clause-fills g c = λ idle.
    (c.loop-pin.invariant.waits idle).full (omega (arith, c.loop-pin.invariant.within, c.loop-pin-test.false))

pub returns-clause-spends : goal.returns-clause-spends
returns-clause-spends g c = λ idle.
    let fills =
    (c.loop-pin.invariant.waits idle).full (omega (arith, c.loop-pin.invariant.within, c.loop-pin-test.false)) in
    omega (arith, fills.writes)

pub loop-pin-init : goal.loop-pin-init
loop-pin-init g c = record {
  within = omega arith;
  ready = c.requires.ready;
  sets = reads_sets _ _ _ (record { same_store = refl; reads = reads_same _ });
  marks = record { size = refl; marked = λ pin lt. absurd (omega (arith, lt)); others = λ page place lt apart. refl };
  waits = λ idle. record {
    waits = λ less. (idle_waits (memory_of c.args.txn.now) idle, omega (arith, idle), refl);
    full = λ eight. absurd (omega (arith, eight));
  };
}
