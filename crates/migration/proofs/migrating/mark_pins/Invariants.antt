use Rattle.std.specs.Prelude.{◌≤◌, ◌-◌}
use Rattle.undo_journal.specs.Memory.{current, IsIdle, IsOpen}
use Rattle.undo_journal.specs.Lent.{memory_of}
use Rattle.undo_journal.specs.StoreCalls.{Sets}
use Rattle.migration.specs.MigratingParts.{MarksPins}
use Rattle.migration.proofs.Costs.{AreMarked}
use Rattle.migration.proofs.migrating.mark_pins.Given as goal

abbrev pub invariant-loop-pin : goal.invariant-loop-pin
invariant-loop-pin g l = record {
  within : l.pin ≤ 8;
  ready : IsOpen (memory_of l.txn);
  sets : Sets l.pin l.fn.txn l.txn;
  marks : MarksPins l.pin (current (memory_of l.fn.txn)) (current (memory_of l.txn));
  waits : IsIdle (memory_of l.fn.txn) → AreMarked l.pin (memory_of l.fn.txn) (memory_of l.txn);
}

abbrev pub decreases-loop-pin : goal.decreases-loop-pin
decreases-loop-pin g l = 8 - l.pin
