use Rattle.undo_journal.specs.Memory.{current, IsOpen}
use Rattle.undo_journal.specs.Lent.{memory_of}
use Rattle.undo_journal.specs.StoreCalls.{Sets}
use Rattle.std.proofs.Common.{List}
use Rattle.file_tree.specs.declared.entry.Entry.{Entry}
use Rattle.file_changes.specs.DeletionParts.{FreesUpTo, GoesWith}
use Rattle.file_changes.proofs.deleting.free_part.Given as goal

abbrev pub invariant-loop-number : goal.invariant-loop-number
invariant-loop-number g l = record {
  ready : IsOpen (memory_of l.txn);
  sets : Sets l.number l.fn.txn l.txn;
  so_far : (part : List Entry) → GoesWith l.marks part
      → FreesUpTo (current (memory_of l.fn.txn)) part l.number (current (memory_of l.txn));
}
