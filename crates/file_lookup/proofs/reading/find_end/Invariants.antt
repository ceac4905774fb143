use Rattle.undo_journal.specs.Memory.{committed, IsReady}
use Rattle.undo_journal.specs.StoreCalls.{OnlyReads}
use Rattle.file_tree.specs.Table.{table}
use Rattle.file_tree.specs.TableEnd.{IsTableEnd}
use Rattle.file_lookup.proofs.reading.find_end.Given as goal

abbrev pub invariant-loop-end : goal.invariant-loop-end
invariant-loop-end g l = record {
  ready : IsReady l.store;
  reads : OnlyReads l.initial.store l.store;
  at_end : IsTableEnd (table (committed l.initial.store)) l.end;
}

abbrev pub decreases-loop-end : goal.decreases-loop-end
decreases-loop-end g l = l.end
