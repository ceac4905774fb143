use Rattle.std.proofs.Common.{◌≡◌, ◌<◌, ◌+◌, length, take}
use Rattle.nvm_board.specs.History.{written}
use Rattle.undo_journal.specs.Memory.{current, IsOpen, Waits}
use Rattle.undo_journal.specs.Batches.{joined_run}
use Rattle.undo_journal.specs.declared.batch.TheConstants.{BATCH}
use Rattle.undo_journal.specs.StoreCalls.{Sets}
use Rattle.undo_journal.specs.Lent.{memory_of}
use Rattle.undo_journal.proofs.SetRuns.{AreSetSoFar}
use Rattle.undo_journal.proofs.txn.Txn.set_run.Given as goal

abbrev pub invariant-loop-i : goal.invariant-loop-i
invariant-loop-i g l = let first = memory_of l.initial.self in let now = memory_of l.self in record {
  usable : IsOpen now;
  done : current now ≡ written (current first) l.at (take l.i l.words);
  sets : Sets l.i l.initial.self l.self;
  runs : AreSetSoFar l.at l.i first now;
  waits : length first.waiting + l.i < BATCH → Waits (joined_run l.at (take l.i l.words) first.waiting) first now;
}
