use Rattle.std.proofs.Common.{◌-◌}
use Rattle.undo_journal.specs.StoreCalls.{OnlyReads}
use Rattle.undo_journal.specs.Memory.{committed, IsReady}
use Rattle.command_base.proofs.Disabled.{TellsMarks, next_index}
use Rattle.command_base.proofs.access.disabled_pins.Given as goal

abbrev pub invariant-loop-next : goal.invariant-loop-next
invariant-loop-next g l =
    let first = l.initial.store in
    let now = l.store in record {
      ready : IsReady now;
      reads : OnlyReads first now;
      so_far : TellsMarks (committed first) (next_index l.next) l.disabled;
    }

abbrev pub decreases-loop-next : goal.decreases-loop-next
decreases-loop-next g l = 8 - next_index l.next
