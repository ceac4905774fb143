use Rattle.std.proofs.Common.{◌<◌, ◌≤◌, ℕ}
use Rattle.undo_journal.specs.Memory.{committed, IsReady}
use Rattle.undo_journal.specs.StoreCalls.{OnlyReads}
use Rattle.pin_store.specs.Pages.{pin_word}
use Rattle.pin_store.proofs.checking.are_at_most.Given as goal

abbrev pub invariant-loop-pin : goal.invariant-loop-pin
invariant-loop-pin g l =
    let first = l.initial.store in
    let now = l.store in record {
      ready : IsReady now;
      reads : OnlyReads first now;
      so_far : (pin : ℕ) → pin < l.pin → pin_word (committed first) pin l.place ≤ l.most;
    }
