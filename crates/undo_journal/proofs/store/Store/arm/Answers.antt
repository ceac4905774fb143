use Rattle.std.specs.Prelude.{Option}
use Rattle.std.proofs.Common.{◌≡◌, ap, ◌∙◌}
use Rattle.nvm_board.specs.declared.board.Arm.{Arm}
use Rattle.nvm_board.specs.Facts.{Facts}
use Rattle.undo_journal.specs.Memory.{Memory}
use Rattle.undo_journal.proofs.store.Store.arm.Goals as goal

-- a store whose board is armed
armed : (inside m : Memory) (after : Facts) (pending : Option Arm) → inside ≡ m
    → after ≡ record inside.facts { due = after.due; pending = pending }
    → record inside { facts = after } ≡ record m { facts = record m.facts { due = after.due; pending = pending } }
armed inside m after pending seen same =
    ap (λ (f : Facts). record inside { facts = f }) same
    ∙ ap (λ (x : Memory). record x { facts = record x.facts { due = after.due; pending = pending } }) seen

pub returns-clause-same : goal.returns-clause-same
returns-clause-same g c = armed _ _ _ _ c.self.view_is c.arm.ensures.same
