use Rattle.std.proofs.Common.{sym, ap, ◌∙◌}
use Rattle.nvm_board.specs.Facts.{pages_of}
use Rattle.nvm_board.specs.laws.Sizes.{pages_same}
use Rattle.undo_journal.specs.Memory.{Memory, committed, current}
use Rattle.undo_journal.specs.laws.Memory.{length-committed, length-current}
use Rattle.undo_journal.proofs.store.Store.pages.Goals as goal

pub returns-clause-committed : goal.returns-clause-committed
returns-clause-committed g c =
    let m = c.args.self.now in
    c.pages.ensures ∙ ap (λ (x : Memory). pages_of x.facts.words) c.self.view_is
    ∙ sym (pages_same m.facts.words (committed m) (length-committed m))

pub returns-clause-current : goal.returns-clause-current
returns-clause-current g c =
    let m = c.args.self.now in
    c.pages.ensures ∙ ap (λ (x : Memory). pages_of x.facts.words) c.self.view_is
    ∙ sym (pages_same m.facts.words (current m) (length-current m))
