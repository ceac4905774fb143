use Rattle.std.proofs.Common.{◌≡◌, ◌+◌, ◌∙◌, slice_index, ap, arith, ℕ}
use Rattle.std.proofs.lemmas.Result.{IfOk-weaker}
use Rattle.nvm_board.specs.Facts.{address}
use Rattle.undo_journal.specs.Memory.{committed}
use Rattle.file_lookup.proofs.reading.read_second_word.Goals as goal

pub returns-clause-word : goal.returns-clause-word
returns-clause-word g c =
    let place : c.entry_address.result + 1 ≡ address (1 + c.args.e) 1 = omega (arith, c.entry_address.ensures) in
    IfOk-weaker _ _ _ (λ (w : ℕ) (is : w ≡ slice_index (committed c.args.store.now) (c.entry_address.result + 1)).
    is ∙ ap (slice_index (committed c.args.store.now)) place) c.read_committed.ensures.word
