use Rattle.std.proofs.Common.{◌≡◌, ◌+◌, ◌∙◌, slice_index, ap, arith, ℕ}
use Rattle.std.proofs.lemmas.Result.{IfOk-weaker}
use Rattle.nvm_board.specs.Facts.{address}
use Rattle.undo_journal.specs.Memory.{committed}
use Rattle.file_lookup.proofs.reading.read_entry_word.Goals as goal

pub returns-clause-word : goal.returns-clause-word
returns-clause-word g c =
    let at = c.entry_address.result + c.args.place in
    let place : at ≡ address (1 + c.args.e) c.args.place = omega (arith, c.entry_address.ensures) in
    IfOk-weaker _ _ _ (λ (w : ℕ) (is : w ≡ slice_index (committed c.args.store.now) at).
    is ∙ ap (slice_index (committed c.args.store.now)) place) c.read_committed.ensures.word
