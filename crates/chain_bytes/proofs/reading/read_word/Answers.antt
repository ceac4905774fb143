use Rattle.std.proofs.Common.{◌≡◌, ◌+◌, ◌*◌, slice_index, ◌∙◌, ap, inr, arith}
use Rattle.std.proofs.lemmas.Result.{IfOk-weaker}
use Rattle.nvm_board.specs.Facts.{address}
use Rattle.nvm_board.specs.declared.board.TheConstants.{PAGE_WORDS}
use Rattle.nvm_board.specs.laws.Sizes.{page_within}
use Rattle.undo_journal.specs.Memory.{committed}
use Rattle.chain_bytes.proofs.reading.read_word.Goals as goal

pub read_committed-requires-clause-place : goal.read_committed-requires-clause-place
read_committed-requires-clause-place g c =
    let block = c.requires.block.block in
    let inside = page_within _ c.args.page c.requires.block.ready.usable.committed_size block.1 in
    (inr (omega (arith, block.0)), omega (arith, inside))

pub returns-clause-word : goal.returns-clause-word
returns-clause-word g c =
    let at : PAGE_WORDS * c.args.page + 1 + c.args.place ≡ address c.args.page
    (1 + c.args.place) = omega arith in
    IfOk-weaker c.read_committed.result _ _ (λ word is. is ∙ ap (slice_index (committed c.args.store.now)) at)
    c.read_committed.ensures.word
