use Rattle.std.proofs.Common.{◌≡◌, ◌+◌, slice_index, sym, ◌∙◌, ap, arith}
use Rattle.undo_journal.specs.Memory.{committed}
use Rattle.block_chain.specs.BlockWords.{page_words}
use Rattle.block_chain.specs.laws.Words.{index-page_words}
use Rattle.undo_journal.specs.laws.Told.{reads_on}
use Rattle.file_tree.specs.laws.Tables.{entry_of-free, entry_in-table}
use Rattle.file_lookup.proofs.reading.read_used.Goals as goal

pub returns-then-first-eq0-clause-entry : goal.returns-then-first-eq0-clause-entry
returns-then-first-eq0-clause-entry g c =
    let m = committed c.args.store.now in
    let none : slice_index (page_words m (1 + c.args.e)) 0 ≡ 0 =
    index-page_words m (1 + c.args.e) 0 (omega arith) ∙ ap (slice_index m) (sym c.entry_address.ensures)
    ∙ sym c.in_ok-first.ensures.word ∙ c.if-first-eq0.true in
    c.free.ensures ∙ sym (entry_of-free (page_words m (1 + c.args.e)) none)
    ∙ sym (entry_in-table m c.args.e c.requires.within)

pub returns-clause-store : goal.returns-clause-store
returns-clause-store g c = reads_on _ _ _ _ c.read_committed.ensures.store.only c.read_entry.ensures.store
