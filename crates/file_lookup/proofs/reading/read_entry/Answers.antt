use Rattle.undo_journal.specs.laws.Exits.{none_ok}
use Rattle.std.proofs.Common.{◌+◌, sym, ◌∙◌, arith}
use Rattle.undo_journal.specs.Memory.{committed}
use Rattle.block_chain.specs.BlockWords.{page_words}
use Rattle.block_chain.specs.laws.Words.{index-page_words}
use Rattle.file_tree.specs.laws.Tables.{entry_of-same, entry_in-table}
use Rattle.undo_journal.specs.laws.Told.{reads_handed}
use Rattle.file_lookup.proofs.reading.read_entry.Goals as goal

pub returns-clause-entry : goal.returns-clause-entry
returns-clause-entry g c =
    let m = committed c.args.store.now in
    let words = c.in_ok-words.words in
    c.from_words.ensures
    ∙ entry_of-same (page_words m (1 + c.args.e)) words
    (λ k lt. c.in_ok-words.ensures.words k lt ∙ sym (index-page_words m (1 + c.args.e) k (omega (arith, lt))))
    ∙ sym (entry_in-table m c.args.e c.requires.within)

pub returns-in_err-words-clause-entry : goal.returns-in_err-words-clause-entry
returns-in_err-words-clause-entry g c = none_ok _ _ _ c.from_residual.ensures.1

pub returns-in_err-words-clause-store : goal.returns-in_err-words-clause-store
returns-in_err-words-clause-store g c =
    reads_handed _ _ _ _ c.from_residual.ensures.1 c.in_err-words.ensures.store

pub returns-clause-store : goal.returns-clause-store
returns-clause-store g c = c.in_ok-words.ensures.store

pub read_entry_words-requires : goal.read_entry_words-requires
read_entry_words-requires g c = record {
  ready = c.requires.ready;
  within = c.requires.within;
}
