use Rattle.undo_journal.specs.laws.Exits.{none_ok}
use Rattle.std.proofs.Common.{◌≡◌, ◌+◌, ℕ, Bool, List, if◌then◌else◌, slice_index, inl, inr, sym, ◌∙◌, ap, ap₂, arith}
use Rattle.std.proofs.lemmas.Bool.Decides.{eqb_tells}
use Rattle.nvm_board.specs.Facts.{address}
use Rattle.undo_journal.specs.Memory.{committed}
use Rattle.block_chain.specs.BlockWords.{word, page_words}
use Rattle.block_chain.specs.laws.Words.{index-page_words}
use Rattle.file_tree.specs.declared.entry.Entry.{Entry}
use Rattle.file_tree.specs.declared.entry.EntryHead.{EntryHead}
use Rattle.file_tree.specs.Entries.{byte_of, entry_of, free_entry, head_of, head_told}
use Rattle.file_tree.specs.laws.Tables.{entry_of-free, entry_of-used, entry_in-table}
use Rattle.undo_journal.specs.laws.Told.{reads_handed, reads_on}
use Rattle.file_lookup.proofs.reading.read_entry_head.Goals as goal

-- the head of the entry that a page's words are
head-page : (words : List ℕ) → head_told (slice_index words 0) (slice_index words 1) ≡ head_of (entry_of words)
head-page words =
    let first = slice_index words 0 in
    let told : EntryHead =
    record {
      kind = byte_of first 0;
      life = byte_of first 1;
      parent = byte_of (slice_index words 1) 0;
      short = byte_of (slice_index words 1) 1;
      name_length = byte_of (slice_index words 1) 2;
    } in
    let pick = λ (b : Bool). if b then head_of free_entry else told in
    elim (eqb_tells first 0) [
      | inl same ↦ ap pick same.0 ∙ sym (ap (λ (x : Entry). head_of x) (entry_of-free words same.1))
      | inr other ↦ ap pick other.0 ∙ sym (ap (λ (x : Entry). head_of x) (entry_of-used words other.1))
    ]

pub returns-clause-head : goal.returns-clause-head
returns-clause-head g c =
    let m = committed c.args.store.now in
    let page = 1 + c.args.e in
    let words = page_words m page in
    let kept = c.read_committed.ensures.store.only.keeps.committed_words in
    let here : c.entry_address-at.result ≡ address page 0 = omega (arith, c.entry_address-at.ensures) in
    let next : c.entry_address-at.result + 1 ≡ address page 1 = omega (arith, c.entry_address-at.ensures) in
    let one : c.in_ok-first.first ≡ word m page 0 =
    c.in_ok-first.ensures.word ∙ ap (slice_index m) here in
    let two : c.in_ok-second.second ≡ word m page 1 =
    c.in_ok-second.ensures.word ∙ ap₂ (λ (l : List ℕ) (i : ℕ). slice_index l i) kept next in
    c.from_words.ensures
    ∙ ap₂ (λ (a b : ℕ). head_told a b)
    (one ∙ sym (index-page_words m page 0 (omega arith))) (two ∙ sym (index-page_words m page 1 (omega arith)))
    ∙ head-page words ∙ ap (λ (x : Entry). head_of x) (sym (entry_in-table m c.args.e c.requires.within))

pub returns-in_err-first-clause-head : goal.returns-in_err-first-clause-head
returns-in_err-first-clause-head g c = none_ok _ _ _ c.from_residual.ensures.1

pub returns-in_err-second-clause-head : goal.returns-in_err-second-clause-head
returns-in_err-second-clause-head g c = none_ok _ _ _ c.from_residual-in_err-second.ensures.1

pub returns-in_err-first-clause-store : goal.returns-in_err-first-clause-store
returns-in_err-first-clause-store g c =
    reads_handed _ _ _ _ c.from_residual.ensures.1 c.in_err-first.ensures.store

pub returns-in_err-second-clause-store : goal.returns-in_err-second-clause-store
returns-in_err-second-clause-store g c =
    reads_handed _ _ _ _ c.from_residual-in_err-second.ensures.1
    (reads_on _ _ _ _ c.read_committed.ensures.store.only c.in_err-second.ensures.store)

pub returns-clause-store : goal.returns-clause-store
returns-clause-store g c =
    reads_on _ _ _ _ c.read_committed.ensures.store.only c.in_ok-second.ensures.store
