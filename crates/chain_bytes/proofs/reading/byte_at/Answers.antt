use Rattle.std.proofs.Common.{◌≡◌, ◌+◌, ◌/◌, ◌%◌, ◌<◌, ℕ, List, length, slice_index, sym, ◌∙◌, ap, ap₂, subst}
use Rattle.std.proofs.Common.{arith}
use Rattle.undo_journal.specs.Memory.{committed}
use Rattle.undo_journal.specs.laws.Calls.{reads_then}
use Rattle.block_chain.specs.declared.layout.TheConstants.{BLOCK_BYTES, BLOCK_WORDS}
use Rattle.block_chain.specs.BlockWords.{word, word_bytes, IsBlock}
use Rattle.block_chain.specs.Chains.{chain_of}
use Rattle.block_chain.specs.laws.Chains.{leads_block}
use Rattle.block_chain.specs.laws.Bytes.{content_word, leads_blocks, index-bytes_of}
use Rattle.undo_journal.specs.laws.Exits.{none_ok}
use Rattle.undo_journal.specs.laws.Told.{reads_handed, reads_on, reads_so_far}
use Rattle.chain_bytes.proofs.reading.byte_at.Goals as goal

pub returns-clause-byte : goal.returns-clause-byte
returns-clause-byte g c =
    let m = committed c.args.store.now in
    let ps = chain_of m c.args.chain in
    let offset = c.args.offset in
    let place : offset / BLOCK_BYTES ≡ offset / 4 / BLOCK_WORDS = omega arith in
    let page : c.in_ok-page.page ≡ slice_index ps (offset / 4 / BLOCK_WORDS) =
    c.in_ok-page.ensures.page ∙ ap (slice_index ps) place in
    let words = c.block_at.ensures.store.only.keeps.committed_words in
    let read : c.in_ok-word.word ≡ content_word m ps (offset / 4) =
    c.in_ok-word.ensures.word
    ∙ ap (λ (p : ℕ). word (committed c.block_at.new.store) c.in_ok-page.page (1 + p)) c.place_of_byte.ensures
    ∙ ap₂ (λ (l : List ℕ) (q : ℕ). word l q (1 + offset / 4 % BLOCK_WORDS)) words page in
    c.byte_of.ensures
    ∙ ap (λ (w : ℕ). slice_index (word_bytes w) (offset % 4)) read
    ∙ sym (index-bytes_of m ps offset c.requires.chain.ready.usable.committed_size
    (leads_blocks m _ 0 ps c.requires.chain.leads) c.requires.within)

pub returns-in_err-page-clause-byte : goal.returns-in_err-page-clause-byte
returns-in_err-page-clause-byte g c = none_ok _ _ _ c.from_residual.ensures.1

pub returns-in_err-page-clause-store : goal.returns-in_err-page-clause-store
returns-in_err-page-clause-store g c =
    reads_handed _ _ _ _ c.from_residual.ensures.1 c.in_err-page.ensures.store

pub returns-in_err-word-clause-byte : goal.returns-in_err-word-clause-byte
returns-in_err-word-clause-byte g c = none_ok _ _ _ c.from_residual-in_err-word.ensures.1

pub returns-in_err-word-clause-store : goal.returns-in_err-word-clause-store
returns-in_err-word-clause-store g c =
    reads_handed _ _ _ _ c.from_residual-in_err-word.ensures.1
    (reads_on _ _ _ _ c.block_at.ensures.store.only c.in_err-word.ensures.store)

pub returns-clause-store : goal.returns-clause-store
returns-clause-store g c =
    reads_so_far _ _ (reads_then _ _ _ c.block_at.ensures.store.only c.read_word.ensures.store.only)
    c.in_ok-word.ensures.store.ready

pub read_word-requires-clause-block : goal.read_word-requires-clause-block
read_word-requires-clause-block g c = record {
  ready = c.in_ok-page.ensures.store.ready;
  block = let m = committed c.args.store.now in
      let ps = chain_of m c.args.chain in
      let place_in : c.args.offset / BLOCK_BYTES < length ps = omega (arith, c.requires.within) in
      let family : ℕ → Type 0 = λ q. IsBlock (committed c.block_at.new.store) q in
      let words : List ℕ → Type 0 = λ l. IsBlock l (slice_index ps (c.args.offset / BLOCK_BYTES)) in
      subst family (sym c.in_ok-page.ensures.page)
      (subst words (sym c.block_at.ensures.store.only.keeps.committed_words)
      (leads_block m _ 0 ps (c.args.offset / BLOCK_BYTES) c.requires.chain.leads place_in));
}
