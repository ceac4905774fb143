-- The words of a chain, as bytes are put into them one by one.
use Rattle.std.proofs.Common.{◌≡◌, ◌+◌, ◌-◌, ◌*◌, ◌/◌, ◌%◌, ◌<◌, ◌≤◌, ℕ, List, length, slice_index, refl, sym, ◌∙◌, ap}
use Rattle.std.specs.Prelude.{◌==◌, if◌then◌else◌}
use Rattle.std.proofs.Common.{subst, inl, arith}
use Rattle.nvm_board.specs.declared.board.TheConstants.{MOST_PAGES}
use Rattle.std.proofs.Math.ListN.{length-set}
use Rattle.nvm_board.specs.Facts.{address, IsMemory}
use Rattle.block_chain.specs.declared.layout.TheConstants.{BLOCK_BYTES, BLOCK_WORDS, FILE_BYTES}
use Rattle.block_chain.specs.BlockWords.{link, IsBlock}
use Rattle.block_chain.specs.Chains.{IsChain}
use Rattle.block_chain.specs.ChainChanges.{touched_words, Overwrites}
use Rattle.block_chain.specs.ChainParts.{PutsWord}
use Rattle.block_chain.specs.laws.Bytes.{leads_blocks}
use Rattle.block_chain.specs.laws.Chains.{block_same, leads_block, leads_next, leads_small, next_block}
use Rattle.block_chain.specs.laws.Overwriting.{IsPut, put_all, put_none, put_step, touched}

-- The words of a chain before word k are put, and this is the block of word k.
pub record IsPutSoFar (m ps : List ℕ) (offset : ℕ) (bytes : List ℕ) (k page : ℕ) (now : List ℕ) : Type 0 where
  pub some : 1 ≤ length bytes
  pub from : offset / 4 ≤ k
  pub block : page ≡ slice_index ps (k / BLOCK_WORDS)
  pub put : IsPut m ps offset bytes k now

module _ (m ps : List ℕ) (from offset : ℕ) (bytes : List ℕ) (chain : IsChain m from ps)
    (within : offset + length bytes ≤ BLOCK_BYTES * length ps) (small : offset + length bytes ≤ FILE_BYTES)
    (sized : IsMemory m) where
  -- no word is put yet
  pub put_first : (page : ℕ) (now : List ℕ) → 1 ≤ length bytes → page ≡ slice_index ps (offset / BLOCK_BYTES) → now ≡ m
      → IsPutSoFar m ps offset bytes (offset / 4) page now
  put_first page now some is same =
      let place : offset / BLOCK_BYTES ≡ offset / 4 / BLOCK_WORDS = omega arith in
      record {
        some = some;
        from = omega arith;
        block = is ∙ ap (slice_index ps) place;
        put = subst (λ (l : List ℕ). IsPut m ps offset bytes (offset / 4) l) (sym same)
            (put_none m ps offset bytes sized (leads_blocks m from 0 ps chain.leads));
      }

  -- all are
  pub put_last : (k page : ℕ) (now : List ℕ) → IsPutSoFar m ps offset bytes k page now
      → (offset + length bytes + 3) / 4 ≤ k → Overwrites m ps offset bytes now
  put_last k page now so_far past =
      let far : offset + length bytes ≤ 4 * k = omega (arith, past) in
      put_all m ps offset bytes sized (leads_blocks m from 0 ps chain.leads) k now so_far.put far within

  -- they are no more than what is touched
  pub put_few : (k page : ℕ) (now : List ℕ) → IsPutSoFar m ps offset bytes k page now
      → k ≤ (offset + length bytes + 3) / 4 → k - offset / 4 ≤ touched_words offset (length bytes)
  put_few k page now so_far low =
      let words = touched offset (length bytes) so_far.some in
      omega (arith, words, low, so_far.from)

  module _ (k page : ℕ) (now : List ℕ) (so_far : IsPutSoFar m ps offset bytes k page now)
      (lt : k < (offset + length bytes + 3) / 4) where
    -- the word is one of the chain
    pub word_within : k < BLOCK_WORDS * length ps
    word_within = omega (arith, lt, within)

    place_in : k / BLOCK_WORDS < length ps
    place_in = omega (arith, word_within)

    -- the word lies in a block
    pub word_block : IsBlock now page
    word_block =
        let family : ℕ → Type 0 = λ q. IsBlock m q in
        block_same m now page so_far.put.only.size
        (subst family (sym so_far.block) (leads_block m from 0 ps (k / BLOCK_WORDS) chain.leads place_in))

    -- and its bytes have offsets of 16 bits
    pub word_small : 4 * k + 3 < 65536
    word_small = omega (arith, lt, small)

    -- there is room for it, while each word before it took one place
    pub word_fits : k - offset / 4 + 1 ≤ touched_words offset (length bytes)
    word_fits =
        let words = touched offset (length bytes) so_far.some in omega (arith, lt, words, so_far.from)

    module _ (after : List ℕ) (puts : PutsWord now page k offset bytes after) where
      -- the word is put, beside those before it
      word_put : IsPut m ps offset bytes (k + 1) after
      word_put = put_step m ps offset bytes sized (leads_blocks m from 0 ps chain.leads) chain.once k page now after
          so_far.put word_within so_far.block puts

      -- it still lies in a block
      pub put_block : IsBlock after page
      put_block =
          let size : length after ≡ length now = ap (λ (l : List ℕ). length l) puts.done
          ∙ length-set now (address page (1 + k % BLOCK_WORDS)) puts.put in
          block_same now after page size word_block

      -- the block's link is as it was
      link_put : link after page ≡ slice_index ps (k / BLOCK_WORDS + 1)
      link_put =
          word_put.only.others page 0 (omega arith) (inl refl) ∙ ap (link m) so_far.block
          ∙ leads_next m from ps (k / BLOCK_WORDS) chain.leads place_in

      pub link_small : link after page < MOST_PAGES
      link_small =
          let next = link_put in
          let small = leads_small m from ps (k / BLOCK_WORDS + 1) sized chain.leads in
          omega (arith, next, small)

      -- and the block of the word after it is found
      pub put_more : (last : List ℕ) (next : ℕ) → last ≡ after
          → next ≡ (if (k + 1) % BLOCK_WORDS == 0 then link after page else page)
          → IsPutSoFar m ps offset bytes (k + 1) next last
      put_more last next still told = record {
        some = so_far.some;
        from = omega (arith, so_far.from);
        block = next_block ps (k / BLOCK_WORDS) ((k + 1) / BLOCK_WORDS) ((k + 1) % BLOCK_WORDS) page (link after page)
            next (λ ends. omega (arith, ends)) (λ goes. omega (arith, goes))
            so_far.block link_put told;
        put = subst (λ (l : List ℕ). IsPut m ps offset bytes (k + 1) l) (sym still) word_put;
      }
