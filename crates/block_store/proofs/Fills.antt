-- The first free blocks, as they are filled one by one.
use Rattle.std.proofs.Common.{◌≡◌, ◌+◌, ◌-◌, ◌<◌, ◌≤◌, ◌∙◌, ℕ, List, length, slice_index, take, replicate}
use Rattle.std.proofs.Common.{refl, sym, ap}
use Rattle.std.proofs.Common.{subst, inl, arith, get_or-take}
use Rattle.std.proofs.lemmas.List.{length-replicate, length-take-le}
use Rattle.nvm_board.specs.Facts.{address, IsMemory}
use Rattle.nvm_board.specs.declared.board.TheConstants.{MOST_PAGES}
use Rattle.nvm_board.specs.Torn.{Torn}
use Rattle.nvm_board.specs.laws.Torn.{IsMixture-Torn}
use Rattle.block_chain.specs.declared.chain.FreeRun.{FreeRun}
use Rattle.block_chain.specs.declared.layout.TheConstants.{BLOCK_WORDS, FREE_HEAD}
use Rattle.block_chain.specs.BlockWords.{link, IsBlock}
use Rattle.block_chain.specs.Chains.{HasFree, free_chain}
use Rattle.block_chain.specs.ChainChanges.{IsFirstFree, OnlyContent}
use Rattle.block_chain.specs.laws.Chains.{block_same, leads_block, leads_next, leads_small}
use Rattle.block_chain.specs.laws.Filling.{fill_more}

-- no block is filled yet
pub none_filled : (m now ps : List ℕ) → now ≡ m → OnlyContent m ps now
none_filled m now ps same =
    subst (λ (l : List ℕ). OnlyContent m ps l) (sym same) (record {
      size = refl;
      others = λ page place small apart. refl;
    })

module _ (m : List ℕ) (n : ℕ) (free : HasFree m) (sized_m : IsMemory m) (enough : n ≤ length (free_chain m))
    (i page : ℕ) (lt : i < n) (is : page ≡ slice_index (free_chain m) i) where
  within : i < length (free_chain m)
  within = omega (arith, lt, enough)

  -- the next one is a block
  pub block_to_fill : (now : List ℕ) → length now ≡ length m → IsBlock now page
  block_to_fill now size =
      let family : ℕ → Type 0 = λ q. IsBlock m q in
      block_same m now page size (subst family (sym is) (leads_block m _ 0 (free_chain m) i free.leads within))

  -- whole or torn, its write changes words of the first n free blocks alone
  pub only_filled : (now after : List ℕ) (w : ℕ) → IsMemory now → OnlyContent m (take n (free_chain m)) now
      → Torn now (address page 1) (replicate BLOCK_WORDS w) after → OnlyContent m (take n (free_chain m)) after
  only_filled now after w sized only torn =
      let long = length-replicate BLOCK_WORDS w in
      let block = block_to_fill now only.size in
      let fits : address page 1 + length (replicate BLOCK_WORDS w) ≤ length now =
      omega (arith, long, sized.whole, sized.least, block.1) in
      let taken = length-take-le n (free_chain m) enough in
      fill_more m now after (take n (free_chain m)) i page (replicate BLOCK_WORDS w) only (omega (arith, taken, lt))
      (is ∙ sym (get_or-take n (free_chain m) i 0 lt)) long (IsMixture-Torn now _ _ (address page 1) fits torn)

  -- then its link is as it was
  pub next_to_fill : (after : List ℕ) → OnlyContent m (take n (free_chain m)) after
      → link after page ≡ slice_index (free_chain m) (i + 1)
  next_to_fill after only =
      only.others page 0 (omega arith) (inl refl) ∙ ap (link m) is ∙ leads_next m _ (free_chain m) i free.leads within

  pub next_small : (after : List ℕ) → OnlyContent m (take n (free_chain m)) after → link after page < MOST_PAGES
  next_small after only =
      let next = next_to_fill after only in
      let small = leads_small m _ (free_chain m) (i + 1) sized_m free.leads in
      omega (arith, next, small)

-- all of them, where there is one
pub first_run : (m : List ℕ) (n : ℕ) (run : FreeRun) → HasFree m → IsMemory m → n ≤ length (free_chain m) → 1 ≤ n
    → run.chain.first ≡ slice_index m FREE_HEAD → run.chain.last ≡ slice_index (free_chain m) (n - 1)
    → run.rest ≡ slice_index (free_chain m) n → IsFirstFree m n run
first_run m n run free sized enough some first last rest =
    let ps = free_chain m in
    let behind : n - 1 + 1 ≡ n = omega arith in
    let within : n - 1 < length ps = omega (arith, some, enough) in
    record {
      first = first;
      last = last;
      block = subst (λ (q : ℕ). IsBlock m q) (sym last) (leads_block m _ 0 ps (n - 1) free.leads within);
      after = rest ∙ ap (λ (k : ℕ). slice_index ps k) (sym behind)
          ∙ sym (leads_next m _ ps (n - 1) free.leads within) ∙ ap (link m) (sym last);
      small = let next = leads_small m _ ps n sized free.leads in omega (arith, rest, next);
    }
