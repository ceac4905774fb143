use Rattle.std.proofs.Common.{◌≡◌, ◌≢◌, ◌⊎◌, ◌<◌, ◌≤◌, ◌+◌, ◌-◌, ℕ, List, [], ◌∷◌, ◌++◌, length, slice_index}
use Rattle.std.proofs.Common.{slice_set, take, drop, sym, ◌∙◌, ap, subst, arith, inl, inr, ⊎_elim, length-take}
use Rattle.std.proofs.Common.{length-drop}
use Rattle.std.proofs.lemmas.List.{take_more}
use Rattle.std.proofs.Math.ListN.{length-set}
use Rattle.nvm_board.specs.Facts.{address, IsMemory}
use Rattle.block_chain.specs.Chains.{Leads, free_chain, HasFree}
use Rattle.block_chain.specs.ChainChanges.{Takes}
use Rattle.block_chain.specs.Counts.{count, NoneTwice, IsNotIn}
use Rattle.block_chain.specs.BlockWords.{link, IsBlock}
use Rattle.block_chain.specs.declared.chain.Chain.{Chain}
use Rattle.block_chain.specs.declared.layout.TheConstants.{FREE_HEAD, HEADER_PAGE}
use Rattle.block_chain.specs.laws.Chains.{leads_cut, leads_block}
use Rattle.block_chain.specs.laws.Counts.{count-append, count-here, around, once_take, once_drop}
use Rattle.block_chain.specs.laws.Words.{word-set_other, word-set_same}
use Rattle.block_chain.specs.declared.layout.TheConstants.{FREE_HEAD_WORD}

-- The first free blocks become a chain.

module _ (m : List ℕ) (n last rest : ℕ) (sized : IsMemory m) (free : HasFree m) (some : 1 ≤ n)
    (enough : n ≤ length (free_chain m))
    (is_last : last ≡ slice_index (free_chain m) (n - 1)) (is_rest : rest ≡ link m last) where
  abbrev pub ps : List ℕ
  ps = free_chain m

  abbrev pub after : List ℕ
  after = slice_set (slice_set m (address last 0) 0) (address HEADER_PAGE FREE_HEAD_WORD) rest

  within : n - 1 < length ps
  within = omega arith

  block : IsBlock m last
  block = let family : ℕ
      → Type 0 = λ q. IsBlock m q in subst family (sym is_last) (leads_block m _ 0 ps (n - 1) free.leads within)

  split : ps ≡ take (n - 1) ps ++ last ∷ drop n ps
  split =
      let one : n - 1 + 1 ≡ n = omega arith in
      around ps (n - 1) within ∙ ap (λ (i : ℕ). take (n - 1) ps ++ slice_index ps (n - 1) ∷ drop i ps) one
      ∙ ap (λ (q : ℕ). take (n - 1) ps ++ q ∷ drop n ps) (sym is_last)

  taken : take n ps ≡ take (n - 1) ps ++ last ∷ []
  taken =
      let one : n - 1 + 1 ≡ n = omega arith in
      ap (λ (i : ℕ). take i ps) (sym one) ∙ take_more ps (n - 1) 0 within
      ∙ ap (λ (q : ℕ). take (n - 1) ps ++ q ∷ []) (sym is_last)

  end : link after last ≡ 0
  end =
      let inside : address last 0 < length m = omega (arith, block.1, sized.whole, sized.least) in
      let differs : last ≢ HEADER_PAGE = omega (arith, block.0) in
      word-set_other (slice_set m (address last 0) 0) HEADER_PAGE FREE_HEAD_WORD last 0 rest (omega arith)
      (omega arith) (inl differs) ∙ word-set_same m last 0 0 inside

  others : (q : ℕ) → q ≢ last → link after q ≡ link m q
  others q differs =
      word-set_other (slice_set m (address last 0) 0) HEADER_PAGE FREE_HEAD_WORD q 0 rest (omega arith) (omega arith)
      (inr (omega arith))
      ∙ word-set_other m last 0 q 0 0 (omega arith) (omega arith) (inl differs)

  head : slice_index after FREE_HEAD ≡ link m last
  head =
      let inside : address HEADER_PAGE FREE_HEAD_WORD < length (slice_set m (address last 0) 0) =
      let l = length-set m (address last 0) 0 in omega (arith, l, sized.whole, sized.least) in
      word-set_same (slice_set m (address last 0) 0) HEADER_PAGE FREE_HEAD_WORD rest inside ∙ is_rest

  cut : Leads after (slice_index m FREE_HEAD) (take (n - 1) ps ++ last ∷ []) 0 × Leads after (link m last) (drop n ps) 0
  cut =
      let family : List ℕ → Type 0 = λ qs. Leads m (slice_index m FREE_HEAD) qs 0 in
      let leads = subst family split free.leads in
      let once = subst NoneTwice split free.once in
      leads_cut m after _ last (take (n - 1) ps) (drop n ps)
      (length-set (slice_set m (address last 0) 0) (address HEADER_PAGE FREE_HEAD_WORD) rest
      ∙ length-set m (address last 0) 0) leads once end others

  pub takes : (c : Chain) → c.first ≡ slice_index m FREE_HEAD → c.last ≡ last → Takes m n c after
  takes c first at_last = record {
    taken = record {
      leads = (
          let family : List ℕ → Type 0 = λ qs. Leads after (slice_index m FREE_HEAD) qs 0 in
          let from : ℕ → Type 0 = λ q. Leads after q (take n ps) 0 in
          subst from (sym first) (subst family (sym taken) cut.0));
      once = once_take n ps free.once;
      size = let l = length-take n ps in omega (arith, l, free.size);
    };
    last = at_last ∙ is_last;
    free = record {
      leads = (let from : ℕ → Type 0 = λ q. Leads after q (drop n ps) 0 in subst from (sym head) cut.1);
      once = once_drop n ps free.once;
      size = let l = length-drop n ps in omega (arith, l, free.size);
    };
    only = record {
      size = length-set (slice_set m (address last 0) 0) (address HEADER_PAGE FREE_HEAD_WORD) rest
          ∙ length-set m (address last 0) 0;
      others = λ page place small differs header.
          let is_taken : 1 ≤ count last (take n ps) = (
          let whole = ap (count last) taken in let parts = count-append last (take (n - 1) ps) (last ∷ []) in
          let here = count-here last [] in omega (arith, whole, parts, here)) in
          let apart : (page ≢ last) ⊎ (place ≢ 0) = ⊎_elim
          (λ (elsewhere : place ≢ 0). inr elsewhere)
          (λ (other : IsNotIn page (take n ps)). inl (λ is. let e : count page (take n ps) ≡ count last
          (take n ps) = ap (λ (r : ℕ). count r (take n ps)) is in omega (arith, e, other, is_taken)))
          differs in
          word-set_other (slice_set m (address last 0) 0) HEADER_PAGE FREE_HEAD_WORD page place rest
          (omega arith) small header
          ∙ word-set_other m last 0 page place 0 (omega arith) small apart;
    };
  }
