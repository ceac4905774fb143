-- What chains, their bytes and a layout depend on, and so what leaves them as they are.
use Rattle.std.specs.Prelude.{◌≡◌, ◌≢◌, ◌⊎◌, ◌<◌, ◌≤◌, ◌+◌, ◌-◌, ◌*◌, ◌/◌, ◌%◌, ℕ, zero, suc, List, [], ◌∷◌, ◌++◌}
use Rattle.std.specs.Prelude.{length}
use Rattle.std.specs.Prelude.{slice_index, slice_index_or, slice_set, All}
use Rattle.std.proofs.Common.{refl, sym, ◌∙◌, ap, ap₂, subst, arith, inl, inr, ⊎_elim}
use Rattle.std.proofs.Math.ListN.{length-set}
use Rattle.std.proofs.lemmas.Grind.{same_number_lists}
use Rattle.nvm_board.specs.Facts.{address, IsMemory}
use Rattle.nvm_board.specs.declared.board.TheConstants.{PAGE_WORDS}
use Rattle.block_chain.specs.declared.layout.TheConstants.{FREE_HEAD, FREE_HEAD_WORD, HEADER_PAGE, MOST_BLOCKS}
use Rattle.block_chain.specs.declared.layout.TheConstants.{BLOCK_BYTES, BLOCK_WORDS}
use Rattle.block_chain.specs.declared.chain.Extent.{Extent}
use Rattle.block_chain.specs.declared.chain.FreeRun.{FreeRun}
use Rattle.nvm_board.specs.laws.Sizes.{memory_same, pages_same}
use Rattle.block_chain.specs.BlockWords.{word, link, page_words, word_bytes, IsBlock}
use Rattle.block_chain.specs.Counts.{count, NoneTwice, IsNotIn}
use Rattle.block_chain.specs.Chains.{Leads, free_chain, bytes_of}
use Rattle.block_chain.specs.ChainChanges.{IsFirstFree, OnlyLinks, OnlyContent, KeepsBlocks}
use Rattle.block_chain.specs.Layout.{IsOf, blocks_of, laid_out, IsExtent, AreLaid, SameBytes}
use Rattle.block_chain.specs.laws.Words.{word-set_other, length-page_words, index-page_words}
use Rattle.block_chain.specs.laws.Counts.{count-nil, count-other, count-append, count-index}
use Rattle.block_chain.specs.laws.Chains.{block_same, leads_same, pages_are}
use Rattle.block_chain.specs.laws.Bytes.{blocks_same, AreBlocks, leads_blocks, block_in, content_word, index-bytes_of}
use Rattle.block_chain.specs.laws.Bytes.{length-bytes_of}
use Rattle.block_chain.specs.laws.Laying.{laid_of, pages_most, laid_out-nil, laid_out-cons}
use Rattle.block_chain.specs.laws.Extents.{count_extent}

-- The words of a page depend on themselves alone.
pub page_words_same : (m after : List ℕ) (page : ℕ) → address page PAGE_WORDS ≤ length m → length after ≡ length m
    → ((place : ℕ) → place < PAGE_WORDS → word after page place ≡ word m page place)
    → page_words after page ≡ page_words m page
page_words_same m after page within size same =
    let long = length-page_words m page within in
    let long_after = length-page_words after page (omega (arith, within, size)) in
    same_number_lists _ _ (long_after ∙ sym long) (λ i lt.
    let small : i < PAGE_WORDS = omega (arith, lt, long_after) in
    index-page_words after page i small ∙ same i small ∙ sym (index-page_words m page i small))

-- An extent depends on the links of its blocks alone.
pub extent_kept : (m after : List ℕ) (e : Extent) → IsExtent m e → length after ≡ length m
    → ((q : ℕ) → 1 ≤ count q (blocks_of m e) → link after q ≡ link m q) → IsExtent after e
    × (blocks_of after e ≡ blocks_of m e)
extent_kept m after e is size same =
    let leads : Leads after e.chain.first (blocks_of m e) 0 =
    leads_same m after e.chain.first 0 (blocks_of m e) size same is.leads in
    let blocks : blocks_of after e ≡ blocks_of m e =
    pages_are after MOST_BLOCKS e.chain.first (blocks_of m e) leads (pages_most m MOST_BLOCKS e.chain.first) in
    let family : List ℕ → Type 0 = λ ps. Leads after e.chain.first ps 0 in (
      record {
        leads = subst family (sym blocks) leads;
        blocks = ap (λ (ps : List ℕ). length ps) blocks ∙ is.blocks;
        last = is.last ∙ sym (ap (λ (ps : List ℕ). slice_index ps (e.blocks - 1)) blocks);
      },
      blocks,
    )

-- extents depend on the links of their blocks alone
pub extents_kept : (m after : List ℕ) (es : List Extent) → All (IsExtent m) es → length after ≡ length m
    → ((q : ℕ) → 1 ≤ count q (laid_out m es) → link after q ≡ link m q)
    → All (IsExtent after) es × (laid_out after es ≡ laid_out m es)
extents_kept m after [] each size same =
    ((λ i d lt. absurd (omega (arith, lt))), laid_out-nil after ∙ sym (laid_out-nil m))
extents_kept m after (e ∷ es) each size same =
    let parts : (q : ℕ) → count q (laid_out m (e ∷ es)) ≡ count q (blocks_of m e) + count q (laid_out m es) =
    λ q. ap (count q) (laid_out-cons m e es) ∙ count-append q (blocks_of m e) (laid_out m es) in
    let here = extent_kept m after e (each 0 e (omega arith)) size
    (λ q some. same q (let p = parts q in omega (arith, p, some))) in
    let rest = extents_kept m after es (λ i d lt. each (suc i) d (omega (arith, lt))) size
    (λ q some. same q (let p = parts q in omega (arith, p, some))) in (
      (λ i d lt. by_place i d lt here.0 rest.0),
      laid_out-cons after e es ∙ ap₂ (λ (a b : List ℕ). a ++ b) here.1 rest.1
          ∙ sym (laid_out-cons m e es),
    )
  where
    by_place : (i : ℕ) (d : Extent) → i < length (e ∷ es) → IsExtent after e → All (IsExtent after) es
        → IsExtent after (slice_index_or (e ∷ es) i d)
    by_place zero d lt one all = one
    by_place (suc i) d lt one all = all i d (omega (arith, lt))

-- A layout depends on the links of blocks and on the header's word that names the first free one.
pub laid_same : (n : ℕ) (m after : List ℕ) (es : List Extent) → AreLaid n m es → length after ≡ length m
    → ((q : ℕ) → IsOf n q → link after q ≡ link m q) → slice_index after FREE_HEAD ≡ slice_index m FREE_HEAD
    → AreLaid n after es × (free_chain after ≡ free_chain m) × (laid_out after es ≡ laid_out m es)
laid_same n m after es laid size links head =
    let leads : Leads after (slice_index m FREE_HEAD) (free_chain m) 0 =
    leads_same m after _ 0 (free_chain m) size (λ q some. links q (laid_of n m es laid q
    (let parts = count-append q (free_chain m) (laid_out m es) in omega (arith, parts, some)))) laid.free in
    let from : ℕ → Type 0 = λ p. Leads after p (free_chain m) 0 in
    let free : Leads after (slice_index after FREE_HEAD) (free_chain m) 0 = subst from (sym head) leads in
    let same : free_chain after ≡ free_chain m =
    pages_are after MOST_BLOCKS (slice_index after FREE_HEAD) (free_chain m) free
    (pages_most m MOST_BLOCKS (slice_index m FREE_HEAD)) in
    let kept = extents_kept m after es laid.each size (λ q some. links q (laid_of n m es laid q
    (let parts = count-append q (free_chain m) (laid_out m es) in omega (arith, parts, some)))) in
    let all : free_chain after ++ laid_out after es ≡ free_chain m ++ laid_out m es =
    ap₂ (λ (a b : List ℕ). a ++ b) same kept.1 in
    let over : List ℕ → Type 0 = λ l. Leads after (slice_index after FREE_HEAD) l 0 in (
      record {
        inside = (let pages = pages_same m after size in let inside = laid.inside in omega (arith, pages, inside));
        free = subst over (sym same) free;
        each = kept.0;
        below = λ q past. ap (count q) all ∙ laid.below q past;
        once = subst NoneTwice (sym all) laid.once;
        whole = ap (λ (l : List ℕ). length l) all ∙ laid.whole;
      },
      same,
      kept.1,
    )

-- A change of content words leaves the layout as it is.
pub laid_kept : (n : ℕ) (m after : List ℕ) (es : List Extent) (ps : List ℕ) → AreLaid n m es → OnlyContent m ps after
    → IsNotIn HEADER_PAGE ps
    → AreLaid n after es × (free_chain after ≡ free_chain m) × (laid_out after es ≡ laid_out m es)
laid_kept n m after es ps laid only no_header =
    laid_same n m after es laid only.size (λ q block. only.others q 0 (omega arith) (inl refl))
    (only.others HEADER_PAGE FREE_HEAD_WORD (omega arith) (inr no_header))

-- The bytes of blocks depend on the words of these blocks that hold bytes.
pub bytes_same : (m after qs : List ℕ) → IsMemory m → length after ≡ length m → AreBlocks m qs
    → ((j : ℕ) → j < BLOCK_WORDS * length qs → content_word after qs j ≡ content_word m qs j)
    → bytes_of after qs ≡ bytes_of m qs
bytes_same m after qs sized same_size blocks same =
    let after_sized = memory_same m after same_size sized in
    let after_blocks = blocks_same m after qs same_size blocks in
    let size = length-bytes_of m qs sized blocks in
    let new_size = length-bytes_of after qs after_sized after_blocks in
    same_number_lists _ _ (new_size ∙ sym size) (λ i lt.
    let below : i < BLOCK_BYTES * length qs = omega (arith, lt, new_size) in
    index-bytes_of after qs i after_sized after_blocks below
    ∙ ap (λ (w : ℕ). slice_index (word_bytes w) (i % 4)) (same (i / 4) (omega (arith, below)))
    ∙ sym (index-bytes_of m qs i sized blocks below))

-- A change of content in some blocks leaves the bytes of others.
pub bytes_kept : (m after ps qs : List ℕ) → IsMemory m → AreBlocks m qs → OnlyContent m ps after
    → ((q : ℕ) → 1 ≤ count q qs → IsNotIn q ps) → bytes_of after qs ≡ bytes_of m qs
bytes_kept m after ps qs sized blocks only apart = bytes_same m after qs sized only.size blocks (λ j lt.
    let within : j / BLOCK_WORDS < length qs = omega (arith, lt) in
    only.others (slice_index qs (j / BLOCK_WORDS)) (1 + j % BLOCK_WORDS) (omega arith)
    (inr (apart _ (count-index qs (j / BLOCK_WORDS) within))))

-- A change of links leaves the bytes of all blocks.
pub bytes_linked : (m after ps qs : List ℕ) → IsMemory m → AreBlocks m qs → OnlyLinks m ps after
    → bytes_of after qs ≡ bytes_of m qs
bytes_linked m after ps qs sized blocks only = bytes_same m after qs sized only.size blocks (λ j lt.
    let within : j / BLOCK_WORDS < length qs = omega (arith, lt) in
    let block = block_in m qs (j / BLOCK_WORDS) blocks within in
    only.others (slice_index qs (j / BLOCK_WORDS)) (1 + j % BLOCK_WORDS) (omega arith) (inl (omega arith))
    (inl (omega (arith, block.0))))

-- another page is not among the pages of blocks; so the header's is not
pub not_among : (m : List ℕ) (page : ℕ) → (IsBlock m page → ⊥) → (ps : List ℕ) → AreBlocks m ps → IsNotIn page ps
not_among m page outside [] blocks = count-nil page
not_among m page outside (p ∷ ps) blocks =
    count-other page p ps (λ is. outside (let family : ℕ → Type 0 = λ q. IsBlock m q in subst family (sym is) blocks.0))
    ∙ not_among m page outside ps blocks.1

pub no_header : (m ps : List ℕ) → AreBlocks m ps → IsNotIn HEADER_PAGE ps
no_header m ps blocks =
    not_among m HEADER_PAGE (λ block. let low = block.0 in let z : ⊥ = omega (arith, low) in z) ps blocks

-- the first free blocks stay the first ones where bytes of blocks change
pub first_free_kept : (m after ps : List ℕ) (n : ℕ) (run : FreeRun) → AreBlocks m ps → OnlyContent m ps after
    → free_chain after ≡ free_chain m → IsFirstFree m n run → IsFirstFree after n run
first_free_kept m after ps n run blocks only free found = record {
  first = found.first
      ∙ sym (only.others HEADER_PAGE FREE_HEAD_WORD (omega arith) (inr (no_header m ps blocks)));
  last = found.last ∙ ap (λ (qs : List ℕ). slice_index qs (n - 1)) (sym free);
  block = block_same m after run.chain.last only.size found.block;
  after = found.after ∙ sym (only.others run.chain.last 0 (omega arith) (inl refl));
  small = found.small;
}

-- An extent whose links stay, and whose blocks are not among these, keeps its bytes where only these blocks' bytes
-- change.
pub extent_bytes : (m after ps : List ℕ) (e : Extent) → IsMemory m → IsExtent m e → OnlyContent m ps after
    → ((q : ℕ) → 1 ≤ count q (blocks_of m e) → IsNotIn q ps) → SameBytes m after e
extent_bytes m after ps e sized is only apart = (
  (extent_kept m after e is only.size (λ q some. only.others q 0 (omega arith) (inl refl))).1,
  bytes_kept m after ps (blocks_of m e) sized (leads_blocks m _ 0 (blocks_of m e) is.leads) only apart,
)

-- Only links change: extents whose blocks stay keep their bytes.
pub linked_bytes : (m after ps : List ℕ) (es : List Extent) → IsMemory m → All (IsExtent m) es
    → OnlyLinks m ps after
    → ((q : ℕ) → 1 ≤ count q (laid_out m es) → IsNotIn q ps) → All (SameBytes m after) es
linked_bytes m after ps es sized each only apart i d lt =
    let e = slice_index_or es i d in
    let is : IsExtent m e = each i d lt in (
      (extent_kept m after e is only.size (λ q some. only.others q 0 (omega arith)
          (inr (apart q (let own = count_extent m q es i d lt in omega (arith, own, some)))) (inr (omega arith)))).1,
      bytes_linked m after ps (blocks_of m e) sized (leads_blocks m _ 0 (blocks_of m e) is.leads) only,
    )

-- A word is set elsewhere: not in a block, and not the header's that names the first free one.
pub set_elsewhere : (n : ℕ) (m : List ℕ) (page place w : ℕ) → place < PAGE_WORDS → (IsOf n page → ⊥)
    → (page ≢ HEADER_PAGE) ⊎ (place ≢ FREE_HEAD_WORD) → KeepsBlocks n m (slice_set m (address page place) w)
set_elsewhere n m page place w small outside differs = record {
  size = length-set m (address page place) w;
  words = λ other there block below. word-set_other m page place other there w small below
      (inl (λ is. outside (let family : ℕ → Type 0 = λ q. IsOf n q in subst family is block)));
  head = word-set_other m page place HEADER_PAGE FREE_HEAD_WORD w small (omega arith) (⊎_elim
      (λ (away : page ≢ HEADER_PAGE). inl (λ is. away (sym is)))
      (λ (apart : place ≢ FREE_HEAD_WORD). inr (λ is. apart (sym is)))
      differs);
}

-- Words change elsewhere: the layout, the free chain and the bytes of all extents stay.
pub laid_elsewhere : (n : ℕ) (m after : List ℕ) (es : List Extent) → IsMemory m → AreLaid n m es
    → KeepsBlocks n m after → AreLaid n after es × (free_chain after ≡ free_chain m) × All (SameBytes m after) es
laid_elsewhere n m after es sized laid keeps =
    let kept = laid_same n m after es laid keeps.size (λ q block. keeps.words q 0 block (omega arith)) keeps.head in (
      kept.0,
      kept.1,
      λ i d lt.
          let e = slice_index_or es i d in
          let is : IsExtent m e = laid.each i d lt in
          let blocks = leads_blocks m _ 0 (blocks_of m e) is.leads in (
            (extent_kept m after e is keeps.size (λ q some. keeps.words q 0 (one_of q i d lt some) (omega arith))).1,
            bytes_same m after (blocks_of m e) sized keeps.size blocks (λ j below.
                let within : j / BLOCK_WORDS < length (blocks_of m e) = omega (arith, below) in
                let page = slice_index (blocks_of m e) (j / BLOCK_WORDS) in
                keeps.words page (1 + j % BLOCK_WORDS)
                (one_of page i d lt (count-index (blocks_of m e) (j / BLOCK_WORDS) within)) (omega arith)),
          ),
    )
  where
    one_of : (q i : ℕ) (d : Extent) → i < length es → 1 ≤ count q (blocks_of m (slice_index_or es i d)) → IsOf n q
    one_of q i d lt some = laid_of n m es laid q
        (let own = count_extent m q es i d lt in
        let parts = count-append q (free_chain m) (laid_out m es) in omega (arith, own, parts, some))
