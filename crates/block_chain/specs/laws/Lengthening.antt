-- Pages behind the blocks that become blocks: they are linked in order, before the blocks that were free.
use Rattle.std.specs.Prelude.{◌≡◌, ◌<◌, ◌≤◌, ◌+◌, ◌/◌, ◌%◌, ℕ, zero, suc, Bool, if◌then◌else◌}
use Rattle.std.specs.Prelude.{List, ◌∷◌, ◌++◌, length, slice_index, slice_index_or, All}
use Rattle.std.specs.List.{range_with_len}
use Rattle.std.proofs.Common.{refl, sym, ◌∙◌, ap, subst, arith, inl, inr, ⊎_elim}
use Rattle.std.proofs.lemmas.Bool.{cases_lt}
use Rattle.std.proofs.lemmas.Bool.Decides.{eqb_tells}
use Rattle.std.proofs.lemmas.List.{length-append}
use Rattle.nvm_board.specs.Facts.{IsMemory, pages_of}
use Rattle.nvm_board.specs.laws.Sizes.{pages_same}
use Rattle.nvm_board.specs.declared.board.TheConstants.{PAGE_WORDS}
use Rattle.block_chain.specs.BlockWords.{link, word}
use Rattle.block_chain.specs.Counts.{count}
use Rattle.block_chain.specs.Chains.{Leads, free_chain}
use Rattle.block_chain.specs.ChainChanges.{AreLinked}
use Rattle.block_chain.specs.Layout.{IsOf, IsExtent, AreLaid, SameBytes, blocks_of, laid_out}
use Rattle.block_chain.specs.declared.chain.Extent.{Extent}
use Rattle.block_chain.specs.declared.layout.TheConstants.{FREE_HEAD, FIRST_BLOCK_PAGE, MOST_BLOCKS, BLOCK_WORDS}
use Rattle.block_chain.specs.laws.Chains.{leads_same, leads_then, pages_are}
use Rattle.block_chain.specs.laws.Counts.{count-index, count-append, count-here, count-other, count-nil}
use Rattle.block_chain.specs.laws.Footprints.{extent_kept, extents_kept, bytes_same}
use Rattle.block_chain.specs.laws.Bytes.{leads_blocks}
use Rattle.block_chain.specs.laws.Extents.{count_extent}
use Rattle.block_chain.specs.laws.Laying.{laid_of}

-- pages in a row
length-row : (a k : ℕ) → length (range_with_len a k) ≡ k
length-row a zero = refl
length-row a (suc k) = let rest = length-row (a + 1) k in omega (arith, rest)

count-low : (q a k : ℕ) → q < a → count q (range_with_len a k) ≡ 0
count-low q a zero low = count-nil q
count-low q a (suc k) low =
    count-other q a (range_with_len (a + 1) k) (λ is. let z : ⊥ = omega (arith, is, low) in z)
    ∙ count-low q (a + 1) k (omega (arith, low))

count-past : (q a k : ℕ) → a + k ≤ q → count q (range_with_len a k) ≡ 0
count-past q a zero past = count-nil q
count-past q a (suc k) past =
    count-other q a (range_with_len (a + 1) k) (λ is. let z : ⊥ = omega (arith, is, past) in z)
    ∙ count-past q (a + 1) k (omega (arith, past))

count-row : (q a k : ℕ) → count q (range_with_len a k) ≤ 1
count-row q a zero = let none = count-nil q in omega (arith, none)
count-row q a (suc k) = elim (eqb_tells q a) [
  | inl same ↦
      let here : count q (a ∷ range_with_len (a + 1) k) ≡ count a (a ∷ range_with_len (a + 1) k) =
      ap (λ (r : ℕ). count r (a ∷ range_with_len (a + 1) k)) same.1 in
      let one = count-here a (range_with_len (a + 1) k) in
      let none = count-low a (a + 1) k (omega arith) in
      omega (arith, here, one, none)
  | inr other ↦
      let away = count-other q a (range_with_len (a + 1) k) other.1 in
      let rest = count-row q (a + 1) k in
      omega (arith, away, rest)
]

-- the links lead over pages in a row
row-leads : (m : List ℕ) (first a k end rest : ℕ) → AreLinked first end rest m → FIRST_BLOCK_PAGE ≤ first → first ≤ a
    → a + suc k ≡ end → end ≤ pages_of m → Leads m a (range_with_len a (suc k)) rest
row-leads m first a zero end rest linked low from all inside =
    let last : link m a ≡ rest = linked a from (omega (arith, all)) ∙ (elim (eqb_tells (a + 1) end) [
      | inl same ↦ ap (λ (b : Bool). if b then rest else a + 1) same.0
      | inr other ↦ absurd (other.1 (omega (arith, all)))
    ]) in
    (refl, (omega (arith, low, from), omega (arith, all, inside)), last)
row-leads m first a (suc k) end rest linked low from all inside =
    let next : link m a ≡ a + 1 = linked a from (omega (arith, all)) ∙ (elim (eqb_tells (a + 1) end) [
      | inl same ↦ absurd (let is = same.1 in omega (arith, is, all))
      | inr other ↦ ap (λ (b : Bool). if b then rest else a + 1) other.0
    ]) in
    let family : ℕ → Type 0 = λ p. Leads m p (range_with_len (a + 1) (suc k)) rest in (
      refl,
      (omega (arith, low, from), omega (arith, all, inside)),
      subst family (sym next)
          (row-leads m first (a + 1) k end rest linked low (omega (arith, from)) (omega (arith, all)) inside),
    )

-- More blocks: the pages behind the n blocks are linked in order, the last to the block that was free first, and the
-- header names the first of them; the links of the n blocks stay.
module _ (n k : ℕ) (m after : List ℕ) (es : List Extent) (laid : AreLaid n m es) (size : length after ≡ length m)
    (sized : IsMemory m) (fits : FIRST_BLOCK_PAGE + n + suc k ≤ pages_of m)
    (links : (q : ℕ) → q < FIRST_BLOCK_PAGE + n → FIRST_BLOCK_PAGE ≤ q → link after q ≡ link m q)
    (head : slice_index after FREE_HEAD ≡ FIRST_BLOCK_PAGE + n)
    (linked : AreLinked (FIRST_BLOCK_PAGE + n) (FIRST_BLOCK_PAGE + n + suc k) (slice_index m FREE_HEAD) after) where
  abbrev row : List ℕ
  row = range_with_len (FIRST_BLOCK_PAGE + n) (suc k)

  pages : pages_of after ≡ pages_of m
  pages = pages_same m after size

  old-same : (q : ℕ) → 1 ≤ count q (free_chain m ++ laid_out m es) → link after q ≡ link m q
  old-same q some = let is = laid_of n m es laid q some in links q is.1 is.0

  old-free : Leads after (slice_index m FREE_HEAD) (free_chain m) 0
  old-free = leads_same m after (slice_index m FREE_HEAD) 0 (free_chain m) size
      (λ q some. old-same q (let parts = count-append q (free_chain m) (laid_out m es) in omega (arith, parts, some)))
      laid.free

  extents-stay : All (IsExtent after) es × (laid_out after es ≡ laid_out m es)
  extents-stay = extents_kept m after es laid.each size
      (λ q some. old-same q (let parts = count-append q (free_chain m) (laid_out m es) in omega (arith, parts, some)))

  new-free : Leads after (slice_index after FREE_HEAD) (row ++ free_chain m) 0
  new-free =
      let from : ℕ → Type 0 = λ p. Leads after p (row ++ free_chain m) 0 in
      subst from (sym head) (leads_then after (FIRST_BLOCK_PAGE + n) (slice_index m FREE_HEAD) 0 row (free_chain m)
      (row-leads after (FIRST_BLOCK_PAGE + n) (FIRST_BLOCK_PAGE + n) k (FIRST_BLOCK_PAGE + n + suc k)
      (slice_index m FREE_HEAD) linked (omega arith) (omega arith) (omega arith) (omega (arith, fits, pages)))
      old-free)

  -- the free chain is the new blocks, and then those that were free
  pub longer_free : free_chain after ≡ range_with_len (FIRST_BLOCK_PAGE + n) (suc k) ++ free_chain m
  longer_free = pages_are after MOST_BLOCKS (slice_index after FREE_HEAD) (row ++ free_chain m) new-free
      (let long = length-append row (free_chain m) in
      let many = length-row (FIRST_BLOCK_PAGE + n) (suc k) in
      let whole = laid.whole in
      let parts = length-append (free_chain m) (laid_out m es) in
      let most = sized.most in
      omega (arith, long, many, whole, parts, most, fits))

  -- and the layout has so many blocks more
  pub longer_laid : AreLaid (n + suc k) after es × (laid_out after es ≡ laid_out m es)
  longer_laid =
      let family : List ℕ → Type 0 = λ ps. Leads after (slice_index after FREE_HEAD) ps 0 in
      let counted : (q : ℕ) → count q (free_chain after ++ laid_out after es)
      ≡ count q row + count q (free_chain m ++ laid_out m es) = λ q.
      let a = count-append q (free_chain after) (laid_out after es) in
      let b = ap (count q) longer_free ∙ count-append q row (free_chain m) in
      let c = ap (count q) extents-stay.1 in
      let d = count-append q (free_chain m) (laid_out m es) in
      omega (arith, a, b, c, d) in (
        record {
          inside = (let same = pages in omega (arith, same, fits));
          free = subst family (sym longer_free) new-free;
          each = extents-stay.0;
          below = λ q past.
              let a = counted q in
              let b = count-past q (FIRST_BLOCK_PAGE + n) (suc k) (omega (arith, past)) in
              let c = laid.below q (omega (arith, past)) in
              omega (arith, a, b, c);
          once = λ q.
              let a = counted q in
              let most = laid.once q in
              ⊎_elim
              (λ (low : q < FIRST_BLOCK_PAGE + n).
              let none = count-low q (FIRST_BLOCK_PAGE + n) (suc k) low in omega (arith, a, most, none))
              (λ (past : FIRST_BLOCK_PAGE + n ≤ q).
              let none = laid.below q past in
              let one = count-row q (FIRST_BLOCK_PAGE + n) (suc k) in omega (arith, a, none, one))
              (cases_lt q (FIRST_BLOCK_PAGE + n));
          whole =
              let a = length-append (free_chain after) (laid_out after es) in
              let b = ap (λ (ps : List ℕ). length ps) longer_free ∙ length-append row (free_chain m) in
              let c = ap (λ (ps : List ℕ). length ps) extents-stay.1 in
              let d = length-append (free_chain m) (laid_out m es) in
              let many = length-row (FIRST_BLOCK_PAGE + n) (suc k) in
              let whole = laid.whole in
              omega (arith, a, b, c, d, many, whole);
        },
        extents-stay.1,
      )

-- Where the words of the n blocks stay, the extents keep their bytes.
pub bytes_stay : (n : ℕ) (m after : List ℕ) (es : List Extent) → IsMemory m → AreLaid n m es
    → length after ≡ length m
    → ((page place : ℕ) → IsOf n page → place < PAGE_WORDS → word after page place ≡ word m page place)
    → All (SameBytes m after) es
bytes_stay n m after es sized laid size words i d lt =
    let e = slice_index_or es i d in
    let is : IsExtent m e = laid.each i d lt in
    let blocks = leads_blocks m _ 0 (blocks_of m e) is.leads in (
      (extent_kept m after e is size (λ q some. words q 0 (one_of q some) (omega arith))).1,
      bytes_same m after (blocks_of m e) sized size blocks (λ j below.
          let within : j / BLOCK_WORDS < length (blocks_of m e) = omega (arith, below) in
          let page = slice_index (blocks_of m e) (j / BLOCK_WORDS) in
          words page (1 + j % BLOCK_WORDS)
          (one_of page (count-index (blocks_of m e) (j / BLOCK_WORDS) within)) (omega arith)),
    )
  where
    one_of : (q : ℕ) → 1 ≤ count q (blocks_of m (slice_index_or es i d)) → IsOf n q
    one_of q some = laid_of n m es laid q
        (let own = count_extent m q es i d lt in
        let parts = count-append q (free_chain m) (laid_out m es) in omega (arith, own, parts, some))
