-- The check of a layout that marks the last block of each chain.
use Rattle.std.proofs.Common.{refl, sym, ◌∙◌, ap, arith, ⊎_elim, append-nil}
use Rattle.std.proofs.lemmas.Bool.{cases_lt}
use Rattle.std.proofs.lemmas.List.{take_more, length-append}
use Rattle.std.proofs.lemmas.Nat.Bits.{bit_at-lt}
use Rattle.std.specs.Prelude.{◌≡◌, ◌≢◌, ◌<◌, ◌≤◌, ◌+◌, ◌-◌, ◌/◌, ◌%◌, ℕ, zero, suc, List, [], ◌∷◌, ◌++◌, length, take}
use Rattle.std.specs.Prelude.{slice_index, slice_index_or}
use Rattle.nvm_board.specs.Facts.{IsMemory}
use Rattle.nvm_board.specs.declared.board.TheConstants.{MOST_PAGES}
use Rattle.block_chain.specs.Chains.{chain, free_chain}
use Rattle.block_chain.specs.Counts.{count}
use Rattle.block_chain.specs.Layout.{blocks_of, laid_out, AreLaid}
use Rattle.block_chain.specs.ChainParts.{IsBlockPlace, times_marked, AreBlockMarks, IsUnmarkedChain, Marks}
use Rattle.block_chain.specs.declared.chain.Extent.{Extent}
use Rattle.block_chain.specs.declared.layout.TheConstants.{FREE_HEAD, FIRST_BLOCK_PAGE, MOST_BLOCKS}
use Rattle.block_chain.specs.laws.Counts.{count-append}
use Rattle.block_chain.specs.laws.Laying.{AreLaidSoFar, laid_out-nil, laid_out-append, laid_out-cons, leads_count}
use Rattle.block_chain.specs.laws.Laying.{laid_fresh, laid_fits}
use Rattle.block_chain.specs.laws.Chains.{leads_small}
use Rattle.tree_check.specs.declared.walk.Walked.{Walked}
use Rattle.tree_check.specs.WalkParts.{mark_of, EndsWithin, IsWalked, MarksEnd}
use Rattle.tree_check.proofs.ChainEnds.{end_of, end_in, ended_once, AreEnds, apart_from, more_ends}

-- the values of a function of the n numbers from a on
unfoldable pub listed : (ℕ → ℕ) → ℕ → ℕ → List ℕ
listed f a zero = []
listed f a (suc n) = f a ∷ listed f (a + 1) n

length-listed : (f : ℕ → ℕ) (a n : ℕ) → length (listed f a n) ≡ n
unfolding listed
length-listed f a zero = refl
length-listed f a (suc n) = let rest = length-listed f (a + 1) n in omega (arith, rest)

listed_at : (f : ℕ → ℕ) (a n k : ℕ) → k < n → slice_index (listed f a n) k ≡ f (a + k)
unfolding listed
listed_at f a zero k lt = absurd (omega arith)
listed_at f a (suc n) zero lt = ap f (let z : a ≡ a + zero = omega arith in z)
listed_at f a (suc n) (suc k) lt =
    let below : k < n = omega arith in
    listed_at f (a + 1) n k below ∙ ap f (let z : a + 1 + k ≡ a + suc k = omega arith in z)

-- marks that say how often a block stands somewhere
unfoldable pub marks_by : (ℕ → ℕ) → List ℕ
marks_by f = listed f FIRST_BLOCK_PAGE MOST_BLOCKS

pub marked_by : (f : ℕ → ℕ) (q : ℕ) → IsBlockPlace q → times_marked (marks_by f) q ≡ f q
unfolding marks_by
marked_by f q block =
    listed_at f FIRST_BLOCK_PAGE MOST_BLOCKS (q - FIRST_BLOCK_PAGE) (omega (arith, block.0, block.1))
    ∙ ap f (let z : FIRST_BLOCK_PAGE + (q - FIRST_BLOCK_PAGE) ≡ q = omega (arith, block.0) in z)

pub length-marks_by : (f : ℕ → ℕ) → length (marks_by f) ≡ MOST_BLOCKS
unfolding marks_by
length-marks_by f = length-listed f FIRST_BLOCK_PAGE MOST_BLOCKS

-- the marks of the chains so far, and of one more
unfoldable pub with_chain : List ℕ → List ℕ → List ℕ
with_chain seen ps = marks_by (λ q. times_marked seen q + count q ps)

pub with_chain_marks : (seen ps : List ℕ) → Marks seen ps (with_chain seen ps)
unfolding with_chain
with_chain_marks seen ps q block = marked_by (λ r. times_marked seen r + count r ps) q block

pub with_chain_fine : (end : ℕ) (m seen : List ℕ) (from : ℕ) → end ≤ MOST_PAGES → IsUnmarkedChain end m seen from
    → AreBlockMarks end (with_chain seen (chain m from))
unfolding with_chain
with_chain_fine end m seen from most fresh = record {
  room = (let size = length-marks_by (λ r. times_marked seen r + count r (chain m from)) in omega (arith, size, most));
  each = λ q block.
      let mark = marked_by (λ r. times_marked seen r + count r (chain m from)) q block in
      let once = fresh.once q block in
      omega (arith, mark, once);
}

-- no block is marked
unfoldable pub no_marks : List ℕ
no_marks = marks_by (λ _. 0)

pub no_mark : (q : ℕ) → IsBlockPlace q → times_marked no_marks q ≡ 0
unfolding no_marks
no_mark q block = marked_by (λ _. 0) q block

-- the free chain is the first
pub free_unmarked : (end most : ℕ) (m : List ℕ) → EndsWithin end most m (slice_index m FREE_HEAD)
    → IsUnmarkedChain end m no_marks (slice_index m FREE_HEAD)
free_unmarked end most m ends = record {
  leads = ends.leads;
  below = ends.below;
  once = λ q block. let none = no_mark q block in
      let once = ended_once m (slice_index m FREE_HEAD) (free_chain m) ends.leads q in omega (arith, none, once);
}

module _ (n : ℕ) (m : List ℕ) (es : List Extent) (i : ℕ) (seen : List ℕ) (blocks : ℕ) (ends : List ℕ)
    (so_far : AreLaidSoFar (FIRST_BLOCK_PAGE + n) m es i seen blocks)
    (are : AreEnds m ends (free_chain m ++ laid_out m (take i es))) where
  -- a chain whose last block is no last block of an earlier one
  pub unmarked : (most from : ℕ) → EndsWithin (FIRST_BLOCK_PAGE + n) most m from
      → (0 < length (chain m from) → mark_of ends (end_of (chain m from)) ≡ 0)
      → IsUnmarkedChain (FIRST_BLOCK_PAGE + n) m seen from
  unmarked most from ended fresh = record {
    leads = ended.leads;
    below = ended.below;
    once = λ q block.
        let marks = so_far.marks q block in
        let fine = so_far.fine.each q block in
        let once = ended_once m from (chain m from) ended.leads q in
        ⊎_elim
        (λ (some : 0 < count q (chain m from)).
        let none = apart_from m ends (free_chain m ++ laid_out m (take i es)) from (chain m from) are ended.leads
        fresh q (omega (arith, some)) in
        let z : times_marked seen q + count q (chain m from) ≤ 1 = omega (arith, marks, none, once) in z)
        (λ (none : count q (chain m from) ≤ 0).
        let z : times_marked seen q + count q (chain m from) ≤ 1 = omega (arith, fine, none) in z)
        (cases_lt 0 (count q (chain m from)));
  }

  -- the last block of a fresh chain is no last block of an earlier one
  pub end_unmarked : (from : ℕ) → IsMemory m → IsUnmarkedChain (FIRST_BLOCK_PAGE + n) m seen from
      → 0 < length (chain m from) → mark_of ends (end_of (chain m from)) ≡ 0
  end_unmarked from sized fresh some =
      let last : ℕ = end_of (chain m from) in
      ⊎_elim
      (λ (mark : 0 < mark_of ends last). absurd (
      let low = bit_at-lt (slice_index ends (last / 8)) (last % 8) in
      let earlier = are.marked last (let z : mark_of ends last ≡ 1 = omega (arith, mark, low) in z) in
      let here = end_in (chain m from) some in
      let block = leads_count m from 0 last (chain m from) fresh.leads here in
      let most = sized.most in
      let place : IsBlockPlace last = (block.0, let z : last < MOST_PAGES = omega (arith, block.1, most) in z) in
      let once = fresh.once last place in
      let marks = so_far.marks last place in
      omega (arith, earlier, here, once, marks)))
      (λ (none : mark_of ends last ≤ 0). let z : mark_of ends last ≡ 0 = omega (arith, none) in z)
      (cases_lt 0 (mark_of ends last))

  -- the blocks of one extent more
  pub more_counted : (e d : Extent) → i < length es → slice_index_or es i d ≡ e → (q : ℕ)
      → count q (free_chain m ++ laid_out m (take (i + 1) es))
      ≡ count q (free_chain m ++ laid_out m (take i es)) + count q (blocks_of m e)
  more_counted e d lt is q =
      let next : take (i + 1) es ≡ take i es ++ e ∷ [] =
      take_more es i d lt ∙ ap (λ (x : Extent). take i es ++ x ∷ []) is in
      let laid : laid_out m (take (i + 1) es) ≡ laid_out m (take i es) ++ blocks_of m e =
      ap (laid_out m) next ∙ laid_out-append m (take i es) (e ∷ [])
      ∙ ap (λ (ps : List ℕ). laid_out m (take i es) ++ ps)
      (laid_out-cons m e [] ∙ ap (λ (ps : List ℕ). blocks_of m e ++ ps) (laid_out-nil m)
      ∙ append-nil (blocks_of m e)) in
      let a = count-append q (free_chain m) (laid_out m (take (i + 1) es)) in
      let b = count-append q (free_chain m) (laid_out m (take i es)) in
      let c : count q (laid_out m (take (i + 1) es)) ≡ count q (laid_out m (take i es)) + count q (blocks_of m e) =
      ap (count q) laid ∙ count-append q (laid_out m (take i es)) (blocks_of m e) in
      omega (arith, a, b, c)

  -- where the memory is laid out, the next extent ends within the blocks that are left
  pub next_ends : (e d : Extent) (lt : i < length es) (is : slice_index_or es i d ≡ e) → AreLaid n m es
      → EndsWithin (FIRST_BLOCK_PAGE + n) (n - blocks) m e.chain.first
  next_ends e d lt is laid =
      let fresh = laid_fresh n m es i seen blocks e d lt is so_far laid in
      let fits = laid_fits n m es i seen blocks e d lt is so_far laid in
      let size = fresh.1.blocks in
      record { leads = fresh.0.leads; below = fresh.0.below; few = omega (arith, fits, size) }

-- and so does the free chain
pub free_ends : (n : ℕ) (m : List ℕ) (es : List Extent) → AreLaid n m es
    → EndsWithin (FIRST_BLOCK_PAGE + n) n m (slice_index m FREE_HEAD)
free_ends n m es laid = record {
  leads = laid.free;
  below = λ q past. let a = laid.below q past in let s = count-append q (free_chain m) (laid_out m es) in
      omega (arith, a, s);
  few = (let whole = laid.whole in let s = length-append (free_chain m) (laid_out m es) in omega (arith, whole, s));
}

module _ (end most : ℕ) (m : List ℕ) (from : ℕ) (w : Walked) (is : IsWalked end most m from w) where
  -- the last block of the chain that was walked over
  end_is : end_of (chain m from) ≡ w.last
  end_is = ap (λ (k : ℕ). slice_index (chain m from) (k - 1)) (sym is.blocks) ∙ sym is.last

  pub last_small : IsMemory m → w.last < MOST_PAGES
  last_small sized =
      let small = leads_small m from (chain m from) (w.blocks - 1) sized is.ends.leads in
      let last = is.last in
      omega (arith, small, last)

  pub fresh_end : (ends : List ℕ) → (w.blocks ≢ 0 → mark_of ends w.last ≡ 0)
      → 0 < length (chain m from) → mark_of ends (end_of (chain m from)) ≡ 0
  fresh_end ends fresh some =
      ap (λ (page : ℕ). mark_of ends page) end_is
      ∙ fresh (λ none. let size = is.blocks in let z : ⊥ = omega (arith, none, size, some) in z)

  pub end_fresh : (ends : List ℕ) → (0 < length (chain m from) → mark_of ends (end_of (chain m from)) ≡ 0)
      → w.blocks ≢ 0 → mark_of ends w.last ≡ 0
  end_fresh ends fresh some =
      ap (λ (page : ℕ). mark_of ends page) (sym end_is)
      ∙ fresh (let size = is.blocks in omega (arith, some, size))

  pub walked_ends : (ends new all after : List ℕ) → AreEnds m ends all → MarksEnd w ends new
      → ((q : ℕ) → count q after ≡ count q all + count q (chain m from)) → AreEnds m new after
  walked_ends ends new all after are marks parts =
      more_ends m ends all from (chain m from) are is.ends.leads new after
      (λ some. ap (λ (page : ℕ). mark_of new page) end_is
      ∙ marks.last (λ none. let size = is.blocks in let z : ⊥ = omega (arith, none, size, some) in z))
      (λ q apart. marks.others q (λ last. is.blocks ∙ apart (last ∙ sym end_is)))
      parts
