-- Laws of the extents of a layout: each is a chain, and any of them are chains apart that can be given back.
use Rattle.std.specs.Prelude.{◌≡◌, ◌<◌, ◌≤◌, ◌+◌, ◌-◌, ℕ, zero, suc, List, [], ◌∷◌, ◌++◌, length, slice_index}
use Rattle.std.specs.Prelude.{slice_index_or, All}
use Rattle.std.proofs.Common.{sym, ◌∙◌, ap, arith}
use Rattle.std.proofs.lemmas.List.{length-append}
use Rattle.std.proofs.lemmas.List.Elements.{All-append}
use Rattle.block_chain.specs.declared.layout.TheConstants.{FREE_HEAD, MOST_BLOCKS}
use Rattle.block_chain.specs.declared.chain.Extent.{Extent}
use Rattle.block_chain.specs.Counts.{count}
use Rattle.block_chain.specs.Chains.{free_chain, laid, IsChain, HasFree, IsWhole, AreApart}
use Rattle.block_chain.specs.Layout.{blocks_of, laid_out, chains_of, IsExtent, AreLaid, AreSplit}
use Rattle.block_chain.specs.laws.Counts.{count-append, count-nil}
use Rattle.block_chain.specs.laws.Joining.{laid-nil, laid-cons}
use Rattle.block_chain.specs.laws.Laying.{pages_most, laid_out-nil, laid_out-cons, laid_out-append}

-- the free blocks of a layout are a chain
pub laid_has_free : (n : ℕ) (m : List ℕ) (es : List Extent) → AreLaid n m es → HasFree m
laid_has_free n m es laid = record {
  leads = laid.free;
  once = λ q. let most =
      laid.once q in let parts = count-append q (free_chain m) (laid_out m es) in omega (arith, most, parts);
  size = pages_most m MOST_BLOCKS (slice_index m FREE_HEAD);
}

-- what holds of each of two lists, laid end to end
pub all_left : (P : Extent → Type 0) (xs ys : List Extent) → All P (xs ++ ys) → All P xs
all_left P [] ys all i d lt = absurd (omega (arith, lt))
all_left P (x ∷ xs) ys all zero d lt = all zero d (let a = length-append xs ys in omega (arith, a))
all_left P (x ∷ xs) ys all (suc i) d lt =
    all_left P xs ys (λ k c below. all (suc k) c (omega (arith, below))) i d (omega (arith, lt))

pub all_right : (P : Extent → Type 0) (xs ys : List Extent) → All P (xs ++ ys) → All P ys
all_right P [] ys all = all
all_right P (x ∷ xs) ys all = all_right P xs ys (λ k c below. all (suc k) c (omega (arith, below)))

-- what holds of all holds of all but one
pub all_around : (P : Extent → Type 0) (xs ys : List Extent) (e : Extent) → All P (xs ++ e ∷ ys) → All P (xs ++ ys)
all_around P xs ys e each = All-append P xs ys (all_left P xs (e ∷ ys) each)
    (λ i d lt. all_right P xs (e ∷ ys) each (suc i) d (omega (arith, lt)))

-- how often a block stands in extents around one
module _ (m : List ℕ) (xs ys : List Extent) (e : Extent) where
  pub count-around : (q : ℕ)
      → count q (laid_out m (xs ++ e ∷ ys)) ≡ count q (laid_out m (xs ++ ys)) + count q (blocks_of m e)
  count-around q =
      let a : count q (laid_out m (xs ++ e ∷ ys)) ≡ count q (laid_out m xs) + count q (laid_out m (e ∷ ys)) =
      ap (count q) (laid_out-append m xs (e ∷ ys)) ∙ count-append q (laid_out m xs) (laid_out m (e ∷ ys)) in
      let b : count q (laid_out m (e ∷ ys)) ≡ count q (blocks_of m e) + count q (laid_out m ys) =
      ap (count q) (laid_out-cons m e ys) ∙ count-append q (blocks_of m e) (laid_out m ys) in
      let c : count q (laid_out m (xs ++ ys)) ≡ count q (laid_out m xs) + count q (laid_out m ys) =
      ap (count q) (laid_out-append m xs ys) ∙ count-append q (laid_out m xs) (laid_out m ys) in
      omega (arith, a, b, c)

  pub length-around : length (laid_out m (xs ++ e ∷ ys)) ≡ length (laid_out m (xs ++ ys)) + length (blocks_of m e)
  length-around =
      let a : length (laid_out m (xs ++ e ∷ ys)) ≡ length (laid_out m xs) + length (laid_out m (e ∷ ys)) =
      ap (λ (ps : List ℕ). length ps) (laid_out-append m xs (e ∷ ys))
      ∙ length-append (laid_out m xs) (laid_out m (e ∷ ys)) in
      let b : length (laid_out m (e ∷ ys)) ≡ length (blocks_of m e) + length (laid_out m ys) =
      ap (λ (ps : List ℕ). length ps) (laid_out-cons m e ys) ∙ length-append (blocks_of m e) (laid_out m ys) in
      let c : length (laid_out m (xs ++ ys)) ≡ length (laid_out m xs) + length (laid_out m ys) =
      ap (λ (ps : List ℕ). length ps) (laid_out-append m xs ys) ∙ length-append (laid_out m xs) (laid_out m ys) in
      omega (arith, a, b, c)

-- an extent's blocks are some of those of all extents
pub count_extent : (m : List ℕ) (q : ℕ) (es : List Extent) (i : ℕ) (d : Extent) → i < length es
    → count q (blocks_of m (slice_index_or es i d)) ≤ count q (laid_out m es)
count_extent m q [] i d lt = absurd (omega (arith, lt))
count_extent m q (e ∷ es) zero d lt =
    let parts = ap (count q) (laid_out-cons m e es) ∙ count-append q (blocks_of m e) (laid_out m es) in
    omega (arith, parts)
count_extent m q (e ∷ es) (suc i) d lt =
    let parts = ap (count q) (laid_out-cons m e es) ∙ count-append q (blocks_of m e) (laid_out m es) in
    let rest = count_extent m q es i d (omega (arith, lt)) in
    omega (arith, parts, rest)

-- each extent of a layout is a chain
pub laid_chains : (n : ℕ) (m : List ℕ) (es : List Extent) → AreLaid n m es
    → All (λ e. IsChain m e.chain.first (blocks_of m e)) es
laid_chains n m es laid i d lt = record {
  leads = (laid.each i d lt).leads;
  once = λ q.
      let own = count_extent m q es i d lt in
      let most = laid.once q in
      let parts = count-append q (free_chain m) (laid_out m es) in
      omega (arith, own, most, parts);
  size = pages_most m MOST_BLOCKS (slice_index_or es i d).chain.first;
}

-- an extent that has blocks is a whole chain
pub extent_whole : (m : List ℕ) (e : Extent) → IsExtent m e → 1 ≤ e.blocks → IsWhole m e.chain
extent_whole m e is some = record {
  leads = is.leads;
  some = (let long = is.blocks in omega (arith, long, some));
  last = is.last ∙ sym (ap (λ (n : ℕ). slice_index (blocks_of m e) (n - 1)) is.blocks);
}

extents_whole : (m : List ℕ) (es : List Extent) → All (IsExtent m) es → All (λ e. 1 ≤ e.blocks) es
    → All (IsWhole m) (chains_of es)
extents_whole m [] each some i d lt = absurd (omega (arith, lt))
extents_whole m (e ∷ es) each some zero d lt = extent_whole m e (each 0 e (omega arith)) (some 0 e (omega arith))
extents_whole m (e ∷ es) each some (suc i) d lt =
    extents_whole m es (λ k x below. each (suc k) x (omega (arith, below)))
    (λ k x below. some (suc k) x (omega (arith, below)))
    i d (omega (arith, lt))

-- the blocks of extents are those of their chains
pub laid_chains_of : (m : List ℕ) (es : List Extent) → laid m (chains_of es) ≡ laid_out m es
laid_chains_of m [] = laid-nil m ∙ sym (laid_out-nil m)
laid_chains_of m (e ∷ es) =
    laid-cons m e.chain (chains_of es) ∙ ap (λ (ps : List ℕ). blocks_of m e ++ ps) (laid_chains_of m es)
    ∙ sym (laid_out-cons m e es)

-- Some of the extents of a layout, each with blocks, are chains apart.
pub laid_apart : (n : ℕ) (m : List ℕ) (es given kept : List Extent) → n ≤ MOST_BLOCKS → AreLaid n m es
    → AreSplit m es given kept → All (IsExtent m) given → All (λ e. 1 ≤ e.blocks) given → AreApart m (chains_of given)
laid_apart n m es given kept fits laid_before split each some = record {
  each = extents_whole m given each some;
  once = λ q.
      let one = ap (count q) (laid_chains_of m given) in
      let all = count-append q (laid m (chains_of given)) (free_chain m) in
      let most = laid_before.once q in
      let parts = count-append q (free_chain m) (laid_out m es) in
      let cut = split.blocks q in
      omega (arith, one, all, most, parts, cut);
  size =
      let one = ap (λ (ps : List ℕ). length ps) (laid_chains_of m given) in
      let all = length-append (laid m (chains_of given)) (free_chain m) in
      let whole = laid_before.whole in
      let parts = length-append (free_chain m) (laid_out m es) in
      let cut = split.size in
      omega (arith, one, all, whole, parts, cut, fits);
}

-- No extents are split into none, and an extent more is one of either part.
pub split_none : (m : List ℕ) → AreSplit m [] [] []
split_none m =
    let none = laid_out-nil m in
    let long = ap (λ (ps : List ℕ). length ps) none in
    record {
      blocks = λ q. let a = ap (count q) none in let b = count-nil q in omega (arith, a, b);
      size = omega (arith, long);
    }

module _ (m : List ℕ) (e : Extent) (es given kept : List Extent) (split : AreSplit m es given kept) where
  counted : (q : ℕ) (xs : List Extent)
      → count q (laid_out m (e ∷ xs)) ≡ count q (blocks_of m e) + count q (laid_out m xs)
  counted q xs = ap (count q) (laid_out-cons m e xs) ∙ count-append q (blocks_of m e) (laid_out m xs)

  measured : (xs : List Extent) → length (laid_out m (e ∷ xs)) ≡ length (blocks_of m e) + length (laid_out m xs)
  measured xs = ap (λ (ps : List ℕ). length ps) (laid_out-cons m e xs) ∙ length-append (blocks_of m e) (laid_out m xs)

  pub split_given : AreSplit m (e ∷ es) (e ∷ given) kept
  split_given = record {
    blocks = λ q. let a = counted q es in let b = counted q given in let c = split.blocks q in omega (arith, a, b, c);
    size = (let a = measured es in let b = measured given in let c = split.size in omega (arith, a, b, c));
  }

  pub split_kept : AreSplit m (e ∷ es) given (e ∷ kept)
  split_kept = record {
    blocks = λ q. let a = counted q es in let b = counted q kept in let c = split.blocks q in omega (arith, a, b, c);
    size = (let a = measured es in let b = measured kept in let c = split.size in omega (arith, a, b, c));
  }
