-- Laws of a check of the layout that goes from extent to extent.
use Rattle.std.proofs.Common.{refl, sym, ◌∙◌, ap, subst, arith, inl, inr, ⊎_elim, append-nil}
use Rattle.std.proofs.Math.ListN.{get_or-append}
use Rattle.std.proofs.Math.Seq.{take-length}
use Rattle.std.proofs.lemmas.Bool.{cases_lt}
use Rattle.std.proofs.lemmas.Bool.Decides.{eqb_tells}
use Rattle.std.proofs.lemmas.Grind.{flat_map-append}
use Rattle.std.proofs.lemmas.List.{length-append, take_more, take-append-drop, get_or_past, get_or_push}
use Rattle.std.specs.Prelude.{◌≡◌, ◌≢◌, ◌<◌, ◌≤◌, ◌+◌, ℕ, zero, suc, Bool, if◌then◌else◌, List, [], ◌∷◌, ◌++◌}
use Rattle.std.specs.Prelude.{length, slice_index, slice_index_or, replicate, take, drop, All}
use Rattle.block_chain.specs.Chains.{Leads, pages_from, free_chain}
use Rattle.block_chain.specs.Counts.{count}
use Rattle.nvm_board.specs.Facts.{IsMemory, pages_of}
use Rattle.block_chain.specs.Layout.{IsOf, blocks_of, laid_out, IsExtent, AreLaid}
use Rattle.block_chain.specs.ChainParts.{IsBlockPlace, times_marked, AreBlockMarks, Marks, IsUnmarkedChain}
use Rattle.block_chain.specs.BlockWords.{link, IsBlock}
use Rattle.block_chain.specs.declared.chain.Extent.{Extent}
use Rattle.block_chain.specs.declared.layout.TheConstants.{FREE_HEAD, FIRST_BLOCK_PAGE}
use Rattle.block_chain.specs.laws.Counts.{count-append, count-nil, count-other}

-- what stands on a way is a block
pub leads_count : (m : List ℕ) (from to q : ℕ) (ps : List ℕ) → Leads m from ps to → 1 ≤ count q ps → IsBlock m q
leads_count m from to q [] leads some = absurd (let none = count-nil q in omega (arith, none, some))
leads_count m from to q (p ∷ ps) leads some = elim (eqb_tells q p) [
  | inl same ↦ let family : ℕ → Type 0 = λ r. IsBlock m r in subst family (sym same.1) leads.1
  | inr other ↦ leads_count m (link m p) to q ps leads.2 (let e = count-other q p ps other.1 in omega (arith, e, some))
]

-- a chain has at most as many blocks as there are
pub pages_most : (m : List ℕ) (n page : ℕ) → length (pages_from m n page) ≤ n
unfolding pages_from
pages_most m zero page = omega arith
pages_most m (suc n) page = elim (eqb_tells page 0) [
  | inl same ↦ let e : length (pages_from m (suc n) page) ≡ 0 =
      ap (λ (b : Bool). length (if b then [] else page ∷ pages_from m n (link m page))) same.0 in omega (arith, e)
  | inr other ↦
      let e : length (pages_from m (suc n) page) ≡ suc (length (pages_from m n (link m page))) =
      ap (λ (b : Bool). length (if b then [] else page ∷ pages_from m n (link m page))) other.0 in
      let rest = pages_most m n (link m page) in omega (arith, e, rest)
]

-- new marks are blank
pub blank_marks : (n place : ℕ) → slice_index (replicate n 0) place ≡ 0
blank_marks zero place = get_or_past [] place 0 (omega arith)
blank_marks (suc n) zero = refl
blank_marks (suc n) (suc place) = blank_marks n place

pub laid_out-nil : (m : List ℕ) → laid_out m [] ≡ []
unfolding laid_out
laid_out-nil m = refl

pub laid_out-append : (m : List ℕ) (es fs : List Extent) → laid_out m (es ++ fs) ≡ laid_out m es ++ laid_out m fs
unfolding laid_out
laid_out-append m es fs = flat_map-append (blocks_of m) es fs

pub laid_out-cons : (m : List ℕ) (e : Extent) (es : List Extent) → laid_out m (e ∷ es) ≡ blocks_of m e ++ laid_out m es
unfolding laid_out
laid_out-cons m e es = refl

-- what stands in extents is a block
pub laid_count : (m : List ℕ) (q : ℕ) (es : List Extent) → All (IsExtent m) es → 1 ≤ count q (laid_out m es)
    → IsBlock m q
laid_count m q [] each some =
    absurd (let none : count q (laid_out m []) ≡ 0 = ap (count q) (laid_out-nil m)
    ∙ count-nil q in omega (arith, none, some))
laid_count m q (e ∷ es) each some =
    let parts : count q (laid_out m (e ∷ es)) ≡ count q (blocks_of m e) + count q (laid_out m es) =
    ap (count q) (laid_out-cons m e es) ∙ count-append q (blocks_of m e) (laid_out m es) in
    ⊎_elim
    (λ (here : 0 < count q (blocks_of m e)). leads_count m e.chain.first 0 q (blocks_of m e)
    (each 0 e (omega arith)).leads (omega (arith, here)))
    (λ (none : count q (blocks_of m e) ≤ 0). laid_count m q es (λ i d lt. each (suc i) d (omega (arith, lt)))
    (omega (arith, none, parts, some)))
    (cases_lt 0 (count q (blocks_of m e)))

-- what is laid is one of the n blocks
pub laid_of : (n : ℕ) (m : List ℕ) (es : List Extent) → AreLaid n m es → (q : ℕ)
    → 1 ≤ count q (free_chain m ++ laid_out m es) → IsOf n q
laid_of n m es laid q some =
    let parts = count-append q (free_chain m) (laid_out m es) in (
      ⊎_elim
          (λ (here : 0 < count q (free_chain m)). (leads_count m
          _ 0 q (free_chain m) laid.free (omega (arith, here))).0) (λ (none : count q (free_chain m) ≤ 0).
          (laid_count m q es laid.each (omega (arith, none, parts, some))).0) (cases_lt 0 (count q (free_chain m))),
      ⊎_elim
          (λ (lt : q < FIRST_BLOCK_PAGE + n). lt)
          (λ (past : FIRST_BLOCK_PAGE + n ≤ q). absurd (let none = laid.below q past in omega (arith, none, some)))
          (cases_lt q (FIRST_BLOCK_PAGE + n)),
    )

-- the first i extents are laid, with blocks before the page `end`, and their blocks are marked
pub record AreLaidSoFar (end : ℕ) (m : List ℕ) (es : List Extent) (i : ℕ) (seen : List ℕ) (blocks : ℕ) : Type 0 where
  pub free : Leads m (slice_index m FREE_HEAD) (free_chain m) 0
  pub each : All (IsExtent m) (take i es)
  pub below : (q : ℕ) → end ≤ q → count q (free_chain m ++ laid_out m (take i es)) ≡ 0
  pub marks : (q : ℕ) → IsBlockPlace q → times_marked seen q ≡ count q (free_chain m ++ laid_out m (take i es))
  pub fine : AreBlockMarks end seen
  pub blocks_are : blocks ≡ length (free_chain m ++ laid_out m (take i es))

module _ (n : ℕ) (m : List ℕ) (es : List Extent) where
  abbrev end : ℕ
  end = FIRST_BLOCK_PAGE + n

  -- the free chain alone
  pub laid_free : (none seen : List ℕ) (blocks : ℕ) → IsUnmarkedChain end m none (slice_index m FREE_HEAD)
      → ((q : ℕ) → IsBlockPlace q → times_marked none q ≡ 0) → Marks none (free_chain m) seen → AreBlockMarks end seen
      → blocks ≡ length (free_chain m) → AreLaidSoFar end m es 0 seen blocks
  laid_free none seen blocks fresh blank marks fine long =
      let all : free_chain m ++ laid_out m [] ≡ free_chain m ++ [] =
      ap (λ (ps : List ℕ). free_chain m ++ ps) (laid_out-nil m) in
      record {
        free = fresh.leads;
        each = λ i d lt. absurd (omega (arith, lt));
        below = λ q past.
            let a = ap (count q) all in let b = count-append q (free_chain m) [] in let c = count-nil q in
            let none = fresh.below q past in omega (arith, a, b, c, none);
        marks = λ q is.
            let a = ap (count q) all in let b = count-append q (free_chain m) [] in let c = count-nil q in
            let marked_now = marks q is in let was = blank q is in
            omega (arith, a, b, c, marked_now, was);
        fine = fine;
        blocks_are =
            (let a = ap (λ (ps : List ℕ). length ps) all in let b =
            length-append (free_chain m) [] in omega (arith, a, b, long));
      }

  module _ (i : ℕ) (seen : List ℕ) (blocks : ℕ) (e d : Extent) (lt : i < length es) (is : slice_index_or es i d ≡ e)
      (so_far : AreLaidSoFar end m es i seen blocks) where
    next_is : take (i + 1) es ≡ take i es ++ e ∷ []
    next_is = take_more es i d lt ∙ ap (λ (x : Extent). take i es ++ x ∷ []) is

    next_laid : laid_out m (take (i + 1) es) ≡ laid_out m (take i es) ++ blocks_of m e
    next_laid = ap (laid_out m) next_is ∙ laid_out-append m (take i es) (e ∷ [])
        ∙ ap (λ (ps : List ℕ). laid_out m (take i es) ++ ps)
        (laid_out-cons m e [] ∙ ap (λ (ps : List ℕ). blocks_of m e ++ ps) (laid_out-nil m) ∙ append-nil (blocks_of m e))

    next_count : (q : ℕ)
        → count q (free_chain m ++ laid_out m (take (i + 1) es)) ≡ count q
        (free_chain m ++ laid_out m (take i es)) + count q (blocks_of m e)
    next_count q =
        let a = count-append q (free_chain m) (laid_out m (take (i + 1) es)) in
        let b = count-append q (free_chain m) (laid_out m (take i es)) in
        let c : count q (laid_out m (take (i + 1) es)) ≡ count q (laid_out m (take i es)) + count q (blocks_of m e) =
        ap (count q) next_laid ∙ count-append q (laid_out m (take i es)) (blocks_of m e) in
        omega (arith, a, b, c)

    -- one extent more
    pub laid_more : (new : List ℕ) → IsExtent m e → IsUnmarkedChain end m seen e.chain.first
        → Marks seen (blocks_of m e) new
        → AreBlockMarks end new → AreLaidSoFar end m es (i + 1) new (blocks + e.blocks)
    laid_more new extent fresh marks fine = record {
      free = so_far.free;
      each = λ k d below. each_next k d (let l = ap (λ (xs : List Extent). length xs) next_is in let a = length-append
          (take i es) (e ∷ []) in let z : k < length (take i es) + 1 = omega (arith, below, l, a) in z);
      below = λ q past. let a = so_far.below q past in let b = fresh.below q past in let c = next_count q in
          omega (arith, a, b, c);
      marks = λ q block. let a =
          so_far.marks q block in let b = marks q block in let c = next_count q in omega (arith, a, b, c);
      fine = fine;
      blocks_are = (
          let a = so_far.blocks_are in
          let b = length-append (free_chain m) (laid_out m (take (i + 1) es)) in
          let c = length-append (free_chain m) (laid_out m (take i es)) in
          let d : length (laid_out m (take (i + 1) es)) ≡ length (laid_out m (take i es)) + length (blocks_of m e) =
          ap (λ (ps : List ℕ). length ps) next_laid ∙ length-append (laid_out m (take i es)) (blocks_of m e) in
          let x = extent.blocks in
          omega (arith, a, b, c, d, x));
    }
      where
        each_next : (k : ℕ) (d : Extent) → k < length (take i es) + 1
            → IsExtent m (slice_index_or (take (i + 1) es) k d)
        each_next k d below =
            let family : List Extent → Type 0 = λ xs. IsExtent m (slice_index_or xs k d) in
            subst family (sym next_is) (⊎_elim
            (λ (before : k < length (take i es)). let one : Extent
            → Type 0 = λ x. IsExtent m x in
            subst one (sym (get_or-append (take i es) (e ∷ []) d k before)) (so_far.each k d before))
            (λ (from : length (take i es) ≤ k). let here : length (take i es) ≡ k =
            omega (arith, below, from) in let one : Extent → Type 0 = λ x. IsExtent m x in
            subst one (sym (get_or_push (take i es) e d k here)) extent)
            (cases_lt k (length (take i es))))

    -- where the memory is laid out, the next extent is fresh
    pub laid_fresh : AreLaid n m es → IsUnmarkedChain end m seen e.chain.first × IsExtent m e
    laid_fresh laid =
        let one : Extent → Type 0 = λ x. IsExtent m x in
        let extent : IsExtent m e = subst one is (laid.each i d lt) in (
          record {
            leads = extent.leads;
            below = λ q past.
                let b = next_count q in
                let none = laid.below q past in
                let c = count-append q (free_chain m) (laid_out m es) in
                let d = count-append q (free_chain m) (laid_out m (take (i + 1) es)) in
                let split : count q (laid_out m es) ≡ count q (laid_out m (take (i + 1) es)) + count q
                (laid_out m (drop (i + 1) es)) =
                ap (λ (xs : List Extent). count q (laid_out m xs)) (sym (take-append-drop (i + 1) es))
                ∙ ap (count q) (laid_out-append m (take (i + 1) es) (drop (i + 1) es))
                ∙ count-append q (laid_out m (take (i + 1) es)) (laid_out m (drop (i + 1) es)) in
                omega (arith, b, none, c, d, split);
            once = λ q block.
                let a = so_far.marks q block in
                let b = next_count q in
                let most = laid.once q in
                let c = count-append q (free_chain m) (laid_out m es) in
                let d = count-append q (free_chain m) (laid_out m (take (i + 1) es)) in
                let split : count q (laid_out m es) ≡ count q (laid_out m (take (i + 1) es)) + count q
                (laid_out m (drop (i + 1) es)) =
                ap (λ (xs : List Extent). count q (laid_out m xs)) (sym (take-append-drop (i + 1) es))
                ∙ ap (count q) (laid_out-append m (take (i + 1) es) (drop (i + 1) es))
                ∙ count-append q (laid_out m (take (i + 1) es)) (laid_out m (drop (i + 1) es)) in
                omega (arith, a, b, most, c, d, split);
          },
          extent,
        )

    -- then the blocks so far and its own are not more than there are
    pub laid_fits : AreLaid n m es → blocks + e.blocks ≤ n
    laid_fits laid =
        let extent = (laid_fresh laid).1.blocks in
        let a = so_far.blocks_are in
        let b = length-append (free_chain m) (laid_out m (take i es)) in
        let c = length-append (free_chain m) (laid_out m es) in
        let whole = laid.whole in
        let more = ap (λ (ps : List ℕ). length ps) next_laid ∙ length-append (laid_out m (take i es)) (blocks_of m e) in
        let split = ap (λ (xs : List Extent). length (laid_out m xs)) (sym (take-append-drop (i + 1) es))
        ∙ ap (λ (ps : List ℕ). length ps) (laid_out-append m (take (i + 1) es) (drop (i + 1) es))
        ∙ length-append (laid_out m (take (i + 1) es)) (laid_out m (drop (i + 1) es)) in
        omega (arith, extent, a, b, c, whole, more, split)

  -- all extents, and as many blocks as there are
  pub laid_all : (seen : List ℕ) (blocks : ℕ) → IsMemory m → end ≤ pages_of m
      → AreLaidSoFar end m es (length es) seen blocks → blocks ≡ n → AreLaid n m es
  laid_all seen blocks sized inside so_far all =
      let every : take (length es) es ≡ es = take-length es in
      let family : List Extent → Type 0 = λ xs. All (IsExtent m) xs in
      let each : All (IsExtent m) es = subst family every so_far.each in
      record {
        inside = inside;
        free = so_far.free;
        each = each;
        below = λ q past. ap (λ (xs : List Extent). count q (free_chain m ++ laid_out m xs)) (sym every)
            ∙ so_far.below q past;
        once = λ q.
            let parts = count-append q (free_chain m) (laid_out m es) in
            ⊎_elim
            (λ (some : 0 < count q (free_chain m ++ laid_out m es)).
            let block : IsBlock m q = ⊎_elim
            (λ (here : 0 < count q (free_chain m)). leads_count m _ 0 q (free_chain m) so_far.free
            (omega (arith, here)))
            (λ (none : count q (free_chain m) ≤ 0). laid_count m q es each (omega (arith, none, parts, some)))
            (cases_lt 0 (count q (free_chain m))) in
            let place : IsBlockPlace q = (block.0, omega (arith, block.1, sized.most)) in
            let marks = so_far.marks q place in
            let most = so_far.fine.each q place in
            let same = ap (λ (xs : List Extent). count q (free_chain m ++ laid_out m xs)) every in
            omega (arith, marks, most, same))
            (λ (none : count q (free_chain m ++ laid_out m es) ≤ 0). omega (arith, none))
            (cases_lt 0 (count q (free_chain m ++ laid_out m es)));
        whole = (let a =
            so_far.blocks_are in let same =
            ap (λ (xs : List Extent). length (free_chain m ++ laid_out m xs)) every in omega (arith, a, same, all));
      }

  pub laid_short : (seen : List ℕ) (blocks : ℕ) → AreLaidSoFar end m es (length es) seen blocks → blocks ≢ n
      → (AreLaid n m es → ⊥)
  laid_short seen blocks so_far short laid =
      let same = ap (λ (xs : List Extent). length (free_chain m ++ laid_out m xs)) (take-length es) in
      let a = so_far.blocks_are in let whole = laid.whole in
      short (let z : blocks ≡ n = omega (arith, a, same, whole) in z)
