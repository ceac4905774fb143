-- The blocks of the factory's memory: the first is the elementary file's, and all others, each behind the one before,
-- are free.
use Rattle.std.proofs.Common.{◌≡◌, ◌<◌, ◌≤◌, ◌+◌, ◌==◌, ℕ, zero, suc, Bool, false, if◌then◌else◌, List, [], ◌∷◌, ◌++◌}
use Rattle.std.proofs.Common.{length, slice_index, refl, sym, ◌∙◌, ap, ap₂, subst, arith, inl, inr, length-append}
use Rattle.std.proofs.Common.{All}
use Rattle.std.proofs.lemmas.Bool.{ne_eqb}
use Rattle.std.proofs.lemmas.Bool.Decides.{eqb_tells}
use Rattle.std.proofs.lemmas.List.FromFn.{length-range_with_len}
use Rattle.std.specs.List.{range_with_len}
use Rattle.nvm_board.specs.Facts.{pages_of}
use Rattle.nvm_board.specs.declared.board.TheConstants.{LEAST_PAGES, MOST_PAGES}
use Rattle.block_chain.specs.declared.layout.TheConstants.{FIRST_BLOCK_PAGE, FREE_HEAD, MOST_BLOCKS}
use Rattle.block_chain.specs.declared.chain.Extent.{Extent}
use Rattle.block_chain.specs.BlockWords.{link}
use Rattle.block_chain.specs.Counts.{count}
use Rattle.block_chain.specs.Chains.{Leads, chain, free_chain}
use Rattle.block_chain.specs.Layout.{AreLaid, IsExtent, laid_out}
use Rattle.block_chain.specs.laws.Chains.{pages_are}
use Rattle.block_chain.specs.laws.Counts.{count-nil, count-cons, count-here, count-other, count-append}
use Rattle.block_chain.specs.laws.Laying.{laid_out-cons, laid_out-nil}

-- the link of a page to the next one, or 0 from the page where the blocks end on
abbrev pub next_page : ℕ → ℕ → ℕ
next_page end page = if page == end then 0 else page

module _ (m : List ℕ) (end : ℕ) (inside : end ≤ pages_of m)
    (links : (page : ℕ) → FIRST_BLOCK_PAGE < page → page < end → link m page ≡ next_page end (page + 1)) where
  -- from a page on the links lead over all that follow
  leads_run : (n a : ℕ) → FIRST_BLOCK_PAGE < a → a + n ≡ end → Leads m (next_page end a) (range_with_len a n) 0
  leads_run zero a low all = elim (eqb_tells a end) [
    | inl same ↦ ap (λ (b : Bool). if b then 0 else a) same.0
    | inr other ↦ absurd (let d = other.1 in let z : a ≡ end = omega (arith, all) in d z)
  ]
  leads_run (suc n) a low all = elim (eqb_tells a end) [
    | inl same ↦ absurd (let e = same.1 in omega (arith, e, all))
    | inr other ↦
        let below : a < end = omega (arith, all) in
        let from : ℕ → Type 0 = λ page. Leads m page (range_with_len (a + 1) n) 0 in (
          ap (λ (b : Bool). if b then 0 else a) other.0,
          (omega (arith, low), omega (arith, below, inside)),
          subst from (sym (links a low below)) (leads_run n (a + 1) (omega (arith, low)) (omega (arith, all))),
        )
  ]

-- how often a number stands in a run: not at all below it or behind it
count_run : (q a n : ℕ) → (count q (range_with_len a n) ≤ 1) × (q < a → count q (range_with_len a n) ≡ 0)
    × (a + n ≤ q → count q (range_with_len a n) ≡ 0)
count_run q a zero = let none = count-nil q in (omega (arith, none), λ _. none, λ _. none)
count_run q a (suc n) =
    let rest = count_run q (a + 1) n in
    elim (eqb_tells q a) [
      | inl same ↦
          let here = count-here q (range_with_len (a + 1) n) in
          let is : count q (a ∷ range_with_len (a + 1) n) ≡ count q (q ∷ range_with_len (a + 1) n) =
          ap (λ (p : ℕ). count q (p ∷ range_with_len (a + 1) n)) (sym same.1) in
          let none : count q (range_with_len (a + 1) n) ≡ 0 = rest.1 (let e = same.1 in omega (arith, e)) in (
            omega (arith, is, here, none),
            λ low. absurd (let e = same.1 in omega (arith, e, low)),
            λ high. absurd (let e = same.1 in omega (arith, e, high)),
          )
      | inr other ↦
          let is = count-other q a (range_with_len (a + 1) n) other.1 in
          let most = rest.0 in (
            omega (arith, is, most),
            λ low. is ∙ rest.1 (omega (arith, low)),
            λ high. is ∙ rest.2 (omega (arith, high)),
          )
    ]

-- The first block is a chain of its own, and the others are the free chain.
module _ (m : List ℕ) (end : ℕ) (inside : end ≤ pages_of m) (least : LEAST_PAGES ≤ end) (most : end ≤ MOST_PAGES)
    (links : (page : ℕ) → FIRST_BLOCK_PAGE < page → page < end → link m page ≡ next_page end (page + 1))
    (head : slice_index m FREE_HEAD ≡ FIRST_BLOCK_PAGE + 1) (last : link m FIRST_BLOCK_PAGE ≡ 0)
    (n : ℕ) (as_many : FIRST_BLOCK_PAGE + (n + 1) ≡ end) where
  abbrev run : List ℕ
  run = range_with_len (FIRST_BLOCK_PAGE + 1) n

  leads_free : Leads m (slice_index m FREE_HEAD) run 0
  leads_free =
      let other : (FIRST_BLOCK_PAGE + 1 == end) ≡ false =
      ne_eqb (FIRST_BLOCK_PAGE + 1) end (λ is. let z : ⊥ = omega (arith, is, least) in z) in
      let start : next_page end (FIRST_BLOCK_PAGE + 1) ≡ FIRST_BLOCK_PAGE + 1 =
      ap (λ (b : Bool). if b then 0 else FIRST_BLOCK_PAGE + 1) other in
      let from : ℕ → Type 0 = λ page. Leads m page run 0 in
      subst from (start ∙ sym head) (leads_run m end inside links n (FIRST_BLOCK_PAGE + 1)
      (omega arith) (omega (arith, as_many)))

  free_is : free_chain m ≡ run
  free_is =
      let long = length-range_with_len (FIRST_BLOCK_PAGE + 1) n in
      pages_are m MOST_BLOCKS (slice_index m FREE_HEAD) run leads_free (omega (arith, long, as_many, most))

  pub free_long : length (free_chain m) ≡ n
  free_long = ap (λ (ps : List ℕ). length ps) free_is ∙ length-range_with_len (FIRST_BLOCK_PAGE + 1) n

  leads_one : Leads m FIRST_BLOCK_PAGE (FIRST_BLOCK_PAGE ∷ []) 0
  leads_one = (refl, (omega arith, omega (arith, inside, least)), last)

  pub one_is : chain m FIRST_BLOCK_PAGE ≡ FIRST_BLOCK_PAGE ∷ []
  one_is = pages_are m MOST_BLOCKS FIRST_BLOCK_PAGE (FIRST_BLOCK_PAGE ∷ []) leads_one (omega arith)

  -- the extent of the elementary file
  abbrev pub first_extent : Extent
  first_extent = record { chain = record { first = FIRST_BLOCK_PAGE; last = FIRST_BLOCK_PAGE }; blocks = 1 }

  extent_is : IsExtent m first_extent
  extent_is =
      let leads : List ℕ → Type 0 = λ ps. Leads m FIRST_BLOCK_PAGE ps 0 in
      record {
        leads = subst leads (sym one_is) leads_one;
        blocks = ap (λ (ps : List ℕ). length ps) one_is;
        last = sym (ap (λ (ps : List ℕ). slice_index ps 0) one_is);
      }

  laid_is : laid_out m (first_extent ∷ []) ≡ FIRST_BLOCK_PAGE ∷ []
  laid_is = laid_out-cons m first_extent [] ∙ ap₂ (λ (ps qs : List ℕ). ps ++ qs) one_is (laid_out-nil m)

  pub blocks_laid : AreLaid (n + 1) m (first_extent ∷ [])
  blocks_laid =
      let leads : List ℕ → Type 0 = λ ps. Leads m (slice_index m FREE_HEAD) ps 0 in
      let all : free_chain m ++ laid_out m (first_extent ∷ []) ≡ run ++ FIRST_BLOCK_PAGE ∷ [] =
      ap₂ (λ (ps qs : List ℕ). ps ++ qs) free_is laid_is in
      record {
        inside = omega (arith, inside, as_many);
        free = subst leads (sym free_is) leads_free;
        each = each;
        below = λ q high.
            let same = ap (count q) all in
            let parts = count-append q run (FIRST_BLOCK_PAGE ∷ []) in
            let none = (count_run q (FIRST_BLOCK_PAGE + 1) n).2 (omega (arith, high)) in
            let away = count-other q FIRST_BLOCK_PAGE [] (λ is. let z : ⊥ = omega (arith, is, high) in z) in
            let end_none = count-nil q in
            omega (arith, same, parts, none, away, end_none);
        once = λ q.
            let same = ap (count q) all in
            let parts = count-append q run (FIRST_BLOCK_PAGE ∷ []) in
            let runs = count_run q (FIRST_BLOCK_PAGE + 1) n in
            elim (eqb_tells q FIRST_BLOCK_PAGE) [
              | inl is ↦
                  let none = runs.1 (let e = is.1 in omega (arith, e)) in
                  let one = count-cons q FIRST_BLOCK_PAGE [] in
                  let end = count-nil q in
                  let most = at_most_one q in
                  omega (arith, same, parts, none, most)
              | inr other ↦
                  let away = count-other q FIRST_BLOCK_PAGE [] other.1 in
                  let end = count-nil q in
                  let most = runs.0 in
                  omega (arith, same, parts, away, end, most)
            ];
        whole = (let l = ap (λ (ps : List ℕ). length ps) all in
            let parts = length-append run (FIRST_BLOCK_PAGE ∷ []) in
            let long = length-range_with_len (FIRST_BLOCK_PAGE + 1) n in
            omega (arith, l, parts, long, as_many));
      }
    where
      each : All (IsExtent m) (first_extent ∷ [])
      each zero d lt = extent_is
      each (suc i) d lt = absurd (omega arith)

      at_most_one : (q : ℕ) → count q (FIRST_BLOCK_PAGE ∷ []) ≤ 1
      at_most_one q = elim (eqb_tells q FIRST_BLOCK_PAGE) [
        | inl is ↦
            let here = count-here q [] in
            let end = count-nil q in
            let same : count q (FIRST_BLOCK_PAGE ∷ []) ≡ count q (q ∷ []) =
            ap (λ (p : ℕ). count q (p ∷ [])) (sym is.1) in
            omega (arith, here, end, same)
        | inr other ↦
            let away = count-other q FIRST_BLOCK_PAGE [] other.1 in
            let end = count-nil q in
            omega (arith, away, end)
      ]
