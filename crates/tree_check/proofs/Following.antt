-- A walk over a chain, up to a page.
use Rattle.std.proofs.Common.{refl, sym, ◌∙◌, ap, subst, arith, ⊎_elim, append-nil}
use Rattle.std.proofs.lemmas.Bool.{cases_lt}
use Rattle.std.proofs.lemmas.List.{length-append, get_or_push}
use Rattle.std.specs.Prelude.{◌≡◌, ◌≢◌, ◌<◌, ◌≤◌, ◌+◌, ◌-◌, ℕ, suc, List, [], ◌∷◌, ◌++◌, length, slice_index}
use Rattle.nvm_board.specs.Facts.{pages_of}
use Rattle.block_chain.specs.Chains.{Leads, pages_from, chain}
use Rattle.block_chain.specs.Counts.{count}
use Rattle.block_chain.specs.BlockWords.{link, IsBlock}
use Rattle.block_chain.specs.declared.layout.TheConstants.{FIRST_BLOCK_PAGE, MOST_BLOCKS}
use Rattle.block_chain.specs.laws.Chains.{leads_then, leads_on, pages_are}
use Rattle.block_chain.specs.laws.Counts.{count-append, count-here, count-other, count-nil}
use Rattle.block_chain.specs.laws.Laying.{pages_most}
use Rattle.block_chain.specs.laws.Walking.{pages_zero, pages_on, pages_some, pages_end, leads_one}
use Rattle.tree_check.specs.WalkParts.{EndsWithin}

-- n blocks before the page `end` were walked over, up to this page
pub record IsFollowed (end : ℕ) (m : List ℕ) (from n page : ℕ) : Type 0 where
  pub leads : Leads m from (pages_from m n from) page
  pub long : length (pages_from m n from) ≡ n
  pub below : (q : ℕ) → end ≤ q → count q (pages_from m n from) ≡ 0

-- no block yet
pub followed_none : (end : ℕ) (m : List ℕ) (from : ℕ) → IsFollowed end m from 0 from
followed_none end m from = record {
  leads = (let family : List ℕ → Type 0 = λ ps. Leads m from ps from in subst family (sym (pages_zero m from)) refl);
  long = ap (λ (ps : List ℕ). length ps) (pages_zero m from);
  below = λ q past. ap (count q) (pages_zero m from) ∙ count-nil q;
}

module _ (end : ℕ) (m : List ℕ) (from n page : ℕ) (walked : IsFollowed end m from n page) where
  -- the chain is what was walked over, and the rest
  rest_of : n ≤ MOST_BLOCKS → chain m from ≡ pages_from m n from ++ pages_from m (MOST_BLOCKS - n) page
  rest_of fits = let all : MOST_BLOCKS ≡ n + (MOST_BLOCKS - n) = omega arith in
      ap (λ (k : ℕ). pages_from m k from) all
      ∙ pages_on m n (MOST_BLOCKS - n) from page walked.leads walked.long

  -- at the end
  pub followed_all : n ≤ MOST_BLOCKS → page ≡ 0 → chain m from ≡ pages_from m n from
  followed_all fits none = rest_of fits
      ∙ ap (λ (ps : List ℕ). pages_from m n from ++ ps) (pages_end m (MOST_BLOCKS - n) page none)
      ∙ append-nil (pages_from m n from)

  pub followed_ends : (most : ℕ) → most ≤ MOST_BLOCKS → n ≤ most → page ≡ 0 → EndsWithin end most m from
  followed_ends most limit fits none =
      let all = followed_all (omega (arith, limit, fits)) none in
      record {
        leads = (
            let family : List ℕ → Type 0 = λ ps. Leads m from ps 0 in
            let to : ℕ → Type 0 = λ p. Leads m from (pages_from m n from) p in
            subst family (sym all) (subst to none walked.leads));
        below = λ q past. ap (count q) all ∙ walked.below q past;
        few = (let size = ap (λ (ps : List ℕ). length ps) all in let long = walked.long in
            omega (arith, size, long, fits));
      }

  -- the next block
  next_of : n < MOST_BLOCKS → page ≢ 0
      → chain m from ≡ pages_from m n from ++ page ∷ pages_from m (MOST_BLOCKS - n - 1) (link m page)
  next_of fits some =
      let less : n ≤ MOST_BLOCKS = omega arith in
      let one : MOST_BLOCKS - n ≡ suc (MOST_BLOCKS - n - 1) = omega arith in
      rest_of less ∙ ap (λ (k : ℕ). pages_from m n from ++ pages_from m k page) one
      ∙ ap (λ (ps : List ℕ). pages_from m n from ++ ps) (pages_some m (MOST_BLOCKS - n - 1) page some)

  more_of : page ≢ 0 → pages_from m (n + 1) from ≡ pages_from m n from ++ page ∷ []
  more_of some =
      let one : pages_from m 1 page ≡ page ∷ [] =
      pages_some m 0 page some ∙ ap (λ (ps : List ℕ). page ∷ ps) (pages_zero m (link m page)) in
      pages_on m n 1 from page walked.leads walked.long ∙ ap (λ (ps : List ℕ). pages_from m n from ++ ps) one

  -- one block more
  pub followed_more : end ≤ pages_of m → (FIRST_BLOCK_PAGE ≤ page) × (page < end)
      → IsFollowed end m from (n + 1) (link m page)
  followed_more inner fit =
      let some : page ≢ 0 = λ e. let z : ⊥ = omega (arith, e, fit.0) in z in
      let block : IsBlock m page = (fit.0, omega (arith, fit.1, inner)) in
      let more = more_of some in
      let family : List ℕ → Type 0 = λ ps. Leads m from ps (link m page) in
      record {
        leads = subst family (sym more) (leads_then m from page (link m page) (pages_from m n from)
            (page ∷ []) walked.leads (refl, block, refl));
        long = (let l = ap (λ (ps : List ℕ). length ps) more in
            let a = length-append (pages_from m n from) (page ∷ []) in
            let w = walked.long in omega (arith, l, a, w));
        below = λ q past.
            let whole : count q (pages_from m (n + 1) from) ≡ count q (pages_from m n from) + count q (page ∷ []) =
            ap (count q) more ∙ count-append q (pages_from m n from) (page ∷ []) in
            let before = walked.below q past in
            let other : q ≢ page = λ e. let z : ⊥ = omega (arith, e, past, fit.1) in z in
            let none : count q (page ∷ []) ≡ 0 = count-other q page [] other ∙ count-nil q in
            omega (arith, whole, before, none);
      }

  -- the last block that was walked over, and one more
  pub last_followed : page ≢ 0 → page ≡ slice_index (pages_from m (n + 1) from) (n + 1 - 1)
  last_followed some =
      let place : length (pages_from m n from) ≡ n + 1 - 1 = let l = walked.long in omega (arith, l) in
      sym (ap (λ (ps : List ℕ). slice_index ps (n + 1 - 1)) (more_of some)
      ∙ get_or_push (pages_from m n from) page 0 (n + 1 - 1) place)

  -- a chain that goes on has more blocks than were walked over
  pub goes_on : (most : ℕ) → EndsWithin end most m from → page ≢ 0 → n < length (chain m from)
  goes_on most ends some = ⊎_elim
      (λ (lt : n < length (chain m from)). lt)
      (λ (all : length (chain m from) ≤ n). absurd (
      let same = pages_are m n from (chain m from) ends.leads all in
      let family : List ℕ → Type 0 = λ ps. Leads m from ps 0 in
      some (leads_one m from (pages_from m n from) page 0 walked.leads (subst family (sym same) ends.leads))))
      (cases_lt n (length (chain m from)))

  -- and goes on with a block before the page `end`
  pub goes_on_within : (most : ℕ) → EndsWithin end most m from → page ≢ 0 → (FIRST_BLOCK_PAGE ≤ page) × (page < end)
  goes_on_within most ends some =
      let long = goes_on most ends some in
      let limit = pages_most m MOST_BLOCKS from in
      let next = next_of (omega (arith, long, limit)) some in
      let family : List ℕ → Type 0 = λ ps. Leads m from ps 0 in
      let block : IsBlock m page =
      (leads_on m from 0 page (pages_from m n from) _ (subst family next ends.leads)).0 in (
        block.0,
        ⊎_elim
            (λ (lt : page < end). lt)
            (λ (past : end ≤ page). absurd (
            let none = ends.below page past in
            let whole = ap (count page) next in
            let parts = count-append page (pages_from m n from)
            (page ∷ pages_from m (MOST_BLOCKS - n - 1) (link m page)) in
            let here = count-here page (pages_from m (MOST_BLOCKS - n - 1) (link m page)) in
            omega (arith, none, whole, parts, here)))
            (cases_lt page end),
      )
