-- Laws of chains: their links, by place; what leaves them as they are; how they are cut and joined.
use Rattle.std.proofs.Common.{refl, sym, ◌∙◌, ap, ap₂, arith, subst, inl, inr, ⊎_elim}
use Rattle.std.proofs.lemmas.Bool.{cases_lt}
use Rattle.std.proofs.lemmas.Bool.Decides.{eqb_tells}
use Rattle.std.proofs.lemmas.List.{get_or_past}
use Rattle.std.specs.Prelude.{◌≡◌, ◌≢◌, ◌<◌, ◌≤◌, ◌+◌, ◌==◌, ℕ, zero, suc, Bool, if◌then◌else◌, List, [], ◌∷◌, ◌++◌}
use Rattle.std.specs.Prelude.{length, slice_index}
use Rattle.nvm_board.specs.declared.board.TheConstants.{MOST_PAGES}
use Rattle.nvm_board.specs.Facts.{IsMemory}
use Rattle.nvm_board.specs.laws.Sizes.{pages_same}
use Rattle.block_chain.specs.Chains.{Leads, pages_from, chain, IsChain}
use Rattle.block_chain.specs.Counts.{count, NoneTwice}
use Rattle.block_chain.specs.BlockWords.{link, IsBlock}
use Rattle.block_chain.specs.declared.layout.TheConstants.{MOST_BLOCKS}
use Rattle.block_chain.specs.laws.Counts.{count-cons, count-here, count-append}

-- what the links lead over is the chain
pub pages_are : (m : List ℕ) (n from : ℕ) (ps : List ℕ) → Leads m from ps 0 → length ps ≤ n → pages_from m n from ≡ ps
unfolding pages_from
pages_are m zero from [] leads fits = refl
pages_are m zero from (p ∷ ps) leads fits = absurd (omega arith)
pages_are m (suc n) from [] leads fits = elim (eqb_tells from 0) [
  | inl same ↦ ap (λ (b : Bool). if b then [] else from ∷ pages_from m n (link m from)) same.0
  | inr other ↦ absurd (other.1 leads)
]
pages_are m (suc n) from (p ∷ ps) leads fits =
    let below : length ps ≤ n = omega arith in
    let rest = pages_are m n (link m p) ps leads.2 below in
    elim (eqb_tells from 0) [
      | inl same ↦ absurd (let start : from ≡ p = leads.0 in let low = leads.1 in let none : from ≡ 0 = same.1 in omega
          (arith, start, low, none))
      | inr other ↦ ap (λ (b : Bool). if b then [] else from ∷ pages_from m n (link m from)) other.0
          ∙ ap (λ (q : ℕ). q ∷ pages_from m n (link m q)) leads.0 ∙ ap (λ (qs : List ℕ). p ∷ qs) rest
    ]

pub chain_is : (m : List ℕ) (from : ℕ) (ps : List ℕ) → IsChain m from ps → chain m from ≡ ps
chain_is m from ps is = pages_are m MOST_BLOCKS from ps is.leads is.size

-- one way after another
pub leads_then : (m : List ℕ) (from between to : ℕ) (ps qs : List ℕ) → Leads m from ps between → Leads m between qs to
    → Leads m from (ps ++ qs) to
leads_then m from between to [] qs first rest =
    let family : ℕ → Type 0 = λ p. Leads m p qs to in
    subst family (sym first) rest
leads_then m from between to (p ∷ ps) qs first rest =
    (first.0, first.1, leads_then m (link m p) between to ps qs first.2 rest)

-- the first part of a way
pub leads_to : (m : List ℕ) (from to p : ℕ) (ps qs : List ℕ) → Leads m from (ps ++ p ∷ qs) to → Leads m from ps p
leads_to m from to p [] qs leads = leads.0
leads_to m from to p (q ∷ ps) qs leads = (leads.0, leads.1, leads_to m (link m q) to p ps qs leads.2)

-- the rest of a way, from a block on
pub leads_on : (m : List ℕ) (from to p : ℕ) (ps qs : List ℕ) → Leads m from (ps ++ p ∷ qs) to → IsBlock m p
    × Leads m (link m p) qs to
leads_on m from to p [] qs leads = (leads.1, leads.2)
leads_on m from to p (q ∷ ps) qs leads = leads_on m (link m q) to p ps qs leads.2

-- the block at a place: the one that the page before links to; past the last one stands 0
pub leads_first : (m : List ℕ) (from : ℕ) (ps : List ℕ) → Leads m from ps 0 → from ≡ slice_index ps 0
leads_first m from [] leads = leads
leads_first m from (p ∷ ps) leads = leads.0

pub leads_next : (m : List ℕ) (from : ℕ) (ps : List ℕ) (k : ℕ) → Leads m from ps 0 → k < length ps
    → link m (slice_index ps k) ≡ slice_index ps (k + 1)
leads_next m from [] k leads lt = absurd (omega arith)
leads_next m from (p ∷ ps) zero leads lt = leads_first m (link m p) ps leads.2
leads_next m from (p ∷ ps) (suc k) leads lt =
    let below : k < length ps = omega arith in
    let place : suc k + 1 ≡ suc (k + 1) = omega arith in
    leads_next m (link m p) ps k leads.2 below ∙ ap (λ (i : ℕ). slice_index (p ∷ ps) i) (sym place)

-- the block at the next place of a chain, where it is looked up only when a block ends there
pub next_block : (ps : List ℕ) (i j left page after next : ℕ) → (left ≡ 0 → j ≡ i + 1) → ((left ≡ 0 → ⊥) → j ≡ i)
    → page ≡ slice_index ps i → after ≡ slice_index ps (i + 1) → next ≡ (if left == 0 then after else page)
    → next ≡ slice_index ps j
next_block ps i j left page after next ends goes is is_after told = elim (eqb_tells left 0) [
  | inl none ↦ told ∙ ap (λ (b : Bool). if b then after else page) none.0 ∙ is_after
      ∙ ap (slice_index ps) (sym (ends none.1))
  | inr some ↦ told ∙ ap (λ (b : Bool). if b then after else page) some.0 ∙ is
      ∙ ap (slice_index ps) (sym (goes some.1))
]

pub leads_block : (m : List ℕ) (from to : ℕ) (ps : List ℕ) (k : ℕ) → Leads m from ps to → k < length ps
    → IsBlock m (slice_index ps k)
leads_block m from to [] k leads lt = absurd (omega arith)
leads_block m from to (p ∷ ps) zero leads lt = leads.1
leads_block m from to (p ∷ ps) (suc k) leads lt =
    let below : k < length ps = omega arith in leads_block m (link m p) to ps k leads.2 below

-- a page of a memory is one of each memory of that size
pub block_same : (m n : List ℕ) (page : ℕ) → length n ≡ length m → IsBlock m page → IsBlock n page
block_same m n page size block = (block.0, (let same = pages_same m n size in omega (arith, same, block.1)))

-- a way depends on the links of its blocks alone
pub leads_same : (m n : List ℕ) (from to : ℕ) (ps : List ℕ) → length n ≡ length m
    → ((q : ℕ) → 1 ≤ count q ps → link n q ≡ link m q) → Leads m from ps to → Leads n from ps to
leads_same m n from to [] size same leads = leads
leads_same m n from to (p ∷ ps) size same leads =
    let here : link n p ≡ link m p = same p (let e = count-here p ps in omega (arith, e)) in
    let later : (q : ℕ) → 1 ≤ count q ps → link n q ≡ link m q =
    λ q some. same q (let e = count-cons q p ps in omega (arith, e, some)) in
    let family : ℕ → Type 0 = λ q. Leads n q ps to in (
      leads.0,
      block_same m n p size leads.1,
      subst family (sym here) (leads_same m n (link m p) to ps size later leads.2),
    )

-- each number of a chain, and that past its end, is that of a page
pub leads_small : (m : List ℕ) (from : ℕ) (ps : List ℕ) (k : ℕ) → IsMemory m → Leads m from ps 0
    → slice_index ps k < MOST_PAGES
leads_small m from ps k sized leads = ⊎_elim
    (λ (within : k < length ps). let below = (leads_block m from 0 ps k leads within).1 in
    let most = sized.most in let small : slice_index ps k < MOST_PAGES = omega (arith, below, most) in small)
    (λ (past : length ps ≤ k). let none =
    get_or_past ps k 0 past in let small : slice_index ps k < MOST_PAGES = omega (arith, none) in small)
    (cases_lt k (length ps))

-- where a chain has a block, there is a page
pub leads_some : (m : List ℕ) (from : ℕ) (ps : List ℕ) (k : ℕ) → Leads m from ps 0 → slice_index ps k ≢ 0
    → IsBlock m (slice_index ps k) × (k < length ps)
leads_some m from ps k leads some = ⊎_elim
    (λ (within : k < length ps). (leads_block m from 0 ps k leads within, within))
    (λ (past : length ps ≤ k). absurd (some (get_or_past ps k 0 past)))
    (cases_lt k (length ps))

-- a chain has ended where there is none
pub leads_ended : (m : List ℕ) (from : ℕ) (ps : List ℕ) (k : ℕ) → Leads m from ps 0 → slice_index ps k ≡ 0
    → length ps ≤ k
leads_ended m from ps k leads none = ⊎_elim
    (λ (within : k < length ps). let block =
    leads_block m from 0 ps k leads within in absurd (omega (arith, block.0, none)))
    (λ (past : length ps ≤ k). past)
    (cases_lt k (length ps))

-- What is known at a block of a chain, by its place, in a memory whose words are those of the chain.
pub record IsAt (n : List ℕ) (ps : List ℕ) (k page : ℕ) : Type 0 where
  pub within : k < length ps
  pub block : IsBlock n page
  pub next : link n page ≡ slice_index ps (k + 1)
  pub small : link n page < MOST_PAGES

pub at_block : (m n : List ℕ) (from : ℕ) (ps : List ℕ) (k page : ℕ) → n ≡ m → IsMemory m → Leads m from ps 0
    → page ≡ slice_index ps k → k < length ps → IsAt n ps k page
at_block m n from ps k page same sized leads place within =
    let next : link n page ≡ slice_index ps (k + 1) =
    ap₂ (λ (l : List ℕ) (p : ℕ). link l p) same place ∙ leads_next m from ps k leads within in
    let small = leads_small m from ps (k + 1) sized leads in
    record {
      within = within;
      block = (let family : ℕ → Type 0 = λ q. IsBlock n q in
          let in_n : List ℕ → Type 0 = λ l. IsBlock l (slice_index ps k) in
          subst family (sym place) (subst in_n (sym same) (leads_block m from 0 ps k leads within)));
      next = next;
      small = (let z : link n page < MOST_PAGES = omega (arith, next, small) in z);
    }

pub at_some : (m n : List ℕ) (from : ℕ) (ps : List ℕ) (k page : ℕ) → n ≡ m → IsMemory m → Leads m from ps 0
    → page ≡ slice_index ps k → page ≢ 0 → IsAt n ps k page
at_some m n from ps k page same sized leads place some =
    at_block m n from ps k page same sized leads place (leads_some m from ps k leads (λ none. some (place ∙ none))).1

pub head_small : (m : List ℕ) (from : ℕ) (ps : List ℕ) → IsMemory m → Leads m from ps 0 → from < MOST_PAGES
head_small m from ps sized leads =
    let first = leads_first m from ps leads in let small = leads_small m from ps 0 sized leads in
    omega (arith, first, small)

-- A chain is cut behind a block: its link is 0, and no other link is other.
pub leads_cut : (m n : List ℕ) (from p : ℕ) (ps qs : List ℕ) → length n ≡ length m → Leads m from (ps ++ p ∷ qs) 0
    → NoneTwice (ps ++ p ∷ qs) → link n p ≡ 0 → ((q : ℕ) → q ≢ p → link n q ≡ link m q)
    → Leads n from (ps ++ p ∷ []) 0 × Leads n (link m p) qs 0
leads_cut m n from p ps qs size leads once end others =
    let most = once p in
    let whole = count-append p ps (p ∷ qs) in
    let here = count-here p qs in
    let none_before : count p ps ≡ 0 = omega (arith, most, whole, here) in
    let none_after : count p qs ≡ 0 = omega (arith, most, whole, here) in
    let before : Leads n from ps p =
    leads_same m n from p ps size (λ q some. others q
    (λ is. let e : count q ps ≡ count p ps =
    ap (λ (r : ℕ). count r ps) is in omega (arith, e, none_before, some)))
    (leads_to m from 0 p ps qs leads) in
    let on = leads_on m from 0 p ps qs leads in
    let after : Leads n (link m p) qs 0 =
    leads_same m n (link m p) 0 qs size (λ q some. others q
    (λ is. let e : count q qs ≡ count p qs =
    ap (λ (r : ℕ). count r qs) is in omega (arith, e, none_after, some))) on.1 in
    (leads_then n from p 0 ps (p ∷ []) before (refl, block_same m n p size on.0, end), after)

-- Two chains are joined: the last block of the first links to the other, and no other link is other.
pub leads_joined : (m n : List ℕ) (from p head : ℕ) (ps qs : List ℕ) → length n ≡ length m
    → Leads m from (ps ++ p ∷ []) 0 → Leads m head qs 0 → NoneTwice ((ps ++ p ∷ []) ++ qs)
    → link n p ≡ head → ((q : ℕ) → q ≢ p → link n q ≡ link m q) → Leads n from ((ps ++ p ∷ []) ++ qs) 0
leads_joined m n from p head ps qs size first rest once joins others =
    let most = once p in
    let whole = count-append p (ps ++ p ∷ []) qs in
    let part = count-append p ps (p ∷ []) in
    let here = count-here p [] in
    let none_before : count p ps ≡ 0 = omega (arith, most, whole, part, here) in
    let none_after : count p qs ≡ 0 = omega (arith, most, whole, part, here) in
    let before : Leads n from ps p =
    leads_same m n from p ps size (λ q some. others q
    (λ is. let e : count q ps ≡ count p ps =
    ap (λ (r : ℕ). count r ps) is in omega (arith, e, none_before, some)))
    (leads_to m from 0 p ps [] first) in
    let on = leads_on m from 0 p ps [] first in
    let after : Leads n head qs 0 =
    leads_same m n head 0 qs size (λ q some. others q
    (λ is. let e : count q qs ≡ count p qs =
    ap (λ (r : ℕ). count r qs) is in omega (arith, e, none_after, some))) rest in
    leads_then n from head 0 (ps ++ p ∷ []) qs
    (leads_then n from p head ps (p ∷ []) before (refl, block_same m n p size on.0, joins)) after
