-- Laws of the pages from a page on: none, some, and where they lead.
use Rattle.std.proofs.Common.{refl, sym, ◌∙◌, ap, ap₂, subst, arith, inl, inr}
use Rattle.std.proofs.lemmas.Bool.Decides.{eqb_tells}
use Rattle.std.specs.Prelude.{◌≡◌, ◌≢◌, ◌+◌, ℕ, zero, suc, Bool, if◌then◌else◌, List, [], ◌∷◌, ◌++◌}
use Rattle.std.specs.Prelude.{length}
use Rattle.block_chain.specs.Chains.{Leads, pages_from}
use Rattle.block_chain.specs.BlockWords.{link}

pub pages_zero : (m : List ℕ) (from : ℕ) → pages_from m 0 from ≡ []
unfolding pages_from
pages_zero m from = refl

-- more pages, after those that lead to one
pub pages_on : (m : List ℕ) (i j from page : ℕ) → Leads m from (pages_from m i from) page
    → length (pages_from m i from) ≡ i
    → pages_from m (i + j) from ≡ pages_from m i from ++ pages_from m j page
unfolding pages_from
pages_on m zero j from page leads long =
    let z : zero + j ≡ j = omega arith in ap₂ (λ (n p : ℕ). pages_from m n p) z leads
pages_on m (suc i) j from page leads long = elim (eqb_tells from 0) [
  | inl same ↦ absurd (
      let none : length (pages_from m (suc i) from) ≡ 0 =
      ap (λ (b : Bool). length (if b then [] else from ∷ pages_from m i (link m from))) same.0 in
      omega (arith, none, long))
  | inr other ↦
      let n : suc i + j ≡ suc (i + j) = omega arith in
      let here : pages_from m (suc i) from ≡ from ∷ pages_from m i (link m from) =
      ap (λ (b : Bool). if b then [] else from ∷ pages_from m i (link m from)) other.0 in
      let family : List ℕ → Type 0 = λ ps. Leads m from ps page in
      let way = subst family here leads in
      let size : length (pages_from m i (link m from)) ≡ i = let l = ap (λ (ps : List ℕ). length ps) here in
      omega (arith, l, long) in
      ap (λ (k : ℕ). pages_from m k from) n
      ∙ ap (λ (b : Bool). if b then [] else from ∷ pages_from m (i + j) (link m from)) other.0
      ∙ ap (λ (ps : List ℕ). from ∷ ps) (pages_on m i j (link m from) page way.2 size)
      ∙ sym (ap (λ (ps : List ℕ). ps ++ pages_from m j page) here)
]

pub pages_some : (m : List ℕ) (n page : ℕ) → page ≢ 0 → pages_from m (suc n) page ≡ page ∷ pages_from m n (link m page)
unfolding pages_from
pages_some m n page some = elim (eqb_tells page 0) [
  | inl same ↦ absurd (some same.1)
  | inr other ↦ ap (λ (b : Bool). if b then [] else page ∷ pages_from m n (link m page)) other.0
]

pub pages_end : (m : List ℕ) (n page : ℕ) → page ≡ 0 → pages_from m n page ≡ []
unfolding pages_from
pages_end m zero page none = refl
pages_end m (suc n) page none = elim (eqb_tells page 0) [
  | inl same ↦ ap (λ (b : Bool). if b then [] else page ∷ pages_from m n (link m page)) same.0
  | inr other ↦ absurd (other.1 none)
]

-- the way over some blocks ends at one page
pub leads_one : (m : List ℕ) (from : ℕ) (ps : List ℕ) (to end : ℕ) → Leads m from ps to → Leads m from ps end → to ≡ end
leads_one m from [] to end a b = sym a ∙ b
leads_one m from (p ∷ ps) to end a b = leads_one m (link m p) ps to end a.2 b.2
