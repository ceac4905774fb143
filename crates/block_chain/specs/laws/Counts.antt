-- Laws of how often numbers stand in lists, and in lists that are cut in two.
use Rattle.std.proofs.Common.{refl, sym, ◌∙◌, ap, arith, subst, inl, inr}
use Rattle.std.proofs.lemmas.Bool.Decides.{eqb_tells}
use Rattle.std.proofs.lemmas.List.{take-append-drop}
use Rattle.std.specs.Prelude.{◌≡◌, ◌<◌, ◌≤◌, ◌+◌, ℕ, zero, suc, Bool, if◌then◌else◌, List, [], ◌∷◌, ◌++◌, length}
use Rattle.std.specs.Prelude.{slice_index, take, drop}
use Rattle.block_chain.specs.Counts.{same_as, count, NoneTwice}

pub count-nil : (q : ℕ) → count q [] ≡ 0
unfolding count
count-nil q = refl

pub count-cons : (q p : ℕ) (ps : List ℕ) → count q (p ∷ ps) ≡ same_as q p + count q ps
unfolding count
count-cons q p ps = refl

pub count-append : (q : ℕ) (ps qs : List ℕ) → count q (ps ++ qs) ≡ count q ps + count q qs
unfolding count
count-append q [] qs = omega arith
count-append q (p ∷ ps) qs = let rest = count-append q ps qs in omega (arith, rest)

pub count-here : (q : ℕ) (ps : List ℕ) → count q (q ∷ ps) ≡ 1 + count q ps
unfolding count
count-here q ps = elim (eqb_tells q q) [
  | inl same ↦ ap (λ (b : Bool). (if b then 1 else 0) + count q ps) same.0
  | inr other ↦ absurd (other.1 refl)
]

pub count-other : (q p : ℕ) (ps : List ℕ) → (q ≡ p → ⊥) → count q (p ∷ ps) ≡ count q ps
unfolding count
count-other q p ps differ = elim (eqb_tells q p) [
  | inl same ↦ absurd (differ same.1)
  | inr other ↦ ap (λ (b : Bool). (if b then 1 else 0) + count q ps) other.0
      ∙ (let z : 0 + count q ps ≡ count q ps = omega arith in z)
]

-- an element stands in its list
pub count-index : (ps : List ℕ) (k : ℕ) → k < length ps → 1 ≤ count (slice_index ps k) ps
count-index [] k lt = absurd (omega arith)
count-index (p ∷ ps) zero lt = let e = count-here p ps in omega (arith, e)
count-index (p ∷ ps) (suc k) lt =
    let below : k < length ps = omega arith in
    let rest = count-index ps k below in
    let e = count-cons (slice_index ps k) p ps in
    omega (arith, rest, e)

-- in a list without twins two places hold two numbers
pub apart : (ps : List ℕ) → NoneTwice ps → (i k : ℕ) → i < k → k < length ps → (slice_index ps i ≡ slice_index ps k → ⊥)
apart [] once i k lt below is = omega arith
apart (p ∷ ps) once zero zero lt below is = omega arith
apart (p ∷ ps) once zero (suc k) lt below is =
    let place : k < length ps = omega arith in
    let later = count-index ps k place in
    let here = count-here p ps in
    let most = once p in
    let family : ℕ → Type 0 = λ q. 1 ≤ count q ps in
    let twin : 1 ≤ count p ps = subst family (sym is) later in
    omega (arith, twin, here, most)
apart (p ∷ ps) once (suc i) zero lt below is = omega arith
apart (p ∷ ps) once (suc i) (suc k) lt below is =
    let rest : NoneTwice ps = λ q. let e = count-cons q p ps in let most = once q in omega (arith, e, most) in
    let less : i < k = omega arith in
    let place : k < length ps = omega arith in
    apart ps rest i k less place is

-- a list around the number at a place
pub around : (ps : List ℕ) (k : ℕ) → k < length ps → ps ≡ take k ps ++ slice_index ps k ∷ drop (k + 1) ps
around [] k lt = absurd (omega arith)
around (p ∷ ps) zero lt = refl
around (p ∷ ps) (suc k) lt =
    let below : k < length ps = omega arith in
    let place : suc k + 1 ≡ suc (k + 1) = omega arith in
    ap (λ (qs : List ℕ). p ∷ qs) (around ps k below)
    ∙ sym (ap (λ (i : ℕ). p ∷ take k ps ++ slice_index ps k ∷ drop i (p ∷ ps)) place)

pub count-split : (q n : ℕ) (ps : List ℕ) → count q ps ≡ count q (take n ps) + count q (drop n ps)
count-split q n ps = sym (ap (count q) (take-append-drop n ps)) ∙ count-append q (take n ps) (drop n ps)

pub once_take : (n : ℕ) (ps : List ℕ) → NoneTwice ps → NoneTwice (take n ps)
once_take n ps once q = let split = count-split q n ps in let most = once q in omega (arith, split, most)

pub once_drop : (n : ℕ) (ps : List ℕ) → NoneTwice ps → NoneTwice (drop n ps)
once_drop n ps once q = let split = count-split q n ps in let most = once q in omega (arith, split, most)
