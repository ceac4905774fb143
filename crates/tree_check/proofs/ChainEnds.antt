-- Chains that end at different blocks have no block in common.
use Rattle.std.proofs.Common.{refl, sym, ◌∙◌, ap, arith, inl, inr, ⊎_elim}
use Rattle.std.proofs.lemmas.Bool.{cases_lt}
use Rattle.std.proofs.lemmas.Bool.Decides.{eqb_tells}
use Rattle.std.proofs.lemmas.Nat.Bits.{bit_at-zero}
use Rattle.std.specs.Prelude.{◌≡◌, ◌<◌, ◌≤◌, ◌+◌, ◌-◌, ◌/◌, ◌%◌, ℕ, suc, List, [], ◌∷◌, length}
use Rattle.std.specs.Prelude.{slice_index, replicate}
use Rattle.std.specs.Int.{bit_at}
use Rattle.block_chain.specs.Chains.{Leads}
use Rattle.block_chain.specs.Counts.{count, NoneTwice}
use Rattle.block_chain.specs.BlockWords.{link}
use Rattle.block_chain.specs.laws.Chains.{pages_are}
use Rattle.block_chain.specs.laws.Counts.{count-here, count-other, count-nil, count-index}
use Rattle.block_chain.specs.laws.Laying.{blank_marks}
use Rattle.tree_check.specs.WalkParts.{mark_of}

-- the last block of a chain
abbrev pub end_of : List ℕ → ℕ
end_of ps = slice_index ps (length ps - 1)

end_of_more : (p : ℕ) (ps : List ℕ) → 0 < length ps → end_of (p ∷ ps) ≡ end_of ps
end_of_more p [] some = absurd (omega arith)
end_of_more p (q ∷ ps) some =
    let here : length (p ∷ q ∷ ps) - 1 ≡ suc (length ps) = omega arith in
    let there : length (q ∷ ps) - 1 ≡ length ps = omega arith in
    ap (λ (k : ℕ). slice_index (p ∷ q ∷ ps) k) here ∙ ap (λ (k : ℕ). slice_index (q ∷ ps) k) (sym there)

count_some : (q : ℕ) (ps : List ℕ) → 1 ≤ count q ps → 0 < length ps
count_some q [] some = absurd (let none = count-nil q in omega (arith, none, some))
count_some q (p ∷ ps) some = omega arith

pub end_in : (ps : List ℕ) → 0 < length ps → 1 ≤ count (end_of ps) ps
end_in ps some = count-index ps (length ps - 1) (omega (arith, some))

-- the rest of a way, from one of its blocks on
record IsRest (m : List ℕ) (q : ℕ) (ps rest : List ℕ) : Type 0 where
  leads : Leads m q rest 0
  end : end_of rest ≡ end_of ps
  short : length rest ≤ length ps

rest_from : (m : List ℕ) (from q : ℕ) (ps : List ℕ) → Leads m from ps 0 → 1 ≤ count q ps
    → (rest : List ℕ) × IsRest m q ps rest
rest_from m from q [] leads some = absurd (let none = count-nil q in omega (arith, none, some))
rest_from m from q (p ∷ ps) leads some = elim (eqb_tells q p) [
  | inl same ↦ (p ∷ ps, record { leads = (same.1, leads.1, leads.2); end = refl; short = omega arith })
  | inr other ↦
      let there : 1 ≤ count q ps = let e = count-other q p ps other.1 in omega (arith, e, some) in
      let more = rest_from m (link m p) q ps leads.2 there in
      let short = more.1.short in (
        more.0,
        record {
          leads = more.1.leads;
          end = more.1.end ∙ sym (end_of_more p ps (count_some q ps there));
          short = omega (arith, short);
        },
      )
]

-- from a page on there is one way to the end
one_way : (m : List ℕ) (from : ℕ) (ps qs : List ℕ) → Leads m from ps 0 → Leads m from qs 0 → ps ≡ qs
one_way m from ps qs a b =
    let n : ℕ = length ps + length qs in
    sym (pages_are m n from ps a (omega arith)) ∙ pages_are m n from qs b (omega arith)

-- chains that meet end at one block
pub meets : (m : List ℕ) (a b q : ℕ) (ps qs : List ℕ) → Leads m a ps 0 → Leads m b qs 0 → 1 ≤ count q ps
    → 1 ≤ count q qs → end_of ps ≡ end_of qs
meets m a b q ps qs first other in_first in_other =
    let r = rest_from m a q ps first in_first in
    let s = rest_from m b q qs other in_other in
    sym r.1.end ∙ ap (λ (rest : List ℕ). end_of rest) (one_way m q r.0 s.0 r.1.leads s.1.leads) ∙ s.1.end

-- a chain that ends has no block twice
pub ended_once : (m : List ℕ) (from : ℕ) (ps : List ℕ) → Leads m from ps 0 → NoneTwice ps
ended_once m from [] leads q = let none = count-nil q in omega (arith, none)
ended_once m from (p ∷ ps) leads q = elim (eqb_tells q p) [
  | inl same ↦
      let none : count p ps ≤ 0 = ⊎_elim
      (λ (some : 0 < count p ps). absurd (
      let r = rest_from m (link m p) p ps leads.2 (omega (arith, some)) in
      let size = ap (λ (qs : List ℕ). length qs) (one_way m p r.0 (p ∷ ps) r.1.leads (refl, leads.1, leads.2)) in
      let short = r.1.short in
      omega (arith, size, short)))
      (λ (none : count p ps ≤ 0). none)
      (cases_lt 0 (count p ps)) in
      let here = ap (λ (r : ℕ). count r (p ∷ ps)) same.1 ∙ count-here p ps in
      omega (arith, here, none)
  | inr other ↦
      let rest = ended_once m (link m p) ps leads.2 q in
      let e = count-other q p ps other.1 in
      omega (arith, e, rest)
]

-- each block is in a chain whose last block is marked, and what is marked is a block
pub record AreEnds (m : List ℕ) (ends all : List ℕ) : Type 0 where
  pub known : (q : ℕ) → 1 ≤ count q all
      → (from : ℕ) × (ps : List ℕ) × Leads m from ps 0 × (1 ≤ count q ps) × (mark_of ends (end_of ps) ≡ 1)
  pub marked : (q : ℕ) → mark_of ends q ≡ 1 → 1 ≤ count q all

blank_mark : (n q : ℕ) → mark_of (replicate n 0) q ≡ 0
blank_mark n q = ap (λ (byte : ℕ). bit_at byte (q % 8)) (blank_marks n (q / 8)) ∙ bit_at-zero (q % 8)

-- no chain
pub no_ends : (m : List ℕ) (n : ℕ) → AreEnds m (replicate n 0) []
no_ends m n = record {
  known = λ q some. absurd (let none = count-nil q in omega (arith, none, some));
  marked = λ q mark. absurd (let none = blank_mark n q in omega (arith, none, mark));
}

pub blank_end : (n q : ℕ) → mark_of (replicate n 0) q ≡ 0
blank_end n q = blank_mark n q

module _ (m ends all : List ℕ) (from : ℕ) (ps : List ℕ) (are : AreEnds m ends all) (leads : Leads m from ps 0) where
  -- a chain with another last block has no block of these
  pub apart_from : (0 < length ps → mark_of ends (end_of ps) ≡ 0) → (q : ℕ) → 1 ≤ count q ps → count q all ≤ 0
  apart_from fresh q some = ⊎_elim
      (λ (twice : 0 < count q all). absurd (
      let known = are.known q (omega (arith, twice)) in
      let same = meets m known.0 from q known.1 ps known.2 leads known.3 some in
      let mark = ap (λ (k : ℕ). mark_of ends k) same in
      let one = known.4 in
      let none = fresh (count_some q ps some) in
      omega (arith, mark, one, none)))
      (λ (none : count q all ≤ 0). none)
      (cases_lt 0 (count q all))

  -- its last block is marked too
  pub more_ends : (new after : List ℕ) → (0 < length ps → mark_of new (end_of ps) ≡ 1)
      → ((q : ℕ) → (q ≡ end_of ps → length ps ≡ 0) → mark_of new q ≡ mark_of ends q)
      → ((q : ℕ) → count q after ≡ count q all + count q ps) → AreEnds m new after
  more_ends new after last others parts = record {
    known = λ q some. ⊎_elim
        (λ (here : 0 < count q ps).
        (from, ps, leads, omega (arith, here), last (count_some q ps (omega (arith, here)))))
        (λ (none : count q ps ≤ 0).
        let known = are.known q (let p = parts q in omega (arith, p, none, some)) in
        (known.0, known.1, known.2, known.3, stays (end_of known.1) known.4))
        (cases_lt 0 (count q ps));
    marked = λ q mark. elim (eqb_tells q (end_of ps)) [
      | inl same ↦ ⊎_elim
          (λ (some : 0 < length ps).
          let e = ap (λ (k : ℕ). count k ps) same.1 in
          let there = end_in ps some in
          let p = parts q in
          let z : 1 ≤ count q after = omega (arith, e, there, p) in z)
          (λ (none : length ps ≤ 0).
          let old = others q (λ _. let z : length ps ≡ 0 = omega (arith, none) in z) in
          let one = are.marked q (let z : mark_of ends q ≡ 1 = omega (arith, old, mark) in z) in
          let p = parts q in
          let z : 1 ≤ count q after = omega (arith, one, p) in z)
          (cases_lt 0 (length ps))
      | inr other ↦
          let old = others q (λ e. absurd (other.1 e)) in
          let one = are.marked q (let z : mark_of ends q ≡ 1 = omega (arith, old, mark) in z) in
          let p = parts q in
          let z : 1 ≤ count q after = omega (arith, one, p) in z
    ];
  }
    where
      stays : (q : ℕ) → mark_of ends q ≡ 1 → mark_of new q ≡ 1
      stays q one = elim (eqb_tells q (end_of ps)) [
        | inl same ↦ ⊎_elim
            (λ (some : 0 < length ps).
            let e = ap (λ (k : ℕ). mark_of new k) same.1 in
            let there = last some in
            let z : mark_of new q ≡ 1 = omega (arith, e, there) in z)
            (λ (none : length ps ≤ 0).
            others q (λ _. let z : length ps ≡ 0 = omega (arith, none) in z) ∙ one)
            (cases_lt 0 (length ps))
        | inr other ↦ others q (λ e. absurd (other.1 e)) ∙ one
      ]
