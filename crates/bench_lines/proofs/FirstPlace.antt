-- The first of the places that an iterator over bytes gives.
use Rattle.std.proofs.Common.{◌≡◌, ◌+◌, ◌-◌, ℕ, zero, suc, Bool, List, [], ◌∷◌, length, slice_index}
use Rattle.std.proofs.Common.{ap, arith, subst, sym, ◌∙◌, ⊎_elim}
use Rattle.std.proofs.lemmas.Bool.{cases_Bool, cond-true, cond-false, cases_eq, false≢true}
use Rattle.memchr.specs.Find.{NoneBefore, Nowhere, Passes, places, places_from}

module _ (test : ℕ → Bool) (bytes : List ℕ) where
  -- the place that is given first is the first one that passes
  first-from : (i n k : ℕ) (rest : List ℕ) → places_from test bytes i n ≡ k ∷ rest
      → NoneBefore (Passes test bytes) i (i + n) k × Passes test bytes k
  unfolding places_from
  first-from i zero k rest is = let size : 0 ≡ suc (length rest) = ap length is in absurd (omega (arith, size))
  first-from i (suc n) k rest is = ⊎_elim
      (λ passes.
      let both : i ∷ places_from test bytes (i + 1) n ≡ k ∷ rest = sym (cond-true _ _ _ passes) ∙ is in
      let same : i ≡ k = cc in (
        record {
          low = omega (arith, same);
          high = omega (arith, same);
          before = λ j low high. absurd (omega (arith, same));
        },
        subst (Passes test bytes) same passes,
      ))
      (λ fails.
      let later = first-from (i + 1) n k rest (sym (cond-false _ _ _ fails) ∙ is) in
      let low = later.0.low in
      let high = later.0.high in (
        record {
          low = omega (arith, low);
          high = omega (arith, high);
          before = λ j from below passes. ⊎_elim
              (λ same. absurd (false≢true (sym fails ∙ subst (Passes test bytes) same passes)))
              (λ other. later.0.before j (omega (arith, from, other)) below passes)
              (cases_eq j i);
        },
        later.1,
      ))
      (cases_Bool (test (slice_index bytes i)))

  -- where none is given none passes
  none-from : (i n : ℕ) → places_from test bytes i n ≡ [] → Nowhere (Passes test bytes) i (i + n)
  unfolding places_from
  none-from i zero is = λ j low high. absurd (omega (arith, low, high))
  none-from i (suc n) is = ⊎_elim
      (λ passes.
      let both : i ∷ places_from test bytes (i + 1) n ≡ [] = sym (cond-true _ _ _ passes) ∙ is in
      let size : suc (length (places_from test bytes (i + 1) n)) ≡ 0 = ap length both in
      absurd (omega (arith, size)))
      (λ fails. λ j from below passes. ⊎_elim
      (λ same. absurd (false≢true (sym fails ∙ subst (Passes test bytes) same passes)))
      (λ other. none-from (i + 1) n (sym (cond-false _ _ _ fails) ∙ is) j (omega (arith, from, other))
      (omega (arith, below)) passes)
      (cases_eq j i))
      (cases_Bool (test (slice_index bytes i)))

  pub first-given : (k : ℕ) (rest : List ℕ) → places test bytes ≡ k ∷ rest
      → NoneBefore (Passes test bytes) 0 (length bytes) k × Passes test bytes k
  first-given k rest is =
      let all : 0 + (length bytes - 0) ≡ length bytes = omega arith in
      subst (λ (n : ℕ). NoneBefore (Passes test bytes) 0 n k × Passes test bytes k) all
      (first-from 0 (length bytes - 0) k rest is)

  pub none-given : places test bytes ≡ [] → Nowhere (Passes test bytes) 0 (length bytes)
  none-given is =
      let all : 0 + (length bytes - 0) ≡ length bytes = omega arith in
      subst (λ (n : ℕ). Nowhere (Passes test bytes) 0 n) all (none-from 0 (length bytes - 0) is)
