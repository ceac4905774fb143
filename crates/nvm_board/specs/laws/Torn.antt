-- Laws of written and torn runs.
use Rattle.std.specs.Prelude.{◌≡◌, ◌⊎◌, ◌<◌, ◌≤◌, ◌+◌, ◌^◌, ℕ, List, [], ◌∷◌, length, slice_index, slice_set, bit_and}
use Rattle.std.proofs.Common.{◌≢◌, zero, suc, refl, sym, ◌∙◌, ap, subst, inl, inr, take, arith, get_or-set_same}
use Rattle.std.proofs.Common.{get_or-set_other}
use Rattle.std.proofs.Math.ListN.{length-set}
use Rattle.std.proofs.Math.Logic.{⊎_map}
use Rattle.std.proofs.lemmas.Bool.{cases_lt, cases_order}
use Rattle.std.proofs.lemmas.Bool.Decides.{eqb_tells}
use Rattle.std.proofs.lemmas.Grind.{same_number_lists}
use Rattle.nvm_board.specs.History.{written}
use Rattle.nvm_board.specs.Torn.{Torn, IsMixture, IsTornBy}

-- a written run leaves as many words
pub length-written : (m run : List ℕ) (at : ℕ) → length (written m at run) ≡ length m
length-written m [] at = refl
length-written m (w ∷ run) at = length-written (slice_set m at w) run (at + 1) ∙ length-set m at w

-- a word outside the run stays
pub written-elsewhere : (m run : List ℕ) (at k : ℕ) → (k < at) ⊎ (at + length run ≤ k)
    → slice_index (written m at run) k ≡ slice_index m k
written-elsewhere m [] at k h = refl
written-elsewhere m (w ∷ run) at k (inl before) =
    let other : k ≢ at = omega arith in
    let lt : k < at + 1 = omega arith in
    written-elsewhere (slice_set m at w) run (at + 1) k (inl lt) ∙ get_or-set_other m at k w 0 other
written-elsewhere m (w ∷ run) at k (inr past) =
    let other : k ≢ at = omega arith in
    let le : at + 1 + length run ≤ k = omega arith in
    written-elsewhere (slice_set m at w) run (at + 1) k (inr le) ∙ get_or-set_other m at k w 0 other

-- a word inside the run is the run's
pub written-inside : (m run : List ℕ) (at k : ℕ) → at + length run ≤ length m → k < length run
    → slice_index (written m at run) (at + k) ≡ slice_index run k
written-inside m [] at k fits lt = absurd (omega arith)
written-inside m (w ∷ run) at zero fits lt =
    let here : at + zero ≡ at = omega arith in
    let before : at < at + 1 = omega arith in
    let within : at < length m = omega arith in
    ap (λ (j : ℕ). slice_index (written (slice_set m at w) (at + 1) run) j) here
    ∙ written-elsewhere (slice_set m at w) run (at + 1) at (inl before) ∙ get_or-set_same m at w 0 within
written-inside m (w ∷ run) at (suc k) fits lt =
    let place : at + suc k ≡ at + 1 + k = omega arith in
    let fits_on : at + 1 + length run ≤ length (slice_set m at w) = omega (arith, length-set m at w) in
    let below : k < length run = omega arith in
    ap (λ (j : ℕ). slice_index (written (slice_set m at w) (at + 1) run) j) place
    ∙ written-inside (slice_set m at w) run (at + 1) k fits_on below

-- a run that is one word longer
pub written-more : (m run : List ℕ) (at i : ℕ) → i < length run
    → slice_set (written m at (take i run)) (at + i) (slice_index run i) ≡ written m at (take (i + 1) run)
written-more m [] at i lt = absurd (omega arith)
written-more m (w ∷ run) at zero lt =
    let here : at + zero ≡ at = omega arith in
    ap (λ (j : ℕ). slice_set m j w) here
written-more m (w ∷ run) at (suc i) lt =
    let place : at + suc i ≡ at + 1 + i = omega arith in
    let more : suc i + 1 ≡ suc (i + 1) = omega arith in
    let below : i < length run = omega arith in
    ap (λ (j : ℕ). slice_set (written (slice_set m at w) (at + 1) (take i run)) j (slice_index run i)) place
    ∙ written-more (slice_set m at w) run (at + 1) i below ∙ ap (λ (n : ℕ). written m at (take n (w ∷ run))) (sym more)

-- a torn write that wrote nothing
pub Torn-none : (m run : List ℕ) (at : ℕ) → Torn m at run m
Torn-none m [] at = refl
Torn-none m (w ∷ run) at = inl (Torn-none m run (at + 1))

-- a torn write that wrote all
pub Torn-all : (m run : List ℕ) (at : ℕ) → Torn m at run (written m at run)
Torn-all m [] at = refl
Torn-all m (w ∷ run) at = inr (Torn-all (slice_set m at w) run (at + 1))

-- a torn run leaves as many words
pub length-Torn : (m run after : List ℕ) (at : ℕ) → Torn m at run after → length after ≡ length m
length-Torn m [] after at e = ap length e
length-Torn m (w ∷ run) after at (inl old) = length-Torn m run after (at + 1) old
length-Torn m (w ∷ run) after at (inr new) =
    length-Torn (slice_set m at w) run after (at + 1) new ∙ length-set m at w

-- and a word outside of it stays
pub Torn-elsewhere : (m run after : List ℕ) (at k : ℕ) → Torn m at run after → (k < at) ⊎ (at + length run ≤ k)
    → slice_index after k ≡ slice_index m k
Torn-elsewhere m [] after at k e outside = ap (λ (l : List ℕ). slice_index l k) e
Torn-elsewhere m (w ∷ run) after at k (inl old) (inl before) =
    let lt : k < at + 1 = omega arith in Torn-elsewhere m run after (at + 1) k old (inl lt)
Torn-elsewhere m (w ∷ run) after at k (inl old) (inr past) =
    let le : at + 1 + length run ≤ k = omega arith in Torn-elsewhere m run after (at + 1) k old (inr le)
Torn-elsewhere m (w ∷ run) after at k (inr new) (inl before) =
    let lt : k < at + 1 = omega arith in
    let other : k ≢ at = omega arith in
    Torn-elsewhere (slice_set m at w) run after (at + 1) k new (inl lt) ∙ get_or-set_other m at k w 0 other
Torn-elsewhere m (w ∷ run) after at k (inr new) (inr past) =
    let le : at + 1 + length run ≤ k = omega arith in
    let other : k ≢ at = omega arith in
    Torn-elsewhere (slice_set m at w) run after (at + 1) k new (inr le) ∙ get_or-set_other m at k w 0 other

-- a run after a word that stayed old, by index
each-old : (m run after : List ℕ) (at w : ℕ) → IsMixture m (at + 1) run after → (k : ℕ) → k < suc (length run)
    → (slice_index after (at + k) ≡ slice_index m (at + k)) ⊎ (slice_index after (at + k) ≡ slice_index (w ∷ run) k)
each-old m run after at w h zero lt =
    let before : at + zero < at + 1 = omega arith in
    inl (h.elsewhere (at + zero) (inl before))
each-old m run after at w h (suc k) lt =
    let place : at + 1 + k ≡ at + suc k = omega arith in
    let below : k < length run = omega arith in
    let family : ℕ → Type 0 = λ j. (slice_index after j ≡ slice_index m j)
    ⊎ (slice_index after j ≡ slice_index run k) in
    subst family place (h.each k below)

-- a run after a word that became new, by index
each-new : (m run after : List ℕ) (at w : ℕ) → at < length m → IsMixture (slice_set m at w) (at + 1) run after → (k : ℕ)
    → k < suc (length run) → (slice_index after (at + k) ≡ slice_index m (at + k))
    ⊎ (slice_index after (at + k) ≡ slice_index (w ∷ run) k)
each-new m run after at w within h zero lt =
    let here : at + zero ≡ at = omega arith in
    let before : at < at + 1 = omega arith in
    inr (ap (λ (j : ℕ). slice_index after j) here ∙ h.elsewhere at (inl before) ∙ get_or-set_same m at w 0 within)
each-new m run after at w within h (suc k) lt =
    let place : at + 1 + k ≡ at + suc k = omega arith in
    let other : at + 1 + k ≢ at = omega arith in
    let below : k < length run = omega arith in
    let family : ℕ → Type 0 = λ j. (slice_index after j ≡ slice_index m j)
    ⊎ (slice_index after j ≡ slice_index run k) in
    subst family place (⊎_map (λ old. old ∙ get_or-set_other m at (at + 1 + k) w 0 other) (λ new. new) (h.each k below))

-- a run before whose rest a word stayed old
tail-old : (m run after : List ℕ) (at w : ℕ) → IsMixture m at (w ∷ run) after → slice_index after at ≡ slice_index m at
    → IsMixture m (at + 1) run after
tail-old m run after at w h here = record {
  size = h.size;
  elsewhere = λ k outside. elim (cases_order k at) [
    | inl same ↦ let family : ℕ → Type 0 = λ j. slice_index after j ≡ slice_index m j in subst family (sym same) here
    | inr (inl before) ↦ h.elsewhere k (inl before)
    | inr (inr past) ↦ elim outside [
      | inl near ↦ absurd (omega arith)
      | inr far ↦ let le : at + suc (length run) ≤ k = omega arith in h.elsewhere k (inr le)
    ]
  ];
  each = λ k lt.
      let place : at + suc k ≡ at + 1 + k = omega arith in
      let below : suc k < suc (length run) = omega arith in
      let family : ℕ → Type 0 = λ j. (slice_index after j ≡ slice_index m j)
      ⊎ (slice_index after j ≡ slice_index run k) in
      subst family place (h.each (suc k) below);
}

-- a run before whose rest a word became new
tail-new : (m run after : List ℕ) (at w : ℕ) → at < length m → IsMixture m at (w ∷ run) after → slice_index after at ≡ w
    → IsMixture (slice_set m at w) (at + 1) run after
tail-new m run after at w within h here = record {
  size = h.size ∙ sym (length-set m at w);
  elsewhere = λ k outside. elim (cases_order k at) [
    | inl same ↦ let family : ℕ → Type 0 = λ j. slice_index after j ≡ slice_index (slice_set m at w) j in
        subst family (sym same) (here ∙ sym (get_or-set_same m at w 0 within))
    | inr (inl before) ↦ let other : k ≢ at = omega arith in h.elsewhere k (inl before)
        ∙ sym (get_or-set_other m at k w 0 other)
    | inr (inr past) ↦ elim outside [
      | inl near ↦ absurd (omega arith)
      | inr far ↦ let le : at + suc (length run) ≤ k = omega arith in let other : k ≢ at = omega arith in
          h.elsewhere k (inr le) ∙ sym (get_or-set_other m at k w 0 other)
    ]
  ];
  each = λ k lt.
      let place : at + suc k ≡ at + 1 + k = omega arith in
      let below : suc k < suc (length run) = omega arith in
      let other : at + 1 + k ≢ at = omega arith in
      let family : ℕ → Type 0 = λ j. (slice_index after j ≡ slice_index m j)
      ⊎ (slice_index after j ≡ slice_index run k) in
      ⊎_map (λ old. old ∙ sym (get_or-set_other m at (at + 1 + k) w 0 other)) (λ new. new)
      (subst family place (h.each (suc k) below));
}

-- what a torn run leaves, by index
pub IsMixture-Torn : (m run after : List ℕ) (at : ℕ) → at + length run ≤ length m → Torn m at run after
    → IsMixture m at run after
IsMixture-Torn m [] after at fits e = record {
  size = ap length e;
  elsewhere = λ k _. ap (λ (l : List ℕ). slice_index l k) e;
  each = λ k lt. absurd (omega arith);
}
IsMixture-Torn m (w ∷ run) after at fits (inl old) =
    let fits_on : at + 1 + length run ≤ length m = omega arith in
    let rest : IsMixture m (at + 1) run after = IsMixture-Torn m run after (at + 1) fits_on old in
    record {
      size = rest.size;
      elsewhere = λ k outside. elim outside [
        | inl before ↦ let lt : k < at + 1 = omega arith in rest.elsewhere k (inl lt)
        | inr past ↦ let le : at + 1 + length run ≤ k = omega arith in rest.elsewhere k (inr le)
      ];
      each = each-old m run after at w rest;
    }
IsMixture-Torn m (w ∷ run) after at fits (inr new) =
    let within : at < length m = omega arith in
    let fits_on : at + 1 + length run ≤ length (slice_set m at w) = omega (arith, length-set m at w) in
    let rest : IsMixture (slice_set m at w) (at + 1) run after =
    IsMixture-Torn (slice_set m at w) run after (at + 1) fits_on new in
    record {
      size = rest.size ∙ length-set m at w;
      elsewhere = λ k outside. elim outside [
        | inl before ↦ let lt : k < at + 1 = omega arith in let other : k ≢ at = omega arith in
            rest.elsewhere k (inl lt) ∙ get_or-set_other m at k w 0 other
        | inr past ↦ let le : at + 1 + length run ≤ k = omega arith in let other : k ≢ at = omega arith in
            rest.elsewhere k (inr le) ∙ get_or-set_other m at k w 0 other
      ];
      each = each-new m run after at w within rest;
    }

-- every list of as many words that is so by index may be left
pub Torn-IsMixture : (m run after : List ℕ) (at : ℕ) → at + length run ≤ length m → IsMixture m at run after
    → Torn m at run after
Torn-IsMixture m [] after at fits h =
    let everywhere : (k : ℕ) → k < length after → slice_index after k ≡ slice_index m k = λ k _. elim (cases_lt k at) [
      | inl before ↦ h.elsewhere k (inl before)
      | inr past ↦ let le : at + 0 ≤ k = omega arith in h.elsewhere k (inr le)
    ] in
    same_number_lists after m h.size everywhere
Torn-IsMixture m (w ∷ run) after at fits h =
    let within : at < length m = omega arith in
    let some : 0 < suc (length run) = omega arith in
    let here : at + 0 ≡ at = omega arith in
    let fits_old : at + 1 + length run ≤ length m = omega arith in
    let fits_new : at + 1 + length run ≤ length (slice_set m at w) = omega (arith, length-set m at w) in
    let family : ℕ → Type 0 = λ j. (slice_index after j ≡ slice_index m j) ⊎ (slice_index after j ≡ w) in
    ⊎_map
    (λ old. Torn-IsMixture m run after (at + 1) fits_old (tail-old m run after at w h old))
    (λ new. Torn-IsMixture (slice_set m at w) run after (at + 1) fits_new (tail-new m run after at w within h new))
    (subst family here (h.each 0 some))

-- a run torn by a mask
pub Torn-IsTornBy : (mask : ℕ) (m run after : List ℕ) (at : ℕ) → at + length run ≤ length m
    → IsTornBy mask m at run after → Torn m at run after
Torn-IsTornBy mask m run after at fits h =
    Torn-IsMixture m run after at fits (record {
      size = h.size;
      elsewhere = h.elsewhere;
      each = λ k lt. elim (eqb_tells (bit_and mask (2 ^ k)) 0) [
        | inl clear ↦ inl (h.others k lt (λ set. set clear.1))
        | inr set ↦ inr (h.chosen k lt set.1)
      ];
    })
