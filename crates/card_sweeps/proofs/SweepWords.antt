-- The words of a command line, taken one by one from an iterator.
use Rattle.std.proofs.Common.{◌≡◌, ◌+◌, ℕ, suc, List, ◌∷◌, Option, None, map, take, refl, sym, subst, arith, inl, inr}
use Rattle.card_sweeps.specs.SweepOptions.{AsksForSweep, EndsSweepWords, GivenSweep, IsUnknownWord, TakesSweepWord}
use Rattle.card_sweeps.specs.declared.options.Options.{Options}

-- a word is taken, then the rest
pub asks-next : {X : Type 0} (bytes : X → List ℕ) (old mid : GivenSweep) (asked : Option Options)
    (words rest : List X) (n k : ℕ) (word : X) → words ≡ word ∷ rest → k + 1 ≡ n
    → TakesSweepWord old (bytes word) mid
    → AsksForSweep mid (map bytes (take k rest)) asked → AsksForSweep old (map bytes (take n words)) asked
unfolding AsksForSweep
asks-next {X} bytes old mid asked words rest n k word is more takes behind =
    let size : suc k ≡ n = omega (arith, more) in
    subst (λ (m : ℕ). AsksForSweep old (map bytes (take m words)) asked) size
    (subst (λ (ws : List X). AsksForSweep old (map bytes (take (suc k) ws)) asked) (sym is)
    (inr (mid, takes, behind)))

-- a word is unknown
pub asks-unknown : {X : Type 0} (bytes : X → List ℕ) (old : GivenSweep)
    (words rest : List X) (n k : ℕ) (word : X) → words ≡ word ∷ rest → k + 1 ≡ n
    → IsUnknownWord old (bytes word) → AsksForSweep old (map bytes (take n words)) None
unfolding AsksForSweep
asks-unknown {X} bytes old words rest n k word is more unknown =
    let size : suc k ≡ n = omega (arith, more) in
    subst (λ (m : ℕ). AsksForSweep old (map bytes (take m words)) None) size
    (subst (λ (ws : List X). AsksForSweep old (map bytes (take (suc k) ws)) None) (sym is) (inl (unknown, refl)))

-- no word is left
pub asks-none : {X : Type 0} (bytes : X → List ℕ) (old : GivenSweep) (asked : Option Options) (words : List X) (n : ℕ)
    → n ≡ 0 → EndsSweepWords old asked → AsksForSweep old (map bytes (take n words)) asked
unfolding AsksForSweep
asks-none bytes old asked words n none ends =
    subst (λ (m : ℕ). AsksForSweep old (map bytes (take m words)) asked) (sym none) ends

-- an iterator over all words
pub asks-all : {I : Type 0} (words : I → List (List ℕ)) (first : GivenSweep) (asked : Option Options)
    (given iterator : I) → iterator ≡ given → AsksForSweep first (words iterator) asked
    → AsksForSweep first (words given) asked
asks-all words first asked given iterator same told =
    subst (λ i. AsksForSweep first (words i) asked) same told
