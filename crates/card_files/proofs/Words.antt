-- The words of a command line, taken one by one from an iterator.
use Rattle.std.proofs.Common.{◌≡◌, ◌+◌, ℕ, suc, List, ◌∷◌, map, take, refl, sym, subst, arith}
use Rattle.card_files.specs.CommandLines.{no_options, GivenOptions, TakesRole, TakesWords}

-- a word is taken, then the rest
pub takes_first : {X : Type 0} (bytes : X → List ℕ) (old mid last : GivenOptions) (words rest : List X) (n k : ℕ)
    (word : X) → words ≡ word ∷ rest → k + 1 ≡ n → TakesRole old.role old (bytes word) mid
    → TakesWords mid (map bytes (take k rest)) last → TakesWords old (map bytes (take n words)) last
unfolding TakesWords
takes_first {X} bytes old mid last words rest n k word is more role behind =
    let size : suc k ≡ n = omega (arith, more) in
    subst (λ (m : ℕ). TakesWords old (map bytes (take m words)) last) size
    (subst (λ (ws : List X). TakesWords old (map bytes (take (suc k) ws)) last) (sym is) (mid, role, behind))

-- no word is left
pub takes_none : {X : Type 0} (bytes : X → List ℕ) (old : GivenOptions) (words : List X) (n : ℕ) → n ≡ 0
    → TakesWords old (map bytes (take n words)) old
unfolding TakesWords
takes_none bytes old words n none =
    subst (λ (m : ℕ). TakesWords old (map bytes (take m words)) old) (sym none) refl

-- all words are taken
pub takes_all : {I : Type 0} (words : I → List (List ℕ)) (first last : GivenOptions) (given iterator : I)
    → first ≡ no_options → iterator ≡ given → TakesWords first (words iterator) last
    → TakesWords no_options (words given) last
takes_all {I} words first last given iterator none same told =
    subst (λ (start : GivenOptions). TakesWords start (words given) last) none
    (subst (λ (i : I). TakesWords first (words i) last) same told)
