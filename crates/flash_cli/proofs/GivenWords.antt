-- What words give that begin with the option for small sectors.
use Rattle.std.specs.Prelude.{◌≡◌, ◌+◌, ℕ, Bool, true, false, List, [], ◌∷◌, Option, None, Some, IfNone, IfSome, codes}
use Rattle.std.specs.Prelude.{drop, get_or, map, nat_eq, not, suc, take}
use Rattle.std.specs.Cmp.Lexicographic.{bytes_decides, pointwise}
use Rattle.std.proofs.Common.{arith, ap, inl, refl, subst, sym, true≢false, ◌∙◌}
use Rattle.flash_cli.specs.SeedWords.{GiveFlash, GiveNoFlash, GiveNoSeed, GiveSeed, IsSeedText, words_for}
use Rattle.flash_cli.specs.declared.given.Given.{Given}

-- the next word, and those behind it
next_word : {X Y : Type 0} (f : X → Y) (n m : ℕ) (xs ys : List X) (x : X) → xs ≡ x ∷ ys → m + 1 ≡ n
    → map f (take n xs) ≡ f x ∷ map f (take m ys)
next_word f n m xs ys x is len =
    let on : suc m ≡ n = omega (arith, len) in
    sym (ap (λ k. map f (take k xs)) on) ∙ ap (λ l. map f (take (suc m) l)) is

-- bytes that do not differ are the same
pub same_bytes : (xs ys : List ℕ) → false ≡ not (pointwise nat_eq xs ys) → xs ≡ ys
same_bytes xs ys same = (bytes_decides xs ys).0 (by_test (pointwise nat_eq xs ys) same)
  where
    by_test : (b : Bool) → false ≡ not b → b ≡ true
    by_test true same = refl
    by_test false same = absurd (true≢false (sym same))

-- the words of which the second one is the option
pub option_first : {X : Type 0} (f : X → List ℕ) (n0 n1 n2 n3 : ℕ) (i0 i1 i2 i3 : List X) (name option text : X)
    → i0 ≡ name ∷ i1 → n1 + 1 ≡ n0 → i1 ≡ option ∷ i2 → n2 + 1 ≡ n1 → i2 ≡ text ∷ i3 → n3 + 1 ≡ n2
    → f option ≡ codes "--small-sectors"
    → map f (take n0 i0) ≡ words_for true (f name) (f text) (map f (take n3 i3))
option_first f n0 n1 n2 n3 i0 i1 i2 i3 name option text a na b nb c nc is =
    let options = map f (take n3 i3) in
    next_word f n0 n1 i0 i1 name a na
    ∙ ap (λ (l : List (List ℕ)). f name ∷ l) (next_word f n1 n2 i1 i2 option b nb)
    ∙ ap (λ (l : List (List ℕ)). f name ∷ f option ∷ l) (next_word f n2 n3 i2 i3 text c nc)
    ∙ ap (λ (w : List ℕ). f name ∷ w ∷ f text ∷ options) is

-- the option is no seed
option_is_no_seed : (seed : ℕ) → IsSeedText (codes "--small-sectors") seed → ⊥
option_is_no_seed seed is = omega (arith, is.numeral.1.0)

module _ (words : List (List ℕ)) (name text : List ℕ) (options : List (List ℕ))
    (are : words ≡ words_for true name text options) where
  pub small_given : (r : Option Given) → IfSome r (λ given. given.small ≡ true)
      → IfSome r (λ given. GiveSeed text options given.seed given.asked)
      → IfSome r (λ given. GiveFlash words given.small given.seed given.asked)
  small_given None small gives = tt
  small_given (Some given) small gives = record {
    name = name;
    text = text;
    options = options;
    parts = are ∙ sym (ap (λ (b : Bool). words_for b name text options) small);
    gives = gives;
  }

  none_in : GiveNoSeed text options → GiveNoFlash words
  none_in none true n other rest is =
      let same = sym are ∙ is in
      subst (λ (l : List (List ℕ)). GiveNoSeed other l) (ap (λ (l : List (List ℕ)). drop 3 l) same)
      (subst (λ (t : List ℕ). GiveNoSeed t options) (ap (λ (l : List (List ℕ)). get_or l 2 []) same) none)
  none_in none false n other rest is =
      let same = sym are ∙ is in
      let option : codes "--small-sectors" ≡ other = ap (λ (l : List (List ℕ)). get_or l 1 []) same in
      inl (λ seed gives. option_is_no_seed seed (subst (λ (t : List ℕ). IsSeedText t seed) (sym option) gives))

  pub none_given : (r : Option Given) → IfNone r (GiveNoSeed text options) → IfNone r (GiveNoFlash words)
  none_given None none = none_in none
  none_given (Some given) none = tt
