-- Which entries stand below another: by steps to parents, and by their paths.
use Rattle.std.specs.Prelude.{◌≡◌, ◌≢◌, ◌==◌, ◌<◌, ◌≤◌, ◌+◌, ◌&&◌, ◌||◌, ℕ, zero, suc, Bool, true, false, List, [], ◌∷◌}
use Rattle.std.specs.Prelude.{◌++◌, ◌-◌, nat_eq}
use Rattle.std.specs.List.{starts_with}
use Rattle.std.proofs.Common.{refl, sym, ◌∙◌, ap, ap₂, arith, inl, inr, true≢false}
use Rattle.std.proofs.lemmas.Bool.Decides.{eqb_tells}
use Rattle.file_tree.specs.declared.entry.Entry.{Entry}
use Rattle.card_model.specs.FileTrees.{Path}
use Rattle.file_tree.specs.Table.{entry_in, ancestor, path_in, path_of, IsUsed, IsTable}
use Rattle.file_tree.specs.Subtrees.{leads, leads_up}
use Rattle.file_tree.specs.laws.Levels.{ancestor-more}
use Rattle.file_tree.specs.laws.Paths.{path-zero, path-below, path-enough, path_of-child, parent_used}
use Rattle.file_tree.specs.laws.Paths.{reaches_master, one_path}

pub and_false : (b : Bool) → b && false ≡ false
and_false true = refl
and_false false = refl

-- each path begins itself
pub starts-self : (q : Path) → starts_with nat_eq q q ≡ true
starts-self [] = refl
starts-self (x ∷ q) = elim (eqb_tells x x) [
  | inl same ↦ ap₂ (λ (a b : Bool). a && b) same.0 (starts-self q)
  | inr other ↦ absurd (other.1 refl)
]

-- One identifier more makes no difference to what begins a path, but where the whole is meant.
pub starts-push : (p q : Path) (x : ℕ) → (p ++ x ∷ [] ≡ q → ⊥)
    → starts_with nat_eq (p ++ x ∷ []) q ≡ starts_with nat_eq p q
starts-push [] [] x differ = refl
starts-push [] (y ∷ []) x differ = elim (eqb_tells y x) [
  | inl same ↦ absurd (differ (ap (λ (k : ℕ). k ∷ []) (sym same.1)))
  | inr other ↦ ap (λ (b : Bool). b && true) other.0
]
starts-push [] (y ∷ z ∷ q) x differ = and_false (nat_eq y x)
starts-push (w ∷ p) [] x differ = refl
starts-push (w ∷ p) (y ∷ q) x differ = elim (eqb_tells y w) [
  | inl same ↦ ap (λ (b : Bool). nat_eq y w && b)
      (starts-push p q x (λ is. differ (ap₂ (λ (k : ℕ) (ks : Path). k ∷ ks) (sym same.1) is)))
  | inr other ↦ ap (λ (b : Bool). b && starts_with nat_eq (p ++ x ∷ []) q) other.0
      ∙ sym (ap (λ (b : Bool). b && starts_with nat_eq p q) other.0)
]

-- Steps to parents.
pub leads-step : (parent : ℕ → ℕ) (n top e : ℕ) → e ≢ top → leads parent (suc n) top e ≡ leads parent n top (parent e)
unfolding leads
leads-step parent n top e differ = elim (eqb_tells e top) [
  | inl same ↦ absurd (differ same.1)
  | inr other ↦ ap (λ (b : Bool). b || leads parent n top (parent e)) other.0
]

pub leads-fixed : (parent : ℕ → ℕ) (n top e : ℕ) → parent e ≡ e → e ≢ top → leads parent n top e ≡ false
unfolding leads
leads-fixed parent zero top e own differ = elim (eqb_tells e top) [
  | inl same ↦ absurd (differ same.1)
  | inr other ↦ other.0
]
leads-fixed parent (suc n) top e own differ = leads-step parent n top e differ
    ∙ ap (leads parent n top) own ∙ leads-fixed parent n top e own differ

pub leads-here : (parent : ℕ → ℕ) (n top e : ℕ) → e ≡ top → leads parent n top e ≡ true
unfolding leads
leads-here parent zero top e is = elim (eqb_tells e top) [
  | inl same ↦ same.0
  | inr other ↦ absurd (other.1 is)
]
leads-here parent (suc n) top e is = elim (eqb_tells e top) [
  | inl same ↦ ap (λ (b : Bool). b || leads parent n top (parent e)) same.0
  | inr other ↦ absurd (other.1 is)
]

pub leads-none : (parent : ℕ → ℕ) (top e : ℕ) → e ≢ top → leads parent 0 top e ≡ false
unfolding leads
leads-none parent top e differ = elim (eqb_tells e top) [
  | inl same ↦ absurd (differ same.1)
  | inr other ↦ other.0
]

-- without a step it leads to itself alone
pub leads-zero : (parent : ℕ → ℕ) (n top e : ℕ) → n ≡ 0 → leads parent n top e ≡ (e == top)
unfolding leads
leads-zero parent zero top e none = refl
leads-zero parent (suc n) top e none = absurd (omega (arith, none))

module _ (t : List Entry) (rules : IsTable t) (top : ℕ) (above : 0 < top) (used : IsUsed t top) where
  -- the path over as many steps as lead to the master file is the whole
  stable : (k n f : ℕ) → k + n ≡ 7 → ancestor t n f ≡ 0 → path_in t n f ≡ path_of t f
  stable zero n f sum up = let all : n ≡ 7 = omega (arith, sum) in ap (λ (i : ℕ). path_in t i f) all
  stable (suc k) n f sum up =
      let more : ancestor t (suc n) f ≡ 0 = ancestor-more t n f ∙ ap (λ (a : ℕ). (entry_in t a).parent) up
      ∙ rules.master.parent in
      sym (path-enough t n f rules.master.parent up) ∙ stable k (suc n) f (omega (arith, sum)) more

  -- the master file is below no other file
  pub master_out : (n f : ℕ) → f ≡ 0 → leads_up t n top f ≡ false
  master_out zero f is =
      leads-none (λ e. (entry_in t e).parent) top f (λ same. let z : ⊥ = omega (arith, is, same, above) in z)
  master_out (suc n) f is =
      leads-step (λ e. (entry_in t e).parent) n top f (λ same. let z : ⊥ = omega (arith, is, same, above) in z)
      ∙ master_out n (entry_in t f).parent (ap (λ (k : ℕ). (entry_in t k).parent) is ∙ rules.master.parent)

  empty_out : (p : Path) → p ≡ [] → starts_with nat_eq p (path_of t top) ≡ false
  empty_out p none = by_path (path_of t top) refl
    where
      by_path : (q : Path) → path_of t top ≡ q → starts_with nat_eq p (path_of t top) ≡ false
      by_path [] is =
          let same = one_path t rules top 0 used (λ free. let k = rules.master.kind in let z : ⊥ =
          omega (arith, k, free) in z) (is ∙ sym (path-zero t 7 0 refl)) in
          absurd (omega (arith, same, above))
      by_path (x ∷ q) is = (λ i. starts_with nat_eq (none i) (is i))

  within_is : (n f : ℕ) → n ≤ 7 → ancestor t n f ≡ 0 → IsUsed t f
      → leads_up t n top f ≡ starts_with nat_eq (path_in t n f) (path_of t top)
  unfolding ancestor
  within_is zero f few up used_f = master_out 0 f up ∙ sym (empty_out (path_in t 0 f) (path-zero t 0 f up))
  within_is (suc n) f few up used_f = elim (eqb_tells f 0) [
    | inl is ↦ master_out (suc n) f is.1 ∙ sym (empty_out (path_in t (suc n) f) (path-zero t (suc n) f is.1))
    | inr below ↦ elim (eqb_tells f top) [
      | inl same ↦
          let whole = stable (7 - suc n) (suc n) f (omega (arith, few)) up ∙ ap (path_of t) same.1 in
          leads-here (λ e. (entry_in t e).parent) (suc n) top f same.1
          ∙ sym (ap (λ (p : Path). starts_with nat_eq p (path_of t top)) whole ∙ starts-self (path_of t top))
      | inr other ↦
          let some : 0 < f = (let d = below.1 in omega (arith, d)) in
          let whole = stable (7 - suc n) (suc n) f (omega (arith, few)) up in
          let parts = path-below t n f below.1 in
          leads-step (λ e. (entry_in t e).parent) n top f other.1
          ∙ within_is n (entry_in t f).parent (omega (arith, few)) up (parent_used t rules f some used_f)
          ∙ sym (starts-push (path_in t n (entry_in t f).parent) (path_of t top) (entry_in t f).identifier
          (λ is. other.1 (one_path t rules f top used_f used (sym whole ∙ parts ∙ is))))
          ∙ ap (λ (p : Path). starts_with nat_eq p (path_of t top)) (sym parts)
    ]
  ]

  -- An entry stands below another, or is it, where its path begins with the other's.
  pub within_path : (f : ℕ) → IsUsed t f → leads_up t 7 top f ≡ starts_with nat_eq (path_of t f) (path_of t top)
  within_path f used_f = within_is 7 f (omega arith) (reaches_master t rules f used_f) used_f

  -- what is not below it has a parent that is not below it
  pub parent_out : (f : ℕ) → IsUsed t f → leads_up t 7 top f ≡ false → leads_up t 7 top (entry_in t f).parent ≡ false
  parent_out f used_f out = elim (eqb_tells f 0) [
    | inl is ↦ master_out 7 (entry_in t f).parent (ap (λ (k : ℕ). (entry_in t k).parent) is.1 ∙ rules.master.parent)
    | inr below ↦
        let some : 0 < f = (let d = below.1 in omega (arith, d)) in
        let grown = path_of-child t rules f some used_f in
        let here : starts_with nat_eq (path_of t f) (path_of t top) ≡ false = sym (within_path f used_f) ∙ out in
        within_path (entry_in t f).parent (parent_used t rules f some used_f)
        ∙ sym (starts-push (path_of t (entry_in t f).parent) (path_of t top) (entry_in t f).identifier (λ is.
        true≢false (sym (starts-self (path_of t top))
        ∙ ap (λ (p : Path). starts_with nat_eq p (path_of t top)) (sym is ∙ sym grown) ∙ here)))
        ∙ ap (λ (p : Path). starts_with nat_eq p (path_of t top)) (sym grown) ∙ here
  ]
