-- Paths of entries: how they grow, that no two files have one, and that they lead back by their parents.
use Rattle.std.specs.Prelude.{◌≡◌, ◌≢◌, ◌<◌, ◌-◌, ℕ, zero, suc, Bool, if◌then◌else◌, List, [], ◌∷◌}
use Rattle.std.specs.Prelude.{◌++◌, length}
use Rattle.std.proofs.Common.{refl, sym, ◌∙◌, ap, arith, inl, inr}
use Rattle.std.proofs.lemmas.List.{length-append}
use Rattle.std.proofs.lemmas.Bool.Decides.{eqb_tells}
use Rattle.file_tree.specs.declared.entry.Entry.{Entry}
use Rattle.card_model.specs.FileTrees.{Path, parent, identifier}
use Rattle.card_model.specs.laws.PathEnds.{parent-push, identifier-push}
use Rattle.file_tree.specs.Table.{entry_in, ancestor, path_in, path_of, IsUsed, IsChild, IsTable}
use Rattle.file_tree.specs.laws.Levels.{ancestor-step}

-- the master file's path is empty
pub path-zero : (t : List Entry) (n e : ℕ) → e ≡ 0 → path_in t n e ≡ []
unfolding path_in
path-zero t zero e is = refl
path-zero t (suc n) e is = elim (eqb_tells e 0) [
  | inl same ↦ ap (λ (b : Bool). if b then []
      else path_in t n (entry_in t e).parent ++ (entry_in t e).identifier ∷ []) same.0
  | inr other ↦ absurd (other.1 is)
]

-- the path of another file is its parent's, and its identifier
pub path-below : (t : List Entry) (n e : ℕ) → e ≢ 0
    → path_in t (suc n) e ≡ path_in t n (entry_in t e).parent ++ (entry_in t e).identifier ∷ []
unfolding path_in
path-below t n e some = elim (eqb_tells e 0) [
  | inl same ↦ absurd (some same.1)
  | inr other ↦ ap (λ (b : Bool). if b then []
      else path_in t n (entry_in t e).parent ++ (entry_in t e).identifier ∷ []) other.0
]

-- more steps than lead to the master file add nothing
pub path-enough : (t : List Entry) (n e : ℕ) → (entry_in t 0).parent ≡ 0 → ancestor t n e ≡ 0
    → path_in t (suc n) e ≡ path_in t n e
unfolding path_in ancestor
path-enough t zero e master up = path-zero t 1 e up
path-enough t (suc n) e master up = elim (eqb_tells e 0) [
  | inl same ↦ path-zero t (suc (suc n)) e same.1 ∙ sym (path-zero t (suc n) e same.1)
  | inr other ↦ path-below t (suc n) e other.1
      ∙ ap (λ (p : Path). p ++ (entry_in t e).identifier ∷ []) (path-enough t n (entry_in t e).parent master up)
      ∙ sym (path-below t n e other.1)
]

same_last : (ps qs : Path) (a b : ℕ) → ps ++ a ∷ [] ≡ qs ++ b ∷ [] → (ps ≡ qs) × (a ≡ b)
same_last ps qs a b same = (
  sym (parent-push ps a) ∙ ap parent same ∙ parent-push qs b,
  sym (identifier-push ps a) ∙ ap identifier same ∙ identifier-push qs b,
)

pub not_empty : (ps : Path) (a : ℕ) → ps ++ a ∷ [] ≡ [] → ⊥
not_empty ps a same = let l = length-append ps (a ∷ []) in let s = ap (λ (xs : Path). length xs) same in
    omega (arith, l, s)

module _ (t : List Entry) (rules : IsTable t) where
  -- the parent of a used entry is used
  pub parent_used : (e : ℕ) → 0 < e → IsUsed t e → IsUsed t (entry_in t e).parent
  parent_used e below used none = let k = (rules.below e below used).parent in let z : ⊥ = omega (arith, k, none) in z

  pub master_used : IsUsed t 0
  master_used none = let k = rules.master.kind in let z : ⊥ = omega (arith, k, none) in z

  -- by seven steps the master file is reached from each used entry
  ancestor-master : (n e : ℕ) → e ≡ 0 → ancestor t n e ≡ 0
  unfolding ancestor
  ancestor-master zero e is = is
  ancestor-master (suc n) e is = ancestor-master n (entry_in t e).parent (ap (λ (k : ℕ). (entry_in t k).parent) is
      ∙ rules.master.parent)

  pub reaches_master : (e : ℕ) → IsUsed t e → ancestor t 7 e ≡ 0
  reaches_master e used = elim (eqb_tells e 0) [
    | inl same ↦ ancestor-master 7 e same.1
    | inr other ↦ let above : 0 < e = (let d = other.1 in omega (arith, d)) in (rules.below e above used).level
  ]

  one_file : (n e f : ℕ) → ancestor t n e ≡ 0 → ancestor t n f ≡ 0 → IsUsed t e → IsUsed t f
      → path_in t n e ≡ path_in t n f → e ≡ f
  unfolding ancestor
  one_file zero e f up_e up_f used_e used_f same = up_e ∙ sym up_f
  one_file (suc n) e f up_e up_f used_e used_f same = elim (eqb_tells e 0) [
    | inl e_zero ↦ elim (eqb_tells f 0) [
      | inl f_zero ↦ e_zero.1 ∙ sym f_zero.1
      | inr f_below ↦ absurd (not_empty _ _ (sym (path-below t n f f_below.1) ∙ sym same
          ∙ path-zero t (suc n) e e_zero.1))
    ]
    | inr e_below ↦ elim (eqb_tells f 0) [
      | inl f_zero ↦ absurd (not_empty _ _ (sym (path-below t n e e_below.1) ∙ same ∙ path-zero t (suc n) f f_zero.1))
      | inr f_below ↦
          let both = same_last _ _ _ _ (sym (path-below t n e e_below.1) ∙ same ∙ path-below t n f f_below.1) in
          let some_e : 0 < e = (let d = e_below.1 in omega (arith, d)) in
          let some_f : 0 < f = (let d = f_below.1 in omega (arith, d)) in
          let up = one_file n (entry_in t e).parent (entry_in t f).parent up_e up_f
          (parent_used e some_e used_e) (parent_used f some_f used_f) both.0 in
          rules.identifiers (entry_in t f).parent e f
          (record { below = some_e; used = used_e; parent = up })
          (record { below = some_f; used = used_f; parent = refl })
          both.1
    ]
  ]

  -- Files with one path are one file.
  pub one_path : (e f : ℕ) → IsUsed t e → IsUsed t f → path_of t e ≡ path_of t f → e ≡ f
  one_path e f used_e used_f same = one_file 7 e f (reaches_master e used_e)
      (reaches_master f used_f) used_e used_f same

  -- the path of a child is its parent's, and its identifier
  pub path_of-child : (e : ℕ) → 0 < e → IsUsed t e
      → path_of t e ≡ path_of t (entry_in t e).parent ++ (entry_in t e).identifier ∷ []
  path_of-child e above used =
      let some : e ≢ 0 = λ is. omega (arith, is, above) in
      let up : ancestor t 6 (entry_in t e).parent ≡ 0 = sym (ancestor-step t 7 6 e refl)
      ∙ (rules.below e above used).level in
      path-below t 6 e some
      ∙ ap (λ (p : Path). p ++ (entry_in t e).identifier ∷ [])
      (sym (path-enough t 6 (entry_in t e).parent rules.master.parent up))

  -- no file but the master file has the empty path
  pub path_of-empty : (e : ℕ) → IsUsed t e → path_of t e ≡ [] → e ≡ 0
  path_of-empty e used empty = one_path e 0 used master_used (empty ∙ sym (path-zero t 7 0 refl))

  -- a path and its parent's
  pub parent_path : (e : ℕ) → IsUsed t e → parent (path_of t e) ≡ path_of t (entry_in t e).parent
  parent_path e used = elim (eqb_tells e 0) [
    | inl same ↦ ap parent (path-zero t 7 e same.1)
        ∙ sym (path-zero t 7 (entry_in t e).parent (ap (λ (k : ℕ). (entry_in t k).parent) same.1
        ∙ rules.master.parent))
    | inr other ↦
        let above : 0 < e = (let d = other.1 in omega (arith, d)) in
        ap parent (path_of-child e above used)
        ∙ parent-push (path_of t (entry_in t e).parent) (entry_in t e).identifier
  ]

  -- a path ends in the entry's identifier
  pub identifier_path : (e : ℕ) → IsUsed t e → identifier (path_of t e) ≡ (entry_in t e).identifier
  identifier_path e used = elim (eqb_tells e 0) [
    | inl same ↦ ap identifier (path-zero t 7 e same.1)
        ∙ sym (ap (λ (k : ℕ). (entry_in t k).identifier) same.1 ∙ rules.master.identifier)
    | inr other ↦
        let above : 0 < e = (let d = other.1 in omega (arith, d)) in
        ap identifier (path_of-child e above used)
        ∙ identifier-push (path_of t (entry_in t e).parent) (entry_in t e).identifier
  ]

  -- An entry whose path is that of a dedicated file with an identifier behind it is the child with this identifier.
  pub child_of_path : (df e id : ℕ) → IsUsed t df → IsUsed t e → path_of t e ≡ path_of t df ++ id ∷ []
      → IsChild t df e × ((entry_in t e).identifier ≡ id)
  child_of_path df e id used_df used same =
      let other : e ≢ 0 = λ is. not_empty _ _ (sym same ∙ path-zero t 7 e is) in
      let above : 0 < e = omega (arith, other) in
      let both = same_last _ _ _ _ (sym (path_of-child e above used) ∙ same) in (
        record {
          below = above;
          used = used;
          parent =
              one_path (entry_in t e).parent df (parent_used e above used) used_df both.0;
        },
        both.1,
      )

  -- and the path of such a child is that
  pub path_of_child : (df e : ℕ) → IsChild t df e → path_of t e ≡ path_of t df ++ (entry_in t e).identifier ∷ []
  path_of_child df e child = path_of-child e child.below child.used
      ∙ ap (λ (d : ℕ). path_of t d ++ (entry_in t e).identifier ∷ []) child.parent
