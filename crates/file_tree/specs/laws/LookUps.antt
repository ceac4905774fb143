-- What look-ups in the table answer, step by step, and that together they reach what a name reaches in the tree.
use Rattle.std.specs.Prelude.{◌≡◌, ◌≢◌, ◌==◌, ◌<◌, ℕ, Bool, true, false, not, ◌&&◌, if◌then◌else◌, List, [], ◌∷◌}
use Rattle.std.specs.Prelude.{◌++◌}
use Rattle.std.specs.Prelude.{length, Option, None, Some, IfSome, is_some, unwrap_or, option_map}
use Rattle.std.specs.FinMap.{get}
use Rattle.std.proofs.Common.{refl, sym, ◌∙◌, ap, ap₂, subst, arith, inl, inr}
use Rattle.std.proofs.lemmas.Bool.Decides.{eqb_tells}
use Rattle.std.proofs.lemmas.List.{nil_from_length}
use Rattle.file_tree.specs.declared.entry.Entry.{Entry}
use Rattle.card_model.specs.FileTrees.{Path, File, master_file, parent, identifier, no_file, exists, file_at}
use Rattle.card_model.specs.FileTrees.{is_dedicated}
use Rattle.card_model.specs.Selectors.{Candidate, first_reached, reached}
use Rattle.file_tree.specs.Table.{table, entry_in, path_of, IsUsed, IsChild, HaveIdentifiers, IsTable}
use Rattle.file_tree.specs.Trees.{content, tree_of}
use Rattle.file_tree.specs.Indexes.{TellsChild}
use Rattle.file_tree.specs.TreeParts.{IsShortChild, TellsShort, TellsBeside, TellsAbove}
use Rattle.file_tree.specs.laws.Paths.{path-zero, path_of-empty, parent_path, identifier_path, parent_used}
use Rattle.file_tree.specs.laws.Paths.{master_used, child_of_path, path_of_child}
use Rattle.file_tree.specs.laws.Nodes.{entry_found, exists-used, exists-none, file_at_entry}
use Rattle.file_tree.specs.laws.Nodes.{dedicated_entry}

-- the entry of a number is that of the child that is looked for, or it is not
pub child_there : (t : List Entry) (df e n : ℕ) (x : Entry) → x ≡ entry_in t e → 0 < e → IsShortChild x df n
    → TellsShort t df n (Some e)
child_there t df e n x is below found =
    let here = subst (λ (y : Entry). IsShortChild y df n) is found in
    (record { below = below; used = here.used; parent = here.parent }, here.short)

pub no_child_there : (t : List Entry) (df e n : ℕ) (x : Entry) → x ≡ entry_in t e
    → (IsShortChild x df n → ⊥) → IsChild t df e → (entry_in t e).short ≡ n → ⊥
no_child_there t df e n x is other child short =
    other (subst (λ (y : Entry). IsShortChild y df n) (sym is)
    (record { used = child.used; parent = child.parent; short = short }))

-- of the children of the parent the one with the identifier is beside, if it is a dedicated file
pub beside_there : (t : List Entry) (df id e : ℕ) (x : Entry) (found : Option ℕ) → HaveIdentifiers t → df ≢ 0
    → TellsChild t (entry_in t df).parent id (Some e) → x ≡ entry_in t e
    → found ≡ (if x.kind == 1 then Some e else None) → TellsBeside t df id found
beside_there t df id e x found one below told is tells = elim (eqb_tells x.kind 1) [
  | inl same ↦
      let kind = ap (λ (y : Entry). y.kind) (sym is) ∙ same.1 in
      let answer = tells ∙ ap (λ (b : Bool). if b then Some e else None) same.0 in
      subst (λ (o : Option ℕ). TellsBeside t df id o) (sym answer) (below, told.0, kind, told.1)
  | inr other ↦
      let answer = tells ∙ ap (λ (b : Bool). if b then Some e else None) other.0 in
      subst (λ (o : Option ℕ). TellsBeside t df id o) (sym answer) (λ some f child dedicated named.
      let same = one (entry_in t df).parent e f told.0 child (told.1 ∙ sym named) in
      other.1 (ap (λ (y : Entry). y.kind) is ∙ ap (λ (k : ℕ). (entry_in t k).kind) same ∙ dedicated))
]

-- the first of some candidates leads, or what is reached is among the others
pub picks : (leads : Bool) (path : Path) (rest : List Candidate)
    → first_reached (record { leads = leads; path = path } ∷ rest) ≡ (if leads then Some path else first_reached rest)
picks true path rest = refl
picks false path rest = refl

mapped : (a b c : Bool) (f : ℕ → Path) (x y z : ℕ)
    → option_map f (if a then Some x else if b then Some y else if c then Some z else None)
    ≡ (if a then Some (f x) else if b then Some (f y) else if c then Some (f z) else None)
mapped true b c f x y z = refl
mapped false true c f x y z = refl
mapped false false true f x y z = refl
mapped false false false f x y z = refl

three_picked : (a b c : Bool) (p q : Path)
    → first_reached (record { leads = a; path = p }
    ∷ record { leads = b; path = q }
    ∷ record { leads = c; path = [] }
    ∷ [])
    ≡ (if a then Some p else if b then Some q else if c then Some [] else None)
three_picked true b c p q = refl
three_picked false true c p q = refl
three_picked false false true p q = refl
three_picked false false false p q = refl

module _ (m : List ℕ) (rules : IsTable (table m)) (df id : ℕ) (used : IsUsed (table m) df) where
  -- the parent of a used entry is used; the master file is its own
  pub above_used : IsUsed (table m) (entry_in (table m) df).parent
  above_used = elim (eqb_tells df 0) [
    | inl same ↦
        let is_used : ℕ → Type 0 = λ e. IsUsed (table m) e in
        subst is_used (sym (ap (λ (e : ℕ). (entry_in (table m) e).parent) same.1 ∙ rules.master.parent))
        (master_used (table m) rules)
    | inr other ↦ let some : 0 < df = (let d = other.1 in omega (arith, d)) in
        parent_used (table m) rules df some used
  ]

  -- and so is the first that has the identifier of the parent, the file itself and the master file
  pub told_above_used : (found : Option ℕ) → TellsAbove (table m) df id found → IfSome found (IsUsed (table m))
  told_above_used found told =
      let is_used : Option ℕ → Type 0 = λ o. IfSome o (IsUsed (table m)) in
      subst is_used
      (sym told) (one_of_three (not (df == 0) && ((entry_in (table m) (entry_in (table m) df).parent).identifier == id))
      ((entry_in (table m) df).identifier == id) (master_file == id))
    where
      one_of_three : (above own master : Bool)
          → IfSome (if above then Some (entry_in (table m) df).parent else if own then Some df else
          if master then Some 0 else None) (IsUsed (table m))
      one_of_three true own master = above_used
      one_of_three false true master = used
      one_of_three false false true = master_used (table m) rules
      one_of_three false false false = tt

  -- the master file alone has the empty path
  pub at_root : (length (path_of (table m) df) == 0) ≡ (df == 0)
  at_root = elim (eqb_tells df 0) [
    | inl same ↦ ap (λ (p : Path). length p == 0) (path-zero (table m) 7 df same.1) ∙ sym same.0
    | inr other ↦ elim (eqb_tells (length (path_of (table m) df)) 0) [
      | inl empty ↦ absurd (other.1 (path_of-empty (table m) rules df used
          (nil_from_length (path_of (table m) df) empty.1)))
      | inr some ↦ some.0 ∙ sym other.0
    ]
  ]

  pub above_path : parent (path_of (table m) df) ≡ path_of (table m) (entry_in (table m) df).parent
  above_path = parent_path (table m) rules df used

  above_identifier : identifier (parent (path_of (table m) df))
      ≡ (entry_in (table m) (entry_in (table m) df).parent).identifier
  above_identifier = ap identifier above_path
      ∙ identifier_path (table m) rules (entry_in (table m) df).parent above_used

  own_identifier : identifier (path_of (table m) df) ≡ (entry_in (table m) df).identifier
  own_identifier = identifier_path (table m) rules df used

  -- whether each candidate leads anywhere
  abbrev leads_child : Bool
  leads_child = exists (tree_of m) (path_of (table m) df ++ id ∷ [])

  abbrev beside : Path
  beside = parent (path_of (table m) df) ++ id ∷ []

  abbrev is_file_beside : Bool
  is_file_beside = exists (tree_of m) beside && is_dedicated (file_at (tree_of m) beside).kind

  abbrev leads_beside : Bool
  leads_beside = not (length (path_of (table m) df) == 0) && is_file_beside

  abbrev last_three : List Candidate
  last_three =
      record {
        leads = not (length (path_of (table m) df) == 0) && (identifier (parent (path_of (table m) df)) == id);
        path = parent (path_of (table m) df);
      }
      ∷ record { leads = identifier (path_of (table m) df) == id; path = path_of (table m) df }
      ∷ record { leads = master_file == id; path = [] }
      ∷ []

  abbrev behind_child : List Candidate
  behind_child = record { leads = leads_beside; path = beside } ∷ last_three

  no_child : TellsChild (table m) df id None → leads_child ≡ false
  no_child none = exists-none m (path_of (table m) df ++ id ∷ []) (λ e there is.
      let child = child_of_path (table m) rules df e id used there is in none e child.0 child.1)

  none_beside : TellsBeside (table m) df id None → leads_beside ≡ false
  none_beside none = elim (eqb_tells df 0) [
    | inl same ↦ ap (λ (b : Bool). not b && is_file_beside) (at_root ∙ same.0)
    | inr other ↦ ap (λ (b : Bool). not b && is_file_beside) (at_root ∙ other.0)
        ∙ by_file other.1 (get (tree_of m) beside) refl
  ]
    where
      by_file : df ≢ 0 → (o : Option File) → get (tree_of m) beside ≡ o
          → (is_some (get (tree_of m) beside) && is_dedicated (unwrap_or (get (tree_of m) beside) no_file).kind)
          ≡ false
      by_file other None is = ap (λ (o : Option File). is_some o && is_dedicated (unwrap_or o no_file).kind) is
      by_file other (Some f) is =
          let found = entry_found m beside f is in
          let e = found.0 in
          let child = child_of_path (table m) rules (entry_in (table m) df).parent e id above_used found.1
          (found.2 ∙ ap (λ (p : Path). p ++ id ∷ []) above_path) in
          ap (λ (o : Option File). is_some o && is_dedicated (unwrap_or o no_file).kind) is
          ∙ ap (λ (g : File). is_dedicated g.kind) found.3
          ∙ dedicated_entry (entry_in (table m) e) (content m (entry_in (table m) e))
          ∙ elim (eqb_tells (entry_in (table m) e).kind 1) [
            | inl same ↦ absurd (none other e child.0 same.1 child.1)
            | inr differ ↦ differ.0
          ]

  -- A child is reached first,
  pub reached_child : (e : ℕ) → TellsChild (table m) df id (Some e)
      → Some (path_of (table m) e) ≡ reached (tree_of m) (path_of (table m) df) id
  reached_child e told =
      let path : path_of (table m) e ≡ path_of (table m) df ++ id ∷ [] =
      path_of_child (table m) rules df e told.0 ∙ ap (λ (k : ℕ). path_of (table m) df ++ k ∷ []) told.1 in
      ap (λ (p : Path). Some p) path
      ∙ sym (picks leads_child (path_of (table m) df ++ id ∷ []) behind_child
      ∙ ap (λ (b : Bool). if b then Some (path_of (table m) df ++ id ∷ []) else first_reached behind_child)
      (exists-used m rules e (path_of (table m) df ++ id ∷ []) told.0.used path))

  -- then a dedicated file beside,
  pub reached_beside : (e : ℕ) → TellsChild (table m) df id None → TellsBeside (table m) df id (Some e)
      → Some (path_of (table m) e) ≡ reached (tree_of m) (path_of (table m) df) id
  reached_beside e none told =
      let path : path_of (table m) e ≡ beside =
      path_of_child (table m) rules (entry_in (table m) df).parent e told.1
      ∙ ap₂ (λ (p : Path) (k : ℕ). p ++ k ∷ []) (sym above_path) told.3 in
      let is_df : is_dedicated (file_at (tree_of m) beside).kind ≡ true =
      ap (λ (f : File). is_dedicated f.kind) (file_at_entry m rules e beside told.1.used path)
      ∙ dedicated_entry (entry_in (table m) e) (content m (entry_in (table m) e))
      ∙ ap (λ (k : ℕ). k == 1) told.2 in
      let not_root : (length (path_of (table m) df) == 0) ≡ false = at_root ∙ elim (eqb_tells df 0) [
        | inl same ↦ absurd (told.0 same.1)
        | inr other ↦ other.0
      ] in
      let leads : leads_beside ≡ true =
      ap₂ (λ (b c : Bool). not b && c) not_root
      (ap₂ (λ (b c : Bool). b && c) (exists-used m rules e beside told.1.used path) is_df) in
      ap (λ (p : Path). Some p) path
      ∙ sym (picks leads_child (path_of (table m) df ++ id ∷ []) behind_child
      ∙ ap (λ (b : Bool). if b then Some (path_of (table m) df ++ id ∷ []) else first_reached behind_child)
      (no_child none)
      ∙ picks leads_beside beside last_three
      ∙ ap (λ (b : Bool). if b then Some beside else first_reached last_three) leads)

  -- and then the first of the parent, the file itself and the master file.
  pub reached_above : (found : Option ℕ) → TellsChild (table m) df id None → TellsBeside (table m) df id None
      → TellsAbove (table m) df id found
      → option_map (path_of (table m)) found ≡ reached (tree_of m) (path_of (table m) df) id
  reached_above found none none_there told =
      ap (λ (o : Option ℕ). option_map (path_of (table m)) o) told
      ∙ mapped (not (df == 0) && ((entry_in (table m) (entry_in (table m) df).parent).identifier == id))
      ((entry_in (table m) df).identifier == id) (master_file == id) (path_of (table m))
      (entry_in (table m) df).parent df 0
      ∙ (λ i. if not (sym at_root i) && (sym above_identifier i == id) then Some (sym above_path i) else
      if sym own_identifier i == id then Some (path_of (table m) df) else
      if master_file == id then Some (path-zero (table m) 7 0 refl i) else None)
      ∙ sym (picks leads_child (path_of (table m) df ++ id ∷ []) behind_child
      ∙ ap (λ (b : Bool). if b then Some (path_of (table m) df ++ id ∷ []) else first_reached behind_child)
      (no_child none)
      ∙ picks leads_beside beside last_three
      ∙ ap (λ (b : Bool). if b then Some beside else first_reached last_three) (none_beside none_there)
      ∙ three_picked (not (length (path_of (table m) df) == 0) && (identifier (parent (path_of (table m) df)) == id))
      (identifier (path_of (table m) df) == id) (master_file == id) (parent (path_of (table m) df))
      (path_of (table m) df))
