-- What an entry more, of a new file in a dedicated file, makes of the table.
use Rattle.std.specs.Prelude.{◌≡◌, ◌≢◌, ◌==◌, ◌<◌, ℕ, zero, suc, if◌then◌else◌, List, [], ◌∷◌, ◌++◌}
use Rattle.std.specs.Prelude.{length}
use Rattle.std.proofs.Common.{refl, sym, ◌∙◌, ap, subst, arith, inl, inr}
use Rattle.std.proofs.lemmas.Bool.Decides.{eqb_tells}
use Rattle.file_tree.specs.declared.entry.Entry.{Entry}
use Rattle.card_model.specs.FileTrees.{Path, master_file}
use Rattle.file_tree.specs.Entries.{free_entry, name_of}
use Rattle.file_tree.specs.Table.{entry_in, ancestor, path_in, path_of, IsUsed, IsChild}
use Rattle.file_tree.specs.Table.{IsEntry, IsFileEntry, IsMasterFile, IsTable}
use Rattle.file_tree.specs.laws.Tables.{entry_within}
use Rattle.file_tree.specs.laws.Levels.{ancestor-step}
use Rattle.file_tree.specs.laws.Paths.{parent_used, path_of-child}

-- A file may stand in a dedicated file of a table: it is no deeper than level 8, and no other has its identifier, its
-- short identifier or its name.
pub record MayStand (t : List Entry) (df : ℕ) (x : Entry) : Type 0 where
  pub parent : x.parent ≡ df
  pub dedicated : (entry_in t df).kind ≡ 1
  pub level : ancestor t 6 df ≡ 0
  pub used : x.kind ≢ 0
  pub file : IsFileEntry x
  pub identifier : x.identifier ≢ master_file
  pub identifiers : (f : ℕ) → IsChild t df f → (entry_in t f).identifier ≢ x.identifier
  pub shorts : x.short ≢ 0 → (f : ℕ) → IsChild t df f → (entry_in t f).short ≢ x.short
  pub names : 0 < length (name_of x) → (f : ℕ) → IsUsed t f → name_of (entry_in t f) ≢ name_of x

module _ (t s : List Entry) (e df : ℕ) (x : Entry) (rules : IsTable t) (size : length t ≡ 64) (long : length s ≡ 64)
    (free : (entry_in t e).kind ≡ 0) (few : e < 64) (here : entry_in s e ≡ x)
    (others : (f : ℕ) → f ≢ e → entry_in s f ≡ entry_in t f) (stands : MayStand t df x) where
  -- a used entry is not the new one
  not_new : (f : ℕ) → IsUsed t f → f ≢ e
  not_new f used is = used (ap (λ (k : ℕ). (entry_in t k).kind) is ∙ free)

  used_df : IsUsed t df
  used_df none = let k = stands.dedicated in let z : ⊥ = omega (arith, k, none) in z

  pub new_above : 0 < e
  new_above = elim (eqb_tells e 0) [
    | inl is ↦ absurd (let k = rules.master.kind in let z = ap (λ (f : ℕ). (entry_in t f).kind) (sym is.1) in
        omega (arith, k, z, free))
    | inr other ↦ (let d = other.1 in omega (arith, d))
  ]

  pub stays : (f : ℕ) → IsUsed t f → entry_in s f ≡ entry_in t f
  stays f used = others f (not_new f used)

  pub used_now : (f : ℕ) → IsUsed t f → IsUsed s f
  used_now f used none = used (sym (ap (λ (y : Entry). y.kind) (stays f used)) ∙ none)

  pub new_used : IsUsed s e
  new_used none = stands.used (sym (ap (λ (y : Entry). y.kind) here) ∙ none)

  pub used_before : (f : ℕ) → f ≢ e → IsUsed s f → IsUsed t f
  used_before f other used none = used (ap (λ (y : Entry). y.kind) (others f other) ∙ none)

  up_used : (f : ℕ) → IsUsed t f → IsUsed t (entry_in t f).parent
  up_used f used = elim (eqb_tells f 0) [
    | inl is ↦
        let is_used : ℕ → Type 0 = λ k. IsUsed t k in
        subst is_used (sym (ap (λ (k : ℕ). (entry_in t k).parent) is.1 ∙ rules.master.parent)) (subst is_used is.1 used)
    | inr other ↦ parent_used t rules f (let d = other.1 in omega (arith, d)) used
  ]

  pub ancestors : (n f : ℕ) → IsUsed t f → ancestor s n f ≡ ancestor t n f
  unfolding ancestor
  ancestors zero f used = refl
  ancestors (suc n) f used =
      ap (λ (y : Entry). ancestor s n y.parent) (stays f used) ∙ ancestors n (entry_in t f).parent (up_used f used)

  paths_in : (n f : ℕ) → IsUsed t f → path_in s n f ≡ path_in t n f
  unfolding path_in
  paths_in zero f used = refl
  paths_in (suc n) f used =
      ap (λ (y : Entry). if f == 0 then [] else path_in s n y.parent ++ y.identifier ∷ []) (stays f used)
      ∙ ap (λ (p : Path). if f == 0 then [] else p ++ (entry_in t f).identifier ∷ [])
      (paths_in n (entry_in t f).parent (up_used f used))

  pub path_stays : (f : ℕ) → IsUsed t f → path_of s f ≡ path_of t f
  path_stays f used = paths_in 7 f used

  -- by cases: the new entry, or another
  is_entry : (f : ℕ) → f < 64 → IsEntry (entry_in s f)
  is_entry f lt = elim (eqb_tells f e) [
    | inl is ↦
        let family : Entry → Type 0 = λ y. IsEntry y in
        subst family (sym (ap (entry_in s) is.1 ∙ here))
        (record { free = λ none. absurd (stands.used none); used = λ some. stands.file })
    | inr other ↦
        let family : Entry → Type 0 = λ y. IsEntry y in
        let within : f < length t = omega (arith, size, lt) in
        subst family (sym (others f other.1))
        (subst family (entry_within t f free_entry within) (rules.each f free_entry within))
  ]

  child_before : (up f : ℕ) → f ≢ e → IsChild s up f → IsChild t up f
  child_before up f other child = record {
    below = child.below;
    used = used_before f other child.used;
    parent = sym (ap (λ (y : Entry). y.parent) (others f other)) ∙ child.parent;
  }

  -- the new file's siblings
  sibling : (up f : ℕ) → f ≢ e → IsChild s up e → IsChild s up f → IsChild t df f
  sibling up f other new child =
      let same : up ≡ df = sym new.parent ∙ ap (λ (y : Entry). y.parent) here ∙ stands.parent in
      let family : ℕ → Type 0 = λ u. IsChild t u f in
      subst family same (child_before up f other child)

  pub rules_hold : IsTable s
  rules_hold = record {
    each = λ i d lt.
        let small : i < 64 = omega (arith, lt, long) in
        let family : Entry → Type 0 = λ y. IsEntry y in
        subst family (sym (entry_within s i d lt)) (is_entry i small);
    master = (
        let family : Entry → Type 0 = λ y. IsMasterFile y in
        subst family (sym (others 0 (λ is. let z = new_above in omega (arith, is, z)))) rules.master);
    below = λ f some used. elim (eqb_tells f e) [
      | inl is ↦
          let entry : entry_in s f ≡ x = ap (entry_in s) is.1 ∙ here in
          let up : (entry_in s f).parent ≡ df = ap (λ (y : Entry). y.parent) entry ∙ stands.parent in
          record {
            parent = ap (λ (k : ℕ). (entry_in s k).kind) up
                ∙ ap (λ (y : Entry). y.kind) (stays df used_df) ∙ stands.dedicated;
            level = ancestor-step s 7 6 f refl ∙ ap (ancestor s 6) up ∙ ancestors 6 df used_df ∙ stands.level;
            identifier = λ same. stands.identifier (sym (ap (λ (y : Entry). y.identifier) entry) ∙ same);
          }
      | inr other ↦
          let before = used_before f other.1 used in
          let rule = rules.below f some before in
          let entry = others f other.1 in
          record {
            parent = ap (λ (y : Entry). (entry_in s y.parent).kind) entry
                ∙ ap (λ (y : Entry). y.kind) (stays (entry_in t f).parent (parent_used t rules f some before))
                ∙ rule.parent;
            level = ancestors 7 f before ∙ rule.level;
            identifier = λ same. rule.identifier (sym (ap (λ (y : Entry). y.identifier) entry) ∙ same);
          }
    ];
    identifiers = λ up f g one two same. elim (eqb_tells f e) [
      | inl f_new ↦ elim (eqb_tells g e) [
        | inl g_new ↦ f_new.1 ∙ sym g_new.1
        | inr g_old ↦
            let new : IsChild s up e = (let family : ℕ → Type 0 = λ k. IsChild s up k in subst family f_new.1 one) in
            absurd (stands.identifiers g (sibling up g g_old.1 new two)
            (sym (ap (λ (y : Entry). y.identifier) (others g g_old.1)) ∙ sym same
            ∙ ap (λ (k : ℕ). (entry_in s k).identifier) f_new.1
            ∙ ap (λ (y : Entry). y.identifier) here))
      ]
      | inr f_old ↦ elim (eqb_tells g e) [
        | inl g_new ↦
            let new : IsChild s up e = (let family : ℕ → Type 0 = λ k. IsChild s up k in subst family g_new.1 two) in
            absurd (stands.identifiers f (sibling up f f_old.1 new one)
            (sym (ap (λ (y : Entry). y.identifier) (others f f_old.1)) ∙ same
            ∙ ap (λ (k : ℕ). (entry_in s k).identifier) g_new.1
            ∙ ap (λ (y : Entry). y.identifier) here))
        | inr g_old ↦ rules.identifiers up f g (child_before up f f_old.1 one) (child_before up g g_old.1 two)
            (sym (ap (λ (y : Entry). y.identifier) (others f f_old.1)) ∙ same
            ∙ ap (λ (y : Entry). y.identifier) (others g g_old.1))
      ]
    ];
    short_identifiers = λ up f g one two some same. elim (eqb_tells f e) [
      | inl f_new ↦ elim (eqb_tells g e) [
        | inl g_new ↦ f_new.1 ∙ sym g_new.1
        | inr g_old ↦
            let new : IsChild s up e = (let family : ℕ → Type 0 = λ k. IsChild s up k in subst family f_new.1 one) in
            let of_x : (entry_in s f).short ≡ x.short = ap (λ (k : ℕ). (entry_in s k).short) f_new.1
            ∙ ap (λ (y : Entry). y.short) here in
            absurd (stands.shorts (λ none. some (of_x ∙ none)) g (sibling up g g_old.1 new two)
            (sym (ap (λ (y : Entry). y.short) (others g g_old.1)) ∙ sym same ∙ of_x))
      ]
      | inr f_old ↦ elim (eqb_tells g e) [
        | inl g_new ↦
            let new : IsChild s up e = (let family : ℕ → Type 0 = λ k. IsChild s up k in subst family g_new.1 two) in
            let of_x : (entry_in s g).short ≡ x.short = ap (λ (k : ℕ). (entry_in s k).short) g_new.1
            ∙ ap (λ (y : Entry). y.short) here in
            absurd (stands.shorts (λ none. some (same ∙ of_x ∙ none)) f (sibling up f f_old.1 new one)
            (sym (ap (λ (y : Entry). y.short) (others f f_old.1)) ∙ same ∙ of_x))
        | inr g_old ↦ rules.short_identifiers up f g (child_before up f f_old.1 one) (child_before up g g_old.1 two)
            (λ none. some (ap (λ (y : Entry). y.short) (others f f_old.1) ∙ none))
            (sym (ap (λ (y : Entry). y.short) (others f f_old.1)) ∙ same
            ∙ ap (λ (y : Entry). y.short) (others g g_old.1))
      ]
    ];
    names = λ f g used other some same. elim (eqb_tells f e) [
      | inl f_new ↦ elim (eqb_tells g e) [
        | inl g_new ↦ f_new.1 ∙ sym g_new.1
        | inr g_old ↦
            let of_x : name_of (entry_in s f) ≡ name_of x =
            ap (λ (k : ℕ). name_of (entry_in s k)) f_new.1 ∙ ap name_of here in
            let long_x : 0 < length (name_of x) =
            (let l = ap (λ (bs : List ℕ). length bs) of_x in omega (arith, l, some)) in
            absurd (stands.names long_x g (used_before g g_old.1 other)
            (sym (ap name_of (others g g_old.1)) ∙ sym same ∙ of_x))
      ]
      | inr f_old ↦ elim (eqb_tells g e) [
        | inl g_new ↦
            let of_x : name_of (entry_in s g) ≡ name_of x =
            ap (λ (k : ℕ). name_of (entry_in s k)) g_new.1 ∙ ap name_of here in
            let long_x : 0 < length (name_of x) =
            (let l = ap (λ (bs : List ℕ). length bs) (same ∙ of_x) in omega (arith, l, some)) in
            absurd (stands.names long_x f (used_before f f_old.1 used)
            (sym (ap name_of (others f f_old.1)) ∙ same ∙ of_x))
        | inr g_old ↦ rules.names f g (used_before f f_old.1 used) (used_before g g_old.1 other)
            (let l = ap (λ (y : Entry). length (name_of y)) (others f f_old.1) in omega (arith, l, some))
            (sym (ap name_of (others f f_old.1)) ∙ same ∙ ap name_of (others g g_old.1))
      ]
    ];
  }

  -- the new file's path
  pub new_path : path_of s e ≡ path_of t df ++ x.identifier ∷ []
  new_path =
      path_of-child s rules_hold e new_above new_used
      ∙ ap (λ (y : Entry). path_of s y.parent ++ y.identifier ∷ []) here
      ∙ ap (λ (p : ℕ). path_of s p ++ x.identifier ∷ []) stands.parent
      ∙ ap (λ (p : Path). p ++ x.identifier ∷ []) (path_stays df used_df)
