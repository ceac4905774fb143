-- What an index finds is the tree's; a table has one index, and a change of what no index tells leaves it.
use Rattle.std.specs.Prelude.{◌≡◌, ◌≢◌, ◌⊎◌, ◌<◌, ℕ, zero, suc, List, [], ◌∷◌, length, slice_index_or, All, Contains}
use Rattle.std.specs.Prelude.{◌++◌, Bool, if◌then◌else◌, Option, None, Some, option_map}
use Rattle.std.proofs.Common.{refl, sym, ◌∙◌, ap, ap₂, subst, arith, inl, inr}
use Rattle.std.proofs.lemmas.Bool.Decides.{eqb_tells}
use Rattle.std.proofs.lemmas.List.Elements.{All-contains}
use Rattle.card_model.specs.declared.life_cycle.LifeCycle.{LifeCycle}
use Rattle.file_tree.specs.declared.entry.Entry.{Entry}
use Rattle.file_tree.specs.declared.steps.Place.{Place}
use Rattle.file_tree.specs.declared.index.Index.{Index}
use Rattle.file_tree.specs.Keys.{key_for, IsBefore}
use Rattle.card_model.specs.FileTrees.{Path}
use Rattle.file_tree.specs.Table.{table, entry_in, path_of, IsUsed, IsTable}
use Rattle.file_tree.specs.Trees.{tree_of}
use Rattle.file_tree.specs.States.{ChangesLife}
use Rattle.file_tree.specs.Indexes.{IsPlace, AreSorted, IsIndex, KeepsPlaces, TellsChild, child_by_identifier}
use Rattle.file_tree.specs.laws.Paths.{child_of_path, path_of_child}
use Rattle.file_tree.specs.laws.Nodes.{exists-used, exists-none}
use Rattle.file_tree.specs.laws.Indexes.{before_then, never_before_itself, place_is}

-- the child that is told, by its path in the tree
pub told_path : (m : List ℕ) → IsTable (table m) → (df id : ℕ) → IsUsed (table m) df → (found : Option ℕ)
    → TellsChild (table m) df id found
    → option_map (path_of (table m)) found ≡ child_by_identifier (tree_of m) (path_of (table m) df) id
told_path m rules df id used None none =
    let path = path_of (table m) df ++ id ∷ [] in
    sym (ap (λ (b : Bool). if b then Some path else None) (exists-none m path (λ e there is.
    let child = child_of_path (table m) rules df e id used there is in none e child.0 child.1)))
told_path m rules df id used (Some e) told =
    let path = path_of (table m) df ++ id ∷ [] in
    let same : path_of (table m) e ≡ path =
    path_of_child (table m) rules df e told.0 ∙ ap (λ (k : ℕ). path_of (table m) df ++ k ∷ []) told.1 in
    ap (λ (p : Path). Some p) same
    ∙ sym (ap (λ (b : Bool). if b then Some path else None) (exists-used m rules e path told.0.used same))

-- an element is the first, or one that follows
cons_cases : (x : Place) (xs : List Place) (p : Place) (k : ℕ) → k < length (x ∷ xs) → slice_index_or (x ∷ xs) k p ≡ p
    → (p ≡ x) ⊎ Contains xs p
cons_cases x xs p zero lt is = inl (sym is)
cons_cases x xs p (suc k) lt is = inr (k, omega (arith, lt), is)

never_both : (x y : Place) → IsBefore x.key y.key → IsBefore y.key x.key → ⊥
never_both x y one other = never_before_itself x.key x.key refl (before_then x.key y.key x.key one other)

first_is : (x y : Place) (xs ys : List Place) → All (λ q. IsBefore x.key q.key) xs → All (λ q. IsBefore y.key q.key) ys
    → Contains (y ∷ ys) x → Contains (x ∷ xs) y → x ≡ y
first_is x y xs ys up_x up_y has_x has_y = elim (cons_cases y ys x has_x.0 has_x.1 has_x.2) [
  | inl same ↦ same
  | inr later_x ↦ elim (cons_cases x xs y has_y.0 has_y.1 has_y.2) [
    | inl same ↦ sym same
    | inr later_y ↦ absurd (never_both x y (All-contains (λ q. IsBefore x.key q.key) xs y up_x later_y)
        (All-contains (λ q. IsBefore y.key q.key) ys x up_y later_x))
  ]
]

-- what stands behind one first place stands behind the same first place
behind_is : (x y : Place) (xs ys : List Place) → x ≡ y → All (λ q. IsBefore x.key q.key) xs
    → ((p : Place) → Contains (x ∷ xs) p → Contains (y ∷ ys) p) → (p : Place) → Contains xs p → Contains ys p
behind_is x y xs ys same up all p has =
    let lt = has.1 in
    let there = all p (suc has.0, omega (arith, lt), has.2) in
    elim (cons_cases y ys p there.0 there.1 there.2) [
      | inl first ↦ absurd (never_before_itself x.key p.key (ap (λ (q : Place). q.key) (same ∙ sym first))
          (All-contains (λ q. IsBefore x.key q.key) xs p up has))
      | inr later ↦ later
    ]

-- Places with ascending keys are one list where they are the same places.
same_places : (xs ys : List Place) → AreSorted xs → AreSorted ys → ((p : Place) → Contains xs p → Contains ys p)
    → ((p : Place) → Contains ys p → Contains xs p) → xs ≡ ys
same_places [] [] up_x up_y over back = refl
same_places [] (y ∷ ys) up_x up_y over back =
    absurd (let has = back y (0, omega arith, refl) in let lt = has.1 in omega (arith, lt))
same_places (x ∷ xs) [] up_x up_y over back =
    absurd (let has = over x (0, omega arith, refl) in let lt = has.1 in omega (arith, lt))
same_places (x ∷ xs) (y ∷ ys) up_x up_y over back =
    let same = first_is x y xs ys up_x.0 up_y.0 (over x (0, omega arith, refl)) (back y (0, omega arith, refl)) in
    ap₂ (λ (p : Place) (ps : List Place). p ∷ ps) same
    (same_places xs ys up_x.1 up_y.1 (behind_is x y xs ys same up_x.0 over)
    (behind_is y x ys xs (sym same) up_y.0 back))

places_over : (t : List Entry) (one other : Index) → IsIndex t one → IsIndex t other → (p : Place)
    → Contains one.places.items p → Contains other.places.items p
places_over t one other is_one is_other p has =
    let place = All-contains (IsPlace t) one.places.items p is_one.each has in
    let family : Place → Type 0 = λ q. Contains other.places.items q in
    subst family (sym (place_is t p place)) (is_other.all p.entry place.below place.used)

pub one_index : (t : List Entry) (one other : Index) → IsIndex t one → IsIndex t other → one ≡ other
one_index t one other is_one is_other =
    let same = same_places one.places.items other.places.items is_one.sorted is_other.sorted
    (places_over t one other is_one is_other) (places_over t other one is_other is_one) in
    λ i. record { places = record { items = same i } }

-- What an index tells of entries is their parents and identifiers.
pub index_kept : (t after : List Entry) (index : Index) → KeepsPlaces t after → IsIndex t index → IsIndex after index
index_kept t after index keeps is = record {
  each = λ k d lt.
      let place = is.each k d lt in
      let e = (slice_index_or index.places.items k d).entry in
      record {
        below = place.below;
        used = λ none. place.used (sym (keeps.kinds e) ∙ none);
        key_is = place.key_is ∙ sym (same_key e);
      };
  all = λ e below used.
      let family : Place → Type 0 = λ p. Contains index.places.items p in
      subst family (λ i. record { key = sym (same_key e) i; entry = e })
      (is.all e below (λ none. used (keeps.kinds e ∙ none)));
  sorted = is.sorted;
}
  where
    same_key : (e : ℕ) → key_for (entry_in after e).parent (entry_in after e).identifier
        ≡ key_for (entry_in t e).parent (entry_in t e).identifier
    same_key e = ap₂ (λ (a b : ℕ). key_for a b) (keeps.parents e) (keeps.identifiers e)

-- Places stay in the same table, over two changes, and where one entry keeps its own and no other is other.
pub places_same : (t after : List Entry) → after ≡ t → KeepsPlaces t after
places_same t after same = record {
  kinds = λ e. ap (λ (s : List Entry). (entry_in s e).kind) same;
  parents = λ e. ap (λ (s : List Entry). (entry_in s e).parent) same;
  identifiers = λ e. ap (λ (s : List Entry). (entry_in s e).identifier) same;
}

pub places_but : (t after : List Entry) (e : ℕ) → (entry_in after e).kind ≡ (entry_in t e).kind
    → (entry_in after e).parent ≡ (entry_in t e).parent → (entry_in after e).identifier ≡ (entry_in t e).identifier
    → ((f : ℕ) → f ≢ e → entry_in after f ≡ entry_in t f) → KeepsPlaces t after
places_but t after e kind parent identifier others = record {
  kinds = of_each (λ x. x.kind) kind;
  parents = of_each (λ x. x.parent) parent;
  identifiers = of_each (λ x. x.identifier) identifier;
}
  where
    of_each : (told : Entry → ℕ) → told (entry_in after e) ≡ told (entry_in t e) → (f : ℕ)
        → told (entry_in after f) ≡ told (entry_in t f)
    of_each told own f = elim (eqb_tells f e) [
      | inl same ↦ ap (λ (k : ℕ). told (entry_in after k)) same.1 ∙ own
          ∙ sym (ap (λ (k : ℕ). told (entry_in t k)) same.1)
      | inr other ↦ ap told (others f other.1)
    ]

pub life_places : (m after : List ℕ) (e : ℕ) (state : LifeCycle) → ChangesLife m e state after
    → KeepsPlaces (table m) (table after)
life_places m after e state changes = places_but (table m) (table after) e (ap (λ (x : Entry). x.kind) changes.entry)
    (ap (λ (x : Entry). x.parent) changes.entry) (ap (λ (x : Entry). x.identifier) changes.entry) changes.others

pub life_leaves : (m after : List ℕ) (e : ℕ) (state : LifeCycle) (index : Index) → ChangesLife m e state after
    → IsIndex (table m) index → IsIndex (table after) index
life_leaves m after e state index changes =
    index_kept (table m) (table after) index (life_places m after e state changes)
