-- What an index tells of the file of an entry and of the one above it.
use Rattle.std.specs.Prelude.{◌≡◌, ◌==◌, ◌<◌, ℕ, zero, suc, Bool, true, false, if◌then◌else◌}
use Rattle.std.specs.Prelude.{List, [], ◌∷◌, length, slice_index_or, All, None, Some}
use Rattle.std.proofs.Common.{refl, sym, ◌∙◌, ap, arith, inl, inr}
use Rattle.std.proofs.lemmas.Bool.Decides.{eqb_tells}
use Rattle.std.proofs.lemmas.List.Elements.{All-head, All-tail}
use Rattle.file_tree.specs.declared.entry.Entry.{Entry}
use Rattle.file_tree.specs.declared.steps.Key.{Key}
use Rattle.file_tree.specs.declared.steps.Place.{Place}
use Rattle.file_tree.specs.declared.index.Index.{Index}
use Rattle.card_model.specs.FileTrees.{master_file}
use Rattle.file_tree.specs.Table.{entry_in, IsUsed, IsTable}
use Rattle.file_tree.specs.Indexes.{place_of, IsPlace, IsIndex, TellsChild}
use Rattle.file_tree.specs.IndexParts.{parent_by}
use Rattle.file_tree.specs.laws.Indexes.{differ}

-- the parent of an entry that has a place
parent_found : (t : List Entry) (places : List Place) (e k : ℕ) → All (IsPlace t) places → k < length places
    → slice_index_or places k (place_of t e) ≡ place_of t e → parent_by places e ≡ (entry_in t e).parent
unfolding parent_by
parent_found t [] e k each lt is = absurd (omega (arith, lt))
parent_found t (p ∷ places) e zero each lt is = elim (eqb_tells p.entry e) [
  | inl same ↦ ap (λ (b : Bool). if b then p.key.parent else parent_by places e) same.0
      ∙ ap (λ (q : Place). q.key.parent) is
  | inr other ↦ absurd (other.1 (ap (λ (q : Place). q.entry) is))
]
parent_found t (p ∷ places) e (suc k) each lt is = elim (eqb_tells p.entry e) [
  | inl same ↦ ap (λ (b : Bool). if b then p.key.parent else parent_by places e) same.0
      ∙ ap (λ (key : Key). key.parent) (All-head (IsPlace t) p places each).key_is
      ∙ ap (λ (f : ℕ). (entry_in t f).parent) same.1
  | inr other ↦ ap (λ (b : Bool). if b then p.key.parent else parent_by places e) other.0
      ∙ parent_found t places e k (All-tail (IsPlace t) p places each) (omega (arith, lt)) is
]

-- no place is that of the master file
parent_of_master : (t : List Entry) (places : List Place) → All (IsPlace t) places → parent_by places 0 ≡ 0
unfolding parent_by
parent_of_master t [] each = refl
parent_of_master t (p ∷ places) each =
    let below = (All-head (IsPlace t) p places each).below in
    ap (λ (b : Bool). if b then p.key.parent else parent_by places 0)
    (differ p.entry 0 (λ is. let z : ⊥ = omega (arith, is, below) in z))
    ∙ parent_of_master t places (All-tail (IsPlace t) p places each)

-- The parent of a used entry is the one that its place tells; the master file's is its own.
pub parent_is : (t : List Entry) (index : Index) → IsTable t → IsIndex t index → (e : ℕ) → IsUsed t e
    → parent_by index.places.items e ≡ (entry_in t e).parent
parent_is t index rules is e used = elim (eqb_tells e 0) [
  | inl same ↦ ap (parent_by index.places.items) same.1 ∙ parent_of_master t index.places.items is.each
      ∙ sym (ap (λ (k : ℕ). (entry_in t k).parent) same.1 ∙ rules.master.parent)
  | inr other ↦
      let below : 0 < e = (let d = other.1 in omega (arith, d)) in
      let has = is.all e below used in
      parent_found t index.places.items e has.0 is.each has.1 has.2
]

-- two tests of numbers that tell the same
same_test : (a b c d : ℕ) → (a ≡ b → c ≡ d) → (c ≡ d → a ≡ b) → (a == b) ≡ (c == d)
same_test a b c d over back = elim (eqb_tells a b) [
  | inl same ↦ same.0 ∙ sym (equal c d (over same.1))
  | inr other ↦ other.0 ∙ sym (differ c d (λ is. other.1 (back is)))
]
  where
    equal : (p q : ℕ) → p ≡ q → (p == q) ≡ true
    equal p q is = elim (eqb_tells p q) [
      | inl same ↦ same.0
      | inr other ↦ absurd (other.1 is)
    ]

-- Whether a file has an identifier: whether it is the child of its parent that has it.
module _ (t : List Entry) (rules : IsTable t) (e parent id : ℕ) (used : IsUsed t e)
    (parent_told : parent ≡ (entry_in t e).parent) where
  pub child_named : (f : ℕ) → 0 < e → TellsChild t parent id (Some f) → (f == e) ≡ ((entry_in t e).identifier == id)
  child_named f below told = same_test f e (entry_in t e).identifier id
      (λ same. ap (λ (k : ℕ). (entry_in t k).identifier) (sym same) ∙ told.1)
      (λ named. rules.identifiers parent f e told.0 (record { below = below; used = used; parent = sym parent_told })
      (told.1 ∙ sym named))

  pub child_not_named : 0 < e → TellsChild t parent id None → false ≡ ((entry_in t e).identifier == id)
  child_not_named below none =
      sym (differ (entry_in t e).identifier id
      (none e (record { below = below; used = used; parent = sym parent_told })))

pub master_named : (t : List Entry) → IsTable t → (e id : ℕ) → e ≡ 0
    → (id == master_file) ≡ ((entry_in t e).identifier == id)
master_named t rules e id is =
    let own : (entry_in t e).identifier ≡ master_file =
    ap (λ (k : ℕ). (entry_in t k).identifier) is ∙ rules.master.identifier in
    same_test id master_file (entry_in t e).identifier id (λ same. own ∙ sym same) (λ named. sym named ∙ own)
