-- The part of a table that goes, entry by entry.
use Rattle.std.specs.Prelude.{◌≡◌, ◌≢◌, ◌↔◌, ◌==◌, ◌<◌, ◌≤◌, ◌+◌, ◌++◌, ◌&&◌, ◌||◌, ℕ, zero, suc, Bool, true, false}
use Rattle.std.specs.Prelude.{◌-◌, not, cond, if◌then◌else◌, IsTrue, List, [], ◌∷◌}
use Rattle.std.specs.Prelude.{map, length, replicate, slice_index_or, slice_set}
use Rattle.std.specs.Prelude.{Option, None, Some, is_some}
use Rattle.std.specs.List.{range_with_len, cons_option}
use Rattle.std.proofs.Common.{refl, sym, ◌∙◌, ap, subst, arith, inl, inr, below_more, true≢false}
use Rattle.std.proofs.Common.{append-nil, get_or-set_same, get_or-set_other}
use Rattle.std.proofs.Math.ListN.{length-set}
use Rattle.std.proofs.lemmas.Bool.{eq-eqb}
use Rattle.std.proofs.lemmas.Bool.Decides.{eqb_tells}
use Rattle.std.proofs.lemmas.List.{get_or-replicate, length-append, length-replicate}
use Rattle.std.proofs.lemmas.List.Elements.{filter_map-append}
use Rattle.std.proofs.lemmas.List.FromFn.{map-range_with_len_more}
use Rattle.std.proofs.lemmas.List.Sums.{sum_by-append}
use Rattle.block_chain.specs.declared.chain.Extent.{Extent}
use Rattle.file_tree.specs.declared.entry.Entry.{Entry}
use Rattle.file_changes.specs.declared.deleting.Part.{Part}
use Rattle.file_tree.specs.Entries.{extent_of, free_entry}
use Rattle.file_tree.specs.Kinds.{kind_byte}
use Rattle.file_tree.specs.Subtrees.{leads, leads_up}
use Rattle.file_tree.specs.Table.{entry_in, extents, free_entries, IsTable, IsUsed}
use Rattle.file_tree.specs.declared.kinds.EntryKind.TheVariants.{Dedicated}
use Rattle.file_tree.specs.laws.Costs.{extent_of-none}
use Rattle.file_tree.specs.laws.Tables.{index-mapped}
use Rattle.file_changes.specs.DeletionParts.{is_gone, going, entry_if_gone, extents_in, part_below, IsPart}

-- the first so many entries of the part
abbrev pub part_to : List Entry → ℕ → ℕ → List Entry
part_to t top k = map (going t top) (range_with_len 0 k)

-- a mark tells that an entry goes
abbrev pub Tells : List Entry → ℕ → List Bool → ℕ → Type 0
Tells t top goes f = IsTrue (slice_index_or goes f false) ↔ ((going t top f).kind ≢ 0)

-- Which of the first so many entries go, how many, and the extents of their files.
pub record IsPartTo (t : List Entry) (top k : ℕ) (part : Part) : Type 0 where
  pub long : length part.goes ≡ 64
  pub each : (f : ℕ) → f < k → Tells t top part.goes f
  pub rest : (f : ℕ) → k ≤ f → f < 64 → slice_index_or part.goes f false ≡ false
  pub count : part.count + free_entries (part_to t top k) ≡ k
  pub extents : part.extents.items ≡ extents (part_to t top k)

-- none yet
pub part_none : (t : List Entry) (top : ℕ) (part : Part) → part.goes ≡ replicate 64 false → part.count ≡ 0
    → part.extents.items ≡ [] → IsPartTo t top 0 part
part_none t top part goes count none = record {
  long = ap (λ (l : List Bool). length l) goes ∙ length-replicate 64 false;
  each = λ f below. absurd (omega (arith, below));
  rest = λ f from small. ap (λ (l : List Bool). slice_index_or l f false) goes
      ∙ get_or-replicate 64 f false false small;
  count = omega (arith, count);
  extents = none;
}

-- all of them
pub part_whole : (t : List Entry) (top : ℕ) (part : Part) → IsPartTo t top 64 part → IsPart t top part
unfolding part_below
part_whole t top part whole = record {
  goes = λ f lt. subst (λ (x : Entry). IsTrue (slice_index_or part.goes f false) ↔ (x.kind ≢ 0))
      (sym (entry_of_part f lt)) (whole.each f lt);
  count = whole.count;
  extents = whole.extents;
}
  where
    entry_of_part : (f : ℕ) → f < 64 → entry_in (part_to t top 64) f ≡ going t top f
    entry_of_part f lt =
        let at : 0 + f ≡ f = omega arith in index-mapped (going t top) 0 64 f lt ∙ ap (going t top) at

-- a list that grows by one at most stays as short as its index
pub few_more : (old new : List Extent) (found : Option Entry) (e : ℕ) → length old ≤ e → new ≡ old ++ extents_in found
    → length new ≤ e + 1
few_more old new found e few is =
    let size = ap (λ (l : List Extent). length l) is in
    let both = length-append old (extents_in found) in
    let one = at_most found in
    omega (arith, few, size, both, one)
  where
    by_option : (o : Option Extent) → length (cons_option o []) ≤ 1
    by_option None = omega arith
    by_option (Some x) = omega arith

    at_most : (o : Option Entry) → length (extents_in o) ≤ 1
    at_most None = omega arith
    at_most (Some x) = by_option (extent_of x)

abbrev one_free : Entry → ℕ
one_free x = cond (x.kind == 0) 1 0

-- one more entry, which goes or does not
module _ (t : List Entry) (top e : ℕ) (part more : Part) (found : Option Entry) (small : e < 64)
    (is : found ≡ entry_if_gone t top e)
    (goes : more.goes ≡ (if is_some found then slice_set part.goes e true else part.goes))
    (count : more.count ≡ part.count + (if is_some found then 1 else 0))
    (given_extents : more.extents.items ≡ part.extents.items ++ extents_in found) (so_far : IsPartTo t top e part) where
  list_more : part_to t top (e + 1) ≡ part_to t top e ++ going t top e ∷ []
  list_more = let at : 0 + e ≡ e = omega arith in map-range_with_len_more (going t top) 0 e e at

  free_more : free_entries (part_to t top (e + 1)) ≡ free_entries (part_to t top e) + one_free (going t top e)
  free_more =
      let z : 0 + one_free (going t top e) ≡ one_free (going t top e) = omega arith in
      ap free_entries list_more ∙ sum_by-append one_free (part_to t top e) (going t top e ∷ [])
      ∙ ap (λ (n : ℕ). free_entries (part_to t top e) + n) z

  extents_more : extents (part_to t top (e + 1))
      ≡ extents (part_to t top e) ++ cons_option (extent_of (going t top e)) []
  extents_more = ap extents list_more ∙ filter_map-append extent_of (part_to t top e) (going t top e ∷ [])

  goes_used : is_gone t top e ≡ true → (entry_in t e).kind ≢ 0
  goes_used gone none = true≢false (sym gone ∙ elim (eqb_tells (entry_in t e).kind 0) [
    | inl same ↦ ap (λ (b : Bool). not b && leads_up t 7 top e) same.0
    | inr other ↦ absurd (other.1 none)
  ])

  others : (f : ℕ) → f ≢ e → slice_index_or (slice_set part.goes e true) f false ≡ slice_index_or part.goes f false
  others f other = get_or-set_other part.goes e f true false other

  by_test : (b : Bool) → is_gone t top e ≡ b → IsPartTo t top (e + 1) more
  by_test true gone =
      let entry : found ≡ Some (entry_in t e) =
      is ∙ ap (λ (b : Bool). if b then Some (entry_in t e) else None) gone in
      let marks : more.goes ≡ slice_set part.goes e true =
      goes ∙ ap (λ (o : Option Entry). if is_some o then slice_set part.goes e true else part.goes) entry in
      let here : going t top e ≡ entry_in t e = ap (λ (b : Bool). if b then entry_in t e else free_entry) gone in
      let used : (going t top e).kind ≢ 0 = λ none. goes_used gone (sym (ap (λ (x : Entry). x.kind) here) ∙ none) in
      let zero : one_free (going t top e) ≡ 0 = elim (eqb_tells (going t top e).kind 0) [
        | inl same ↦ absurd (used same.1)
        | inr other ↦ ap (λ (b : Bool). cond b 1 0) other.0
      ] in
      let one : more.count ≡ part.count + 1 =
      count ∙ ap (λ (o : Option Entry). part.count + (if is_some o then 1 else 0)) entry in
      let was = so_far.count in
      let fits : e < length part.goes = (let long = so_far.long in omega (arith, small, long)) in
      let tells : List Bool → ℕ → Type 0 = λ l f. Tells t top l f in
      record {
        long = ap (λ (l : List Bool). length l) marks ∙ length-set _ _ _ ∙ so_far.long;
        each = below_more _ _
            (λ f lt. subst (λ (l : List Bool). tells l f) (sym marks)
            (let other : f ≢ e = (λ at. let z : ⊥ = omega (arith, at, lt) in z) in
            subst (λ (b : Bool). IsTrue b ↔ ((going t top f).kind ≢ 0)) (sym (others f other)) (so_far.each f lt)))
            (subst (λ (l : List Bool). tells l e) (sym marks)
            (λ _. used, λ _. get_or-set_same part.goes e true false fits));
        rest = λ f from inside.
            let other : f ≢ e = (λ at. let z : ⊥ = omega (arith, at, from) in z) in
            ap (λ (l : List Bool). slice_index_or l f false) marks ∙ others f other
            ∙ so_far.rest f (omega (arith, from)) inside;
        count = (let more_free = free_more in omega (arith, one, was, more_free, zero));
        extents = given_extents ∙ ap (λ (o : Option Entry). part.extents.items ++ extents_in o) entry
            ∙ ap (λ (l : List Extent). l ++ cons_option (extent_of (entry_in t e)) []) so_far.extents
            ∙ ap (λ (x : Entry). extents (part_to t top e) ++ cons_option (extent_of x) []) (sym here)
            ∙ sym extents_more;
      }
  by_test false stays =
      let entry : found ≡ None = is ∙ ap (λ (b : Bool). if b then Some (entry_in t e) else None) stays in
      let marks : more.goes ≡ part.goes =
      goes ∙ ap (λ (o : Option Entry). if is_some o then slice_set part.goes e true else part.goes) entry in
      let here : going t top e ≡ free_entry = ap (λ (b : Bool). if b then entry_in t e else free_entry) stays in
      let one : one_free (going t top e) ≡ 1 = ap one_free here in
      let same : more.count ≡ part.count + 0 =
      count ∙ ap (λ (o : Option Entry). part.count + (if is_some o then 1 else 0)) entry in
      let was = so_far.count in
      let mark = so_far.rest e (omega arith) small in
      let none : extent_of (going t top e) ≡ None = ap extent_of here ∙ extent_of-none free_entry (omega arith) in
      let tells : List Bool → ℕ → Type 0 = λ l f. Tells t top l f in
      record {
        long = ap (λ (l : List Bool). length l) marks ∙ so_far.long;
        each = below_more _ _
            (λ f lt. subst (λ (l : List Bool). tells l f) (sym marks) (so_far.each f lt))
            (subst (λ (l : List Bool). tells l e) (sym marks) (
              λ yes. absurd (true≢false (sym yes ∙ mark)),
              λ some. absurd (some (ap (λ (x : Entry). x.kind) here)),
            ));
        rest = λ f from inside. ap (λ (l : List Bool). slice_index_or l f false) marks
            ∙ so_far.rest f (omega (arith, from)) inside;
        count = (let more_free = free_more in omega (arith, same, was, more_free, one));
        extents = given_extents ∙ ap (λ (o : Option Entry). part.extents.items ++ extents_in o) entry
            ∙ append-nil part.extents.items ∙ so_far.extents
            ∙ sym (append-nil (extents (part_to t top e)))
            ∙ ap (λ (o : Option Extent). extents (part_to t top e) ++ cons_option o []) (sym none)
            ∙ sym extents_more;
      }

  pub part_more : IsPartTo t top (e + 1) more
  part_more = by_test (is_gone t top e) refl

-- one more entry that is free, and all that are left
part_free : (t : List Entry) (top e : ℕ) (part : Part) → e < 64 → entry_in t e ≡ free_entry → IsPartTo t top e part
    → IsPartTo t top (e + 1) part
part_free t top e part small free so_far =
    let is : None ≡ entry_if_gone t top e =
    sym (ap (λ (x : Entry). if not (x.kind == 0) && leads_up t 7 top e then Some (entry_in t e) else None) free) in
    part_more t top e part part None small is refl (omega arith) (sym (append-nil part.extents.items)) so_far

pub parts_rest : (t : List Entry) (top : ℕ) (part : Part) (e n : ℕ) → e + n ≡ 64
    → ((f : ℕ) → e ≤ f → entry_in t f ≡ free_entry) → IsPartTo t top e part → IsPartTo t top 64 part
parts_rest t top part e zero all free so_far =
    let end : e ≡ 64 = omega (arith, all) in subst (λ (k : ℕ). IsPartTo t top k part) end so_far
parts_rest t top part e (suc n) all free so_far = parts_rest t top part (e + 1) n (omega (arith, all))
    (λ f from. free f (omega (arith, from)))
    (part_free t top e part (omega (arith, all)) (free e (omega arith)) so_far)

-- entries that stay, one and a run of them
part_stays : (t : List Entry) (top e : ℕ) (part : Part) → e < 64 → is_gone t top e ≡ false → IsPartTo t top e part
    → IsPartTo t top (e + 1) part
part_stays t top e part small stays so_far =
    let is : None ≡ entry_if_gone t top e = sym (ap (λ (b : Bool). if b then Some (entry_in t e) else None) stays) in
    part_more t top e part part None small is refl (omega arith) (sym (append-nil part.extents.items)) so_far

parts_stay : (t : List Entry) (top e n : ℕ) (part : Part) → e + n ≤ 64
    → ((f : ℕ) → e ≤ f → f < e + n → is_gone t top f ≡ false) → IsPartTo t top e part → IsPartTo t top (e + n) part
parts_stay t top e zero part most stays so_far =
    let is : e ≡ e + 0 = omega arith in subst (λ (k : ℕ). IsPartTo t top k part) is so_far
parts_stay t top e (suc n) part most stays so_far =
    let is : e + 1 + n ≡ e + suc n = omega arith in
    subst (λ (k : ℕ). IsPartTo t top k part) is (parts_stay t top (e + 1) n part (omega (arith, most))
    (λ f from below. stays f (omega (arith, from)) (omega (arith, below)))
    (part_stays t top e part (omega (arith, most)) (stays e (omega arith) (omega arith)) so_far))

-- a part of one entry
pub part_alone : (t : List Entry) (top : ℕ) (part one : Part) → top < 64 → is_gone t top top ≡ true
    → ((f : ℕ) → f ≢ top → is_gone t top f ≡ false) → IsPartTo t top 0 part
    → one.goes ≡ slice_set part.goes top true → one.count ≡ part.count + 1
    → one.extents.items ≡ part.extents.items ++ extents_in (Some (entry_in t top)) → IsPart t top one
part_alone t top part one small gone others none goes count given =
    let at : 0 + top ≡ top = omega arith in
    let before : IsPartTo t top top part = subst (λ (k : ℕ). IsPartTo t top k part) at
    (parts_stay t top 0 top part (omega (arith, small))
    (λ f from below. others f (λ is. let z : ⊥ = omega (arith, is, below, at) in z)) none) in
    let is : Some (entry_in t top) ≡ entry_if_gone t top top =
    sym (ap (λ (b : Bool). if b then Some (entry_in t top) else None) gone) in
    let here : IsPartTo t top (top + 1) one =
    part_more t top top part one (Some (entry_in t top)) small is goes count given before in
    let left : (top + 1) + (63 - top) ≡ 64 = omega (arith, small) in
    part_whole t top one (subst (λ (k : ℕ). IsPartTo t top k one) left
    (parts_stay t top (top + 1) (63 - top) one (omega (arith, left))
    (λ f from below. others f (λ is. let z : ⊥ = omega (arith, is, from) in z)) here))

-- only its own entry goes with an EF
module _ (t : List Entry) (stands : IsTable t) (top : ℕ) (used_top : IsUsed t top)
    (no_df : (entry_in t top).kind ≢ kind_byte Dedicated) where
  parent_df : (f : ℕ) → IsUsed t f → (entry_in t (entry_in t f).parent).kind ≡ kind_byte Dedicated
  parent_df zero used = ap (λ (k : ℕ). (entry_in t k).kind) stands.master.parent ∙ stands.master.kind
  parent_df (suc f) used = (stands.below (suc f) (omega arith) used).parent

  another : (f : ℕ) → f ≢ top → (f == top) ≡ false
  another f other = elim (eqb_tells f top) [
    | inl same ↦ absurd (other same.1)
    | inr is ↦ is.0
  ]

  leads_nowhere : (n f : ℕ) → IsUsed t f → f ≢ top → leads_up t n top f ≡ false
  unfolding leads
  leads_nowhere zero f used other = another f other
  leads_nowhere (suc n) f used other =
      let above = parent_df f used in
      ap (λ (b : Bool). b || leads_up t n top (entry_in t f).parent) (another f other)
      ∙ leads_nowhere n (entry_in t f).parent (λ none. let z : ⊥ = omega (arith, none, above) in z)
      (λ is. no_df (ap (λ (k : ℕ). (entry_in t k).kind) (sym is) ∙ above))

  pub others_stay : (f : ℕ) → f ≢ top → is_gone t top f ≡ false
  others_stay f other = elim (eqb_tells (entry_in t f).kind 0) [
    | inl same ↦ ap (λ (b : Bool). not b && leads_up t 7 top f) same.0
    | inr used ↦ ap (λ (b : Bool). not b && leads_up t 7 top f) used.0 ∙ leads_nowhere 7 f used.1 other
  ]

  pub goes_itself : is_gone t top top ≡ true
  unfolding leads
  goes_itself = elim (eqb_tells (entry_in t top).kind 0) [
    | inl same ↦ absurd (used_top same.1)
    | inr used ↦ ap (λ (b : Bool). not b && leads_up t 7 top top) used.0
        ∙ ap (λ (b : Bool). b || leads_up t 6 top (entry_in t top).parent) (eq-eqb top top refl)
  ]
