-- What an index is without the places of a file and of all files below it.
use Rattle.std.specs.Prelude.{◌≡◌, ◌==◌, ◌<◌, ◌||◌, ℕ, zero, suc, Bool, true, false, not, cond, nat_eq}
use Rattle.std.specs.Prelude.{List, [], ◌∷◌, filter, length, slice_index_or, All, Contains, Option, None, Some, is_some}
use Rattle.std.specs.List.{starts_with}
use Rattle.std.specs.FinMap.{get, retain_keys, get-retain_keys, slice_cmp-IsAntisymmetric, nat_cmp-IsAntisymmetric}
use Rattle.std.proofs.Common.{refl, sym, ◌∙◌, ap, subst, arith, true≢false}
use Rattle.std.proofs.lemmas.List.Elements.{All-filter, filter_passes}
use Rattle.std.proofs.lemmas.Bool.{not-true}
use Rattle.file_tree.specs.declared.entry.Entry.{Entry}
use Rattle.file_tree.specs.declared.steps.Place.{Place}
use Rattle.file_tree.specs.declared.index.Index.{Index}
use Rattle.card_model.specs.FileTrees.{Path, File, Tree}
use Rattle.file_tree.specs.Keys.{key_for, IsBefore}
use Rattle.file_tree.specs.Table.{table, entry_in, path_of, IsUsed}
use Rattle.file_tree.specs.Trees.{tree_of, TreeStands, file_in}
use Rattle.file_tree.specs.TreeChanges.{Deletes}
use Rattle.file_tree.specs.Subtrees.{leads, leads_up}
use Rattle.file_tree.specs.Indexes.{place_of, IsPlace, AreSorted, IsIndex}
use Rattle.file_tree.specs.IndexParts.{leads_by, is_outside}
use Rattle.file_tree.specs.laws.Paths.{one_path}
use Rattle.file_tree.specs.laws.Nodes.{get-used, entry_found}
use Rattle.file_tree.specs.laws.LookUps.{above_used}
use Rattle.file_tree.specs.laws.Subtrees.{within_path}
use Rattle.file_tree.specs.laws.Above.{parent_is}

-- what is kept of places by ascending keys has ascending keys
sorted_rest : (b : Bool) (p : Place) (kept : List Place) → All (λ q. IsBefore p.key q.key) kept → AreSorted kept
    → AreSorted (cond b (p ∷ kept) kept)
sorted_rest true p kept later up = (later, up)
sorted_rest false p kept later up = up

sorted_filter : (keep : Place → Bool) (places : List Place) → AreSorted places → AreSorted (filter keep places)
sorted_filter keep [] up = tt
sorted_filter keep (p ∷ places) up =
    sorted_rest (keep p) p (filter keep places) (All-filter keep (λ q. IsBefore p.key q.key) places up.0)
    (sorted_filter keep places up.1)

-- what passes is kept
has_here : (b : Bool) (p x : Place) (kept : List Place) → b ≡ true → p ≡ x → Contains (cond b (p ∷ kept) kept) x
has_here true p x kept passes is = (0, omega arith, is)
has_here false p x kept passes is = absurd (true≢false (sym passes))

has_later : (b : Bool) (p x : Place) (kept : List Place) → Contains kept x → Contains (cond b (p ∷ kept) kept) x
has_later true p x kept has = let lt = has.1 in (suc has.0, omega (arith, lt), has.2)
has_later false p x kept has = has

has_kept : (keep : Place → Bool) (places : List Place) (x : Place) (k : ℕ) → k < length places
    → slice_index_or places k x ≡ x → keep x ≡ true → Contains (filter keep places) x
has_kept keep [] x k lt is passes = absurd (omega (arith, lt))
has_kept keep (p ∷ places) x zero lt is passes = has_here (keep p) p x (filter keep places) (ap keep is ∙ passes) is
has_kept keep (p ∷ places) x (suc k) lt is passes =
    has_later (keep p) p x (filter keep places) (has_kept keep places x k (omega (arith, lt)) is passes)

module _ (m after : List ℕ) (top : ℕ) (index : Index) (stands : TreeStands m) (above : 0 < top)
    (used : IsUsed (table m) top) (deletes : Deletes m top after) (is : IsIndex (table m) index) where
  abbrev t : List Entry
  t = table m

  abbrev places : List Place
  places = index.places.items

  leads_is : (n e : ℕ) → IsUsed t e → leads_by places n top e ≡ leads_up t n top e
  unfolding leads
  leads_is zero e used_e = refl
  leads_is (suc n) e used_e = ap (λ (b : Bool). (e == top) || b)
      (ap (leads_by places n top) (parent_is t index stands.entries is e used_e)
      ∙ leads_is n (entry_in t e).parent (above_used m stands.entries e 0 used_e))

  abbrev outside : Path → Bool
  outside path = not (starts_with nat_eq path (path_of t top))

  kept_at : (p : Path) → get (retain_keys (tree_of m) outside) p ≡ cond (outside p) (get (tree_of m) p) None
  kept_at p = get-retain_keys (tree_of m) outside p
      (λ q same. ap outside (sym (slice_cmp-IsAntisymmetric nat_cmp-IsAntisymmetric p q same)))

  -- a file that is there after was there before, outside what is deleted
  was : (f : ℕ) → IsUsed (table after) f
      → IsUsed t f × (leads_up t 7 top f ≡ false) × (entry_in (table after) f ≡ entry_in t f)
  was f used_f = by_test (outside (path_of (table after) f)) refl
    where
      path : Path
      path = path_of (table after) f

      got : get (retain_keys (tree_of m) outside) path ≡ Some (file_in after f)
      got = ap (λ (tree : Tree). get tree path) (sym deletes.tree) ∙ get-used after deletes.stands.entries f used_f

      by_test : (b : Bool) → outside path ≡ b
          → IsUsed t f × (leads_up t 7 top f ≡ false) × (entry_in (table after) f ≡ entry_in t f)
      by_test false gone = absurd (true≢false (ap (λ (o : Option File). is_some o)
          (sym got ∙ kept_at path ∙ ap (λ (b : Bool). cond b (get (tree_of m) path) None) gone)))
      by_test true kept =
          let found = entry_found m path (file_in after f)
          (sym (kept_at path ∙ ap (λ (b : Bool). cond b (get (tree_of m) path) None) kept) ∙ got) in
          let g = found.0 in
          let apart : starts_with nat_eq (path_of t g) (path_of t top) ≡ false =
          ap (λ (q : Path). starts_with nat_eq q (path_of t top)) found.2
          ∙ not-true (starts_with nat_eq path (path_of t top)) kept in
          let stays = deletes.kept g found.1 apart in
          let now : IsUsed (table after) g = λ none. found.1 (ap (λ (x : Entry). x.kind) (sym stays.0) ∙ none) in
          let one : g ≡ f = one_path (table after) deletes.stands.entries g f now used_f (stays.1 ∙ found.2) in
          let told : ℕ → Type 0 = λ k. IsUsed t k × (leads_up t 7 top k ≡ false)
          × (entry_in (table after) k ≡ entry_in t k) in
          subst told one (found.1, within_path t stands.entries top above used g found.1 ∙ apart, stays.0)

  -- and a file outside is there after
  stays : (f : ℕ) → IsUsed t f → leads_up t 7 top f ≡ false
      → IsUsed (table after) f × (entry_in (table after) f ≡ entry_in t f)
  stays f used_f out =
      let same = (deletes.kept f used_f (sym (within_path t stands.entries top above used f used_f) ∙ out)).0 in
      (λ none. used_f (ap (λ (x : Entry). x.kind) (sym same) ∙ none), same)

  -- The places that are outside are the index after.
  pub pruned : (new : Index) → new.places.items ≡ filter (is_outside places top) places → IsIndex (table after) new
  pruned new told =
      let keep = is_outside places top in
      let old_each : All (IsPlace t) (filter keep places) = All-filter keep (IsPlace t) places is.each in
      let passes = filter_passes keep places in
      let each : All (IsPlace (table after)) (filter keep places) = λ k d lt.
      (let p = slice_index_or (filter keep places) k d in
      let place = old_each k d lt in
      let out : leads_up t 7 top p.entry ≡ false = sym (leads_is 7 p.entry place.used)
      ∙ not-true (leads_by places 7 top p.entry) (passes k d lt) in
      let now = stays p.entry place.used out in
      record {
        below = place.below;
        used = now.0;
        key_is = place.key_is ∙ ap (λ (x : Entry). key_for x.parent x.identifier) (sym now.1);
      }) in
      let all_of : List Place → Type 0 = λ ps. All (IsPlace (table after)) ps in
      let up_of : List Place → Type 0 = λ ps. AreSorted ps in
      record {
        each = subst all_of (sym told) each;
        all = λ e below used_e.
            let before = was e used_e in
            let has = is.all e below before.0 in
            let passes_e : keep (place_of t e) ≡ true = ap not (leads_is 7 e before.0 ∙ before.1) in
            let kept = has_kept keep places (place_of t e) has.0 has.1 has.2 passes_e in
            let in_list : List Place → Type 0 = λ ps. Contains ps (place_of (table after) e) in
            let of_place : Place → Type 0 = λ p. Contains (filter keep places) p in
            subst in_list (sym told) (subst of_place
            (ap (λ (x : Entry). record { key = key_for x.parent x.identifier; entry = e }) (sym before.2)) kept);
        sorted = subst up_of (sym told) (sorted_filter keep places is.sorted);
      }
