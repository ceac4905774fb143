-- A table without the free entries behind the last used one: what holds of it holds of the whole.
use Rattle.std.specs.Prelude.{◌≡◌, ◌<◌, ◌≤◌, ◌+◌, ◌-◌, ◌==◌, ◌++◌, ℕ, zero, suc, cond, List, [], ◌∷◌, length}
use Rattle.std.specs.Prelude.{take, drop, All, Option, None}
use Rattle.std.specs.List.{cons_option}
use Rattle.std.proofs.Common.{refl, sym, ◌∙◌, ap, subst, arith, ⊎_elim, get_or-take, get_or-drop, append-nil}
use Rattle.std.proofs.lemmas.Bool.{cases_lt}
use Rattle.std.proofs.lemmas.List.{take-append-drop, length-take-le, length-drop}
use Rattle.std.proofs.lemmas.List.Elements.{filter_map-append}
use Rattle.std.proofs.lemmas.List.Sums.{sum_by-append, sum_by-cons}
use Rattle.block_chain.specs.declared.chain.Extent.{Extent}
use Rattle.file_tree.specs.declared.entry.Entry.{Entry}
use Rattle.file_tree.specs.declared.index.Index.{Index}
use Rattle.file_tree.specs.Entries.{extent_of, free_entry, name_of}
use Rattle.file_tree.specs.Table.{entry_in, ancestor, extents, free_entries, IsUsed, IsEntry, IsMasterFile}
use Rattle.file_tree.specs.Table.{IsBelowMaster, IsChild, HaveIdentifiers, HaveShortIdentifiers, HaveNames, IsTable}
use Rattle.file_tree.specs.Indexes.{IsIndex}
use Rattle.file_tree.specs.TableEnd.{IsTableEnd}
use Rattle.file_tree.specs.laws.Costs.{extent_of-none}
use Rattle.file_tree.specs.laws.Indexed.{index_kept}
use Rattle.file_tree.specs.laws.Tables.{entry_past, entry_within}

-- the same entries have the same ancestors
ancestor_there : (t s : List Entry) → ((e : ℕ) → entry_in s e ≡ entry_in t e) → (n e : ℕ)
    → ancestor s n e ≡ ancestor t n e
unfolding ancestor
ancestor_there t s same zero e = refl
ancestor_there t s same (suc n) e = ap (ancestor s n) (ap (λ (x : Entry). x.parent) (same e))
    ∙ ancestor_there t s same n (entry_in t e).parent

-- Two tables with the same entry at each number.
module _ (t s : List Entry) (same : (e : ℕ) → entry_in s e ≡ entry_in t e) where
  used_there : (e : ℕ) → IsUsed s e → IsUsed t e
  used_there e used = λ none. used (ap (λ (x : Entry). x.kind) (same e) ∙ none)

  child_there : (df e : ℕ) → IsChild s df e → IsChild t df e
  child_there df e child = record {
    below = child.below;
    used = used_there e child.used;
    parent = sym (ap (λ (x : Entry). x.parent) (same e)) ∙ child.parent;
  }

  pub identifiers_there : HaveIdentifiers t → HaveIdentifiers s
  identifiers_there apart df e f one other is = apart df e f (child_there df e one) (child_there df f other)
      (sym (ap (λ (x : Entry). x.identifier) (same e)) ∙ is ∙ ap (λ (x : Entry). x.identifier) (same f))

  shorts_there : HaveShortIdentifiers t → HaveShortIdentifiers s
  shorts_there apart df e f one other some is = apart df e f (child_there df e one) (child_there df f other)
      (λ none. some (ap (λ (x : Entry). x.short) (same e) ∙ none))
      (sym (ap (λ (x : Entry). x.short) (same e)) ∙ is ∙ ap (λ (x : Entry). x.short) (same f))

  names_there : HaveNames t → HaveNames s
  names_there apart e f used other some is = apart e f (used_there e used) (used_there f other)
      (subst (λ (x : Entry). 0 < length (name_of x)) (same e) some)
      (sym (ap name_of (same e)) ∙ is ∙ ap name_of (same f))

  below_there : (e : ℕ) → IsBelowMaster t e → IsBelowMaster s e
  below_there e is = record {
    parent = ap (λ (k : ℕ). (entry_in s k).kind) (ap (λ (x : Entry). x.parent) (same e))
        ∙ ap (λ (x : Entry). x.kind) (same (entry_in t e).parent) ∙ is.parent;
    level = ancestor_there t s same 7 e ∙ is.level;
    identifier = λ bad. is.identifier (sym (ap (λ (x : Entry). x.identifier) (same e)) ∙ bad);
  }

  pub table_there : All IsEntry s → IsTable t → IsTable s
  table_there each rules = record {
    each = each;
    master = (let is_master : Entry → Type 0 = λ x. IsMasterFile x in subst is_master (sym (same 0)) rules.master);
    below = λ e above used. below_there e (rules.below e above (used_there e used));
    identifiers = identifiers_there rules.identifiers;
    short_identifiers = shorts_there rules.short_identifiers;
    names = names_there rules.names;
  }

-- Free entries have no extents, and are counted.
extents_free : (xs : List Entry) → ((k : ℕ) → k < length xs → entry_in xs k ≡ free_entry) → extents xs ≡ []
extents_free [] free = refl
extents_free (x ∷ xs) free =
    let none : extent_of x ≡ None = ap extent_of (free 0 (omega arith)) ∙ extent_of-none free_entry (omega arith) in
    ap (λ (o : Option Extent). cons_option o (extents xs)) none
    ∙ extents_free xs (λ k lt. free (suc k) (omega (arith, lt)))

abbrev one_if_free : Entry → ℕ
one_if_free x = cond (x.kind == 0) 1 0

count_all_free : (xs : List Entry) → ((k : ℕ) → k < length xs → entry_in xs k ≡ free_entry)
    → free_entries xs ≡ length xs
count_all_free [] free = refl
count_all_free (x ∷ xs) free =
    let one : one_if_free x ≡ 1 = ap one_if_free (free 0 (omega arith)) in
    let step : free_entries (x ∷ xs) ≡ one_if_free x + free_entries xs = sum_by-cons one_if_free x xs in
    let rest = count_all_free xs (λ k lt. free (suc k) (omega (arith, lt))) in
    omega (arith, one, step, rest)

free_is_entry : IsEntry free_entry
free_is_entry = record { free = λ none. (refl, refl); used = λ some. absurd (some refl) }

-- The front of a table, with all its used entries.
module _ (t : List Entry) (n : ℕ) (size : length t ≡ 64) (end : IsTableEnd t n) where
  abbrev is_entry : Entry → Type 0
  is_entry x = IsEntry x

  pub length_front : length (take n t) ≡ n
  length_front = let most = end.most in length-take-le n t (omega (arith, most, size))

  pub front_same : (e : ℕ) → entry_in (take n t) e ≡ entry_in t e
  front_same e = ⊎_elim
      (λ (lt : e < n). get_or-take n t e free_entry lt)
      (λ (ge : n ≤ e). entry_past (take n t) e (let l = length_front in omega (arith, l, ge)) ∙ sym (end.free e ge))
      (cases_lt e n)

  behind_free : (k : ℕ) → k < length (drop n t) → entry_in (drop n t) k ≡ free_entry
  behind_free k lt = get_or-drop n t k free_entry ∙ end.free (n + k) (omega arith)

  pub extents_front : extents (take n t) ≡ extents t
  extents_front = sym (append-nil (extents (take n t)))
      ∙ ap (λ (es : List Extent). extents (take n t) ++ es) (sym (extents_free (drop n t) behind_free))
      ∙ sym (filter_map-append extent_of (take n t) (drop n t)) ∙ ap extents (take-append-drop n t)

  pub free_front : free_entries t ≡ free_entries (take n t) + (64 - n)
  free_front =
      let both : free_entries (take n t ++ drop n t) ≡ free_entries (take n t) + free_entries (drop n t) =
      sum_by-append one_if_free (take n t) (drop n t) in
      let whole : free_entries (take n t ++ drop n t) ≡ free_entries t = ap free_entries (take-append-drop n t) in
      let rest = count_all_free (drop n t) behind_free in
      let long = length-drop n t in
      omega (arith, both, whole, rest, long, size)

  each_front : All IsEntry t → All IsEntry (take n t)
  each_front each = λ k d lt.
      let most = end.most in
      let small : k < n = (let l = length_front in omega (arith, lt, l)) in
      subst is_entry (sym (get_or-take n t k d small)) (each k d (omega (arith, small, most, size)))

  each_whole : All IsEntry (take n t) → All IsEntry t
  each_whole each = λ k d lt. ⊎_elim
      (λ (small : k < n). subst is_entry (get_or-take n t k d small)
      (each k d (let l = length_front in omega (arith, small, l))))
      (λ (past : n ≤ k). subst is_entry (sym (entry_within t k d lt ∙ end.free k past)) free_is_entry)
      (cases_lt k n)

  pub front_table : IsTable t → IsTable (take n t)
  front_table rules = table_there t (take n t) front_same (each_front rules.each) rules

  pub whole_table : IsTable (take n t) → IsTable t
  whole_table rules = table_there (take n t) t (λ e. sym (front_same e)) (each_whole rules.each) rules

  pub front_identifiers : HaveIdentifiers t → HaveIdentifiers (take n t)
  front_identifiers apart = identifiers_there t (take n t) front_same apart

  pub whole_index : (index : Index) → IsIndex (take n t) index → IsIndex t index
  whole_index index is = index_kept (take n t) t index (record {
    kinds = λ e. ap (λ (x : Entry). x.kind) (sym (front_same e));
    parents = λ e. ap (λ (x : Entry). x.parent) (sym (front_same e));
    identifiers = λ e. ap (λ (x : Entry). x.identifier) (sym (front_same e));
  }) is
