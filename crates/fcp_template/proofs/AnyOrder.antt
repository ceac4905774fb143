-- Objects mean the same in any order.
use Rattle.std.proofs.Common.{ℕ, zero, suc, ◌≡◌, ◌+◌, ◌≤◌, ◌<◌, ◌==◌, nat_lt, not, ◌&&◌, ◌||◌, Bool, true, false, cond}
use Rattle.std.proofs.Common.{List, [], ◌∷◌, length, Option, Some, None, option_map, is_some, Result, refl, sym, ap}
use Rattle.std.proofs.Common.{subst, ◌∙◌, inl, inr, arith}
use Rattle.std.specs.Prelude.{find, count_by, if◌then◌else◌, Contains, slice_index_or}
use Rattle.std.specs.List.{list_any}
use Rattle.std.specs.List.Sorted.{IsPermutation}
use Rattle.std.proofs.lemmas.Bool.{cases_lt, cases_eq, ne_eqb, lt-ltb, false≢true}
use Rattle.std.proofs.lemmas.List.Sums.{sum_by-cons}
use Rattle.std.proofs.lemmas.List.Sorted.{Contains-permutation, sum_by-IsPermutation}
use Rattle.card_model.specs.declared.fcp.Fcp.{Fcp}
use Rattle.card_model.specs.declared.fcp.FileKind.TheVariants as kinds
use Rattle.card_model.specs.declared.fault.FcpFault.{FcpFault}
use Rattle.card_model.specs.declared.descriptor.Structure.{Structure}
use Rattle.card_model.specs.declared.descriptor.Descriptor.{Descriptor}
use Rattle.card_model.specs.declared.descriptor.Descriptor.TheVariants as descriptors
use Rattle.card_model.specs.TemplateGrammar.{DataObject, IsTemplate, is_tag, descriptor_of, identifier_of, name_read}
use Rattle.card_model.specs.TemplateGrammar.{short_read, number_read, size_of, records_read, life_cycle_of, rule_read}
use Rattle.card_model.specs.TemplateGrammar.{◌>>=◌}
use Rattle.card_model.specs.TemplateGrammar.{has, value_at, is_df_descriptor, count_of, is_again, is_missing, is_twice}
use Rattle.card_model.specs.TemplateGrammar.{has_unknown, df_of, transparent_of, structured, record_file_of, kind_read}
use Rattle.card_model.specs.TemplateGrammar.{fcp_of, meaning, FcpReads}
use Rattle.fcp_template.proofs.OneReading.{reading_of_template}

-- ---- a search, where one element at most passes

module _ {X : Type 0} (p : X → Bool) where
  count_cons : (y : X) (ys : List X) → count_by p (y ∷ ys) ≡ cond (p y) 1 0 + count_by p ys
  count_cons y ys = sum_by-cons (λ x. cond (p x) 1 0) y ys

  -- what passes is counted
  counted : (xs : List X) (x : X) (k : ℕ) → k < length xs → slice_index_or xs k x ≡ x → p x ≡ true → 1 ≤ count_by p xs
  counted [] x k lt at passes = absurd (omega arith)
  counted (y ∷ ys) x zero lt at passes =
      let one : cond {A = ℕ} (p y) 1 0 ≡ 1 = ap (λ (b : Bool). cond {A = ℕ} b 1 0) (ap p at ∙ passes) in
      let c = count_cons y ys in
      omega arith
  counted (y ∷ ys) x (suc k) lt at passes =
      let more = counted ys x k (omega arith) at passes in
      let c = count_cons y ys in
      omega arith

  find_only : (xs : List X) (x : X) (k : ℕ) → k < length xs → slice_index_or xs k x ≡ x → p x ≡ true → count_by p xs ≤ 1
      → find p xs ≡ Some x
  find_only [] x k lt at passes once = absurd (omega arith)
  find_only (y ∷ ys) x zero lt at passes once = let e : p y ≡ true = ap p at ∙ passes in
      rw e (ap (λ (z : X). Some z) at)
  find_only (y ∷ ys) x (suc k) lt at passes once =
      let more = counted ys x k (omega arith) at passes in
      let later = find_only ys x k (omega arith) at passes in
      elim (p y) as (λ b. cond b 1 0 + count_by p ys ≤ 1 → cond b (Some y) (find p ys) ≡ Some x) [
        | true ↦ λ few. absurd (omega arith)
        | false ↦ λ few. later (omega arith)
      ] (subst (λ (n : ℕ). n ≤ 1) (count_cons y ys) once)

  found : (xs : List X) (x : X) → find p xs ≡ Some x → (p x ≡ true) × Contains xs x
  found [] x e = absurd cc
  found (y ∷ ys) x e =
      let later = found ys x in
      elim (p y) as (λ b. p y ≡ b → cond b (Some y) (find p ys) ≡ Some x → (p x ≡ true) × Contains (y ∷ ys) x) [
        | true ↦ λ py is. let same : y ≡ x = cc in (ap p (sym same) ∙ py, (0, omega arith, same))
        | false ↦ λ py is. let l = later is in (l.0, (suc l.1.0, omega (arith, l.1.1), l.1.2))
      ] refl e

  none_counted : (xs : List X) → find p xs ≡ None → count_by p xs ≡ 0
  none_counted [] e = refl
  none_counted (y ∷ ys) e =
      let later = none_counted ys in
      count_cons y ys ∙ elim (p y) as (λ b. cond b (Some y) (find p ys) ≡ None → cond b 1 0 + count_by p ys ≡ 0)
      [ true ↦ λ is. absurd cc | false ↦ λ is. let l = later is in omega arith ] e

  counted_none : (xs : List X) → count_by p xs ≡ 0 → find p xs ≡ None
  counted_none [] e = refl
  counted_none (y ∷ ys) e =
      let later = counted_none ys in
      elim (p y) as (λ b. cond b 1 0 + count_by p ys ≡ 0 → cond b (Some y) (find p ys) ≡ None)
      [ true ↦ λ is. absurd (omega arith) | false ↦ λ is. later (omega arith) ] (sym (count_cons y ys) ∙ e)

  pub any_counted : (xs : List X) → list_any p xs ≡ nat_lt 0 (count_by p xs)
  any_counted [] = refl
  any_counted (y ∷ ys) =
      let later = any_counted ys in
      let step : (p y || list_any p ys) ≡ nat_lt 0 (cond (p y) 1 0 + count_by p ys) =
      elim (p y) as (λ b. (b || list_any p ys) ≡ nat_lt 0 (cond b 1 0 + count_by p ys)) [
        | true ↦ sym (lt-ltb 0 (1 + count_by p ys) (omega arith))
        | false ↦ let z : 0 + count_by p ys ≡ count_by p ys = omega arith in rw z later
      ] in
      step ∙ ap (λ (n : ℕ). nat_lt 0 n) (sym (count_cons y ys))

  same_count : (xs ys : List X) → IsPermutation xs ys → count_by p xs ≡ count_by p ys
  same_count xs ys moved = sym (sum_by-IsPermutation (λ x. cond (p x) 1 0) xs ys moved)

  same_any : (xs ys : List X) → IsPermutation xs ys → list_any p xs ≡ list_any p ys
  same_any xs ys moved = any_counted xs ∙ ap (λ (n : ℕ). nat_lt 0 n) (same_count xs ys moved) ∙ sym (any_counted ys)

  same_find : (xs ys : List X) → IsPermutation xs ys → count_by p xs ≤ 1 → find p xs ≡ find p ys
  same_find xs ys moved once = at_found (find p xs) refl
    where
      at_found : (o : Option X) → find p xs ≡ o → find p xs ≡ find p ys
      at_found None e = e ∙ sym (counted_none ys (sym (same_count xs ys moved) ∙ none_counted xs e))
      at_found (Some x) e =
          let f = found xs x e in
          let there = Contains-permutation xs ys x moved f.1 in
          let few : count_by p ys ≤ 1 = let same = same_count xs ys moved in omega arith in
          e ∙ sym (find_only ys x there.0 there.1 there.2 f.0 few)

-- ---- objects in another order

module _ (os ps : List DataObject) (moved : IsPermutation os ps) where
  has_same : (tag : ℕ) → has os tag ≡ has ps tag
  has_same tag = same_any (λ o. o.tag == tag) os ps moved

  count_same : (tag : ℕ) → count_of os tag ≡ count_of ps tag
  count_same tag = same_count (λ o. o.tag == tag) os ps moved

  missing_same : is_missing os ≡ is_missing ps
  missing_same = λ i. not (has_same 0x82 i) || not (has_same 0x83 i) || not (has_same 0x8C i) || not (has_same 0x80 i)
      && not (same_any is_df_descriptor os ps moved i)

  twice_same : is_twice os ≡ is_twice ps
  twice_same = (λ i. list_any (λ o. is_tag o.tag && nat_lt 1 (count_same o.tag i)) os)
      ∙ same_any (is_again ps) os ps moved

  unknown_same : has_unknown os ≡ has_unknown ps
  unknown_same = same_any (λ o. not (is_tag o.tag)) os ps moved

  value_same : (tag : ℕ) → count_of os tag ≤ 1 → value_at os tag ≡ value_at ps tag
  value_same tag once = ap (λ (o : Option DataObject). option_map (λ o. o.value) o)
      (same_find (λ o. o.tag == tag) os ps moved once)

-- some object with a tag passes a test that each object with the tag passes
some_with : (test : DataObject → Bool) (tag : ℕ) → ((o : DataObject) → o.tag ≡ tag → test o ≡ true)
    → (os : List DataObject) → 1 ≤ count_of os tag → list_any test os ≡ true
some_with test tag each [] more = absurd (omega arith)
some_with test tag each (o ∷ os) more =
    let later = some_with test tag each os in
    elim (cases_eq o.tag tag) [
      | inl same ↦ rw (each o same) refl
      | inr other ↦
          let no : (o.tag == tag) ≡ false = ne_eqb o.tag tag other in
          let none : cond {A = ℕ} (o.tag == tag) 1 0 ≡ 0 = ap (λ (b : Bool). cond {A = ℕ} b 1 0) no in
          let c = count_cons (λ o. o.tag == tag) o os in
          let more' : 1 ≤ count_of os tag = omega arith in
          let rest = later more' in
          or_true (test o) (list_any test os) rest
    ]
  where
    or_true : (a b : Bool) → b ≡ true → (a || b) ≡ true
    or_true true b e = refl
    or_true false b e = e

-- where no tag of the table comes twice, each is there once at most
once : (os : List DataObject) → is_twice os ≡ false → (tag : ℕ) → is_tag tag ≡ true → count_of os tag ≤ 1
once os none tag known =
    elim (cases_lt 1 (count_of os tag)) [
      | inl more ↦
          let test : (is_tag tag && nat_lt 1 (count_of os tag)) ≡ true =
          rw (known, lt-ltb 1 (count_of os tag) more) refl in
          let each : (o : DataObject) → o.tag ≡ tag → is_again os o ≡ true =
          λ o same. subst (λ (t : ℕ). (is_tag t && nat_lt 1 (count_of os t)) ≡ true) (sym same) test in
          absurd (false≢true (sym none ∙ some_with (is_again os) tag each os (omega arith)))
      | inr few ↦ few
    ]

-- what the look-ups of the parameters give
record SameValues (os ps : List DataObject) : Type 0 where
  descriptor : value_at os 0x82 ≡ value_at ps 0x82
  identifier : value_at os 0x83 ≡ value_at ps 0x83
  name : value_at os 0x84 ≡ value_at ps 0x84
  short : value_at os 0x88 ≡ value_at ps 0x88
  size : value_at os 0x80 ≡ value_at ps 0x80
  life_cycle : value_at os 0x8A ≡ value_at ps 0x8A
  rule : value_at os 0x8C ≡ value_at ps 0x8C
  has_name : has os 0x84 ≡ has ps 0x84
  has_short : has os 0x88 ≡ has ps 0x88
  has_size : has os 0x80 ≡ has ps 0x80
  unknown : has_unknown os ≡ has_unknown ps

df_same : (os ps : List DataObject) → SameValues os ps → df_of os ≡ df_of ps
unfolding df_of
df_same os ps s = λ i. (name_read (s.name i) >>= λ name.
    if s.has_short i || s.has_size i && not (is_some (s.size i >>= number_read)) then None else Some (kinds.Df name))

transparent_same : (os ps : List DataObject) → SameValues os ps → transparent_of os ≡ transparent_of ps
unfolding transparent_of
transparent_same os ps s = λ i. (short_read (s.short i) >>= λ short. size_of (s.size i >>= number_read) >>= λ size. if
    s.has_name i then None else Some (kinds.Transparent short size))

record_file_same : (os ps : List DataObject) → SameValues os ps
    → (structure : Structure) (record_length : ℕ) (existing : Option ℕ)
    → record_file_of structure record_length existing os ≡ record_file_of structure record_length existing ps
unfolding record_file_of
record_file_same os ps s structure record_length existing = λ i.
    (short_read (s.short i) >>= λ short. size_of
    (s.size i >>= number_read) >>= λ size. records_read record_length existing
    size >>= λ records. if s.has_name i then None else Some (structured structure short records))

kind_same : (os ps : List DataObject) → SameValues os ps → (descriptor : Descriptor)
    → kind_read descriptor os ≡ kind_read descriptor ps
kind_same os ps s descriptors.Df = df_same os ps s
kind_same os ps s descriptors.Transparent = transparent_same os ps s
kind_same os ps s (descriptors.Records structure record_length existing) =
    record_file_same os ps s structure record_length existing

fcp_same : (os ps : List DataObject) → SameValues os ps → fcp_of os ≡ fcp_of ps
unfolding fcp_of
fcp_same os ps s = λ i.
    (s.descriptor i >>= descriptor_of >>= λ descriptor. s.identifier i >>= identifier_of >>= λ identifier. kind_same os
    ps s descriptor i >>= λ kind.
    life_cycle_of (s.life_cycle i) >>= λ life_cycle. s.rule i >>= rule_read >>= λ rule.
    if s.unknown i then None else Some (record
    { identifier = identifier; life_cycle = life_cycle; rule = rule; kind = kind }))

same_values : (os ps : List DataObject) → IsPermutation os ps → is_twice os ≡ false → SameValues os ps
same_values os ps moved none = record {
  descriptor = value_same os ps moved 0x82 (once os none 0x82 refl);
  identifier = value_same os ps moved 0x83 (once os none 0x83 refl);
  name = value_same os ps moved 0x84 (once os none 0x84 refl);
  short = value_same os ps moved 0x88 (once os none 0x88 refl);
  size = value_same os ps moved 0x80 (once os none 0x80 refl);
  life_cycle = value_same os ps moved 0x8A (once os none 0x8A refl);
  rule = value_same os ps moved 0x8C (once os none 0x8C refl);
  has_name = has_same os ps moved 0x84;
  has_short = has_same os ps moved 0x88;
  has_size = has_same os ps moved 0x80;
  unknown = unknown_same os ps moved;
}

meaning_in_any_order : (os ps : List DataObject) → IsPermutation os ps → meaning os ≡ meaning ps
meaning_in_any_order os ps moved = at_twice (is_twice os) refl
  where
    at_twice : (t : Bool) → is_twice os ≡ t → meaning os ≡ meaning ps
    at_twice true e =
        let f : is_twice ps ≡ true = sym (twice_same os ps moved) ∙ e in
        rw (e, f, missing_same os ps moved) refl
    at_twice false e =
        let f : is_twice ps ≡ false = sym (twice_same os ps moved) ∙ e in
        rw (e, f, missing_same os ps moved, fcp_same os ps (same_values os ps moved e)) refl

pub in_any_order : (text other : List ℕ) (os ps : List DataObject) (read : Result Fcp FcpFault) → IsTemplate text os
    → IsTemplate other ps → IsPermutation os ps → FcpReads text read → FcpReads other read
in_any_order text other os ps read t u moved reads =
    inl (ps, u, reading_of_template text os read t reads ∙ meaning_in_any_order os ps moved)
