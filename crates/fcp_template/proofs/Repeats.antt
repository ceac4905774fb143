-- A tag of the table occurs twice where an object has it that a later one has too.
use Rattle.std.proofs.Common.{ℕ, ◌≡◌, ◌+◌, ◌≤◌, ◌==◌, nat_lt, ◌&&◌, ◌||◌, Bool, true, false, cond, List, [], ◌∷◌}
use Rattle.std.proofs.Common.{refl, sym, ap, ◌∙◌, inl, inr, arith}
use Rattle.std.specs.List.{list_any}
use Rattle.std.proofs.lemmas.Bool.{cases_Bool, and_parts, and_from, and_left, and_right, or_left, or_right, or_parts}
use Rattle.std.proofs.lemmas.Bool.{or_from, lt-ltb, le-ltb, ltb-true, ltb-false, false≢true, eq-eqb}
use Rattle.std.proofs.lemmas.Bool.Decides.{eqb_tells}
use Rattle.std.proofs.lemmas.List.Sums.{sum_by-cons}
use Rattle.card_model.specs.TemplateGrammar.{DataObject, is_tag, has, count_of, is_again, is_twice}
use Rattle.fcp_template.proofs.AnyOrder.{any_counted}

-- an object has a tag of the table that a later one has too
unfoldable pub repeats : List DataObject → Bool
repeats [] = false
repeats (o ∷ os) = (is_tag o.tag && has os o.tag) || repeats os

pub repeats-nil : repeats [] ≡ false
unfolding repeats
repeats-nil = refl

pub repeats-cons : (o : DataObject) (os : List DataObject)
    → repeats (o ∷ os) ≡ ((is_tag o.tag && has os o.tag) || repeats os)
unfolding repeats
repeats-cons o os = refl

count_more : (o : DataObject) (os : List DataObject) (tag : ℕ)
    → count_of (o ∷ os) tag ≡ cond (o.tag == tag) 1 0 + count_of os tag
count_more o os tag = sum_by-cons (λ (p : DataObject). cond (p.tag == tag) 1 0) o os

count_here : (o : DataObject) (os : List DataObject) (tag : ℕ) → o.tag ≡ tag
    → count_of (o ∷ os) tag ≡ 1 + count_of os tag
count_here o os tag is =
    count_more o os tag ∙ ap (λ (b : Bool). cond {A = ℕ} b 1 0 + count_of os tag) (eq-eqb o.tag tag is)

has_counted : (os : List DataObject) (tag : ℕ) → has os tag ≡ nat_lt 0 (count_of os tag)
has_counted os tag = any_counted (λ (o : DataObject). o.tag == tag) os

-- where one repeats, a tag is counted twice
some_repeat : (os : List DataObject) → repeats os ≡ true → (tag : ℕ) × (is_tag tag ≡ true) × (2 ≤ count_of os tag)
some_repeat [] e = absurd (false≢true (sym repeats-nil ∙ e))
some_repeat (o ∷ os) e = elim (cases_Bool (is_tag o.tag && has os o.tag)) [
  | inl here ↦
      let parts = and_parts (is_tag o.tag) (has os o.tag) here in
      let some = ltb-true 0 (count_of os o.tag) (sym (has_counted os o.tag) ∙ parts.1) in
      let more = count_here o os o.tag refl in
      (o.tag, parts.0, omega (arith, some, more))
  | inr other ↦
      let later : repeats os ≡ true =
      ap (λ (b : Bool). b || repeats os) (sym other) ∙ sym (repeats-cons o os) ∙ e in
      let found = some_repeat os later in
      let more = count_more o os found.0 in
      let twice = found.2 in
      (found.0, found.1, omega (arith, twice, more))
]

-- where none repeats, none is counted twice
no_repeat : (os : List DataObject) → repeats os ≡ false → (tag : ℕ) → is_tag tag ≡ true → count_of os tag ≤ 1
no_repeat [] e tag known = omega arith
no_repeat (o ∷ os) e tag known =
    let parts = or_parts (is_tag o.tag && has os o.tag) (repeats os) (sym (repeats-cons o os) ∙ e) in
    let later = no_repeat os parts.1 tag known in
    elim (eqb_tells o.tag tag) [
      | inl same ↦
          let more = count_here o os tag same.1 in
          let none : has os tag ≡ false = elim (cases_Bool (has os tag)) [
            | inl has_it ↦ absurd (false≢true (sym parts.0
                ∙ ap (λ (t : ℕ). is_tag t && has os t) same.1 ∙ and_from (is_tag tag) (has os tag) known has_it))
            | inr not_it ↦ not_it
          ] in
          let few = ltb-false 0 (count_of os tag) (sym (has_counted os tag) ∙ none) in
          omega (arith, more, few)
      | inr other ↦
          let more = count_more o os tag
          ∙ ap (λ (b : Bool). cond {A = ℕ} b 1 0 + count_of os tag) other.0 in
          omega (arith, more, later)
    ]

-- an object with a tag that is counted twice
some_again : (all os : List DataObject) (tag : ℕ) → is_tag tag ≡ true → 2 ≤ count_of all tag → 1 ≤ count_of os tag
    → list_any (is_again all) os ≡ true
some_again all [] tag known twice some = absurd (omega (arith, some))
some_again all (o ∷ os) tag known twice some = elim (eqb_tells o.tag tag) [
  | inl same ↦
      or_left (is_again all o) (list_any (is_again all) os)
      (ap (λ (t : ℕ). is_tag t && nat_lt 1 (count_of all t)) same.1
      ∙ and_from (is_tag tag) (nat_lt 1 (count_of all tag)) known (lt-ltb 1 (count_of all tag) (omega (arith, twice))))
  | inr other ↦
      let more = count_more o os tag ∙ ap (λ (b : Bool). cond {A = ℕ} b 1 0 + count_of os tag) other.0 in
      or_right (is_again all o) (list_any (is_again all) os)
      (some_again all os tag known twice (omega (arith, more, some)))
]

none_again : (all os : List DataObject) → ((tag : ℕ) → is_tag tag ≡ true → count_of all tag ≤ 1)
    → list_any (is_again all) os ≡ false
none_again all [] few = refl
none_again all (o ∷ os) few = or_from (is_again all o) (list_any (is_again all) os)
    (elim (cases_Bool (is_tag o.tag)) [
      | inl known ↦ and_right (is_tag o.tag) (nat_lt 1 (count_of all o.tag))
          (le-ltb 1 (count_of all o.tag) (few o.tag known))
      | inr other ↦ and_left (is_tag o.tag) (nat_lt 1 (count_of all o.tag)) other
    ])
    (none_again all os few)

pub twice_is : (os : List DataObject) → is_twice os ≡ repeats os
twice_is os = elim (cases_Bool (repeats os)) [
  | inl some ↦
      let found = some_repeat os some in
      let twice = found.2 in
      some_again os os found.0 found.1 twice (omega (arith, twice)) ∙ sym some
  | inr none ↦ none_again os os (no_repeat os none) ∙ sym none
]

-- an object whose tag no later one has
pub repeats_on : (o : DataObject) (os : List DataObject) → (is_tag o.tag && has os o.tag) ≡ false
    → repeats (o ∷ os) ≡ repeats os
repeats_on o os other = repeats-cons o os ∙ ap (λ (b : Bool). b || repeats os) other

-- an object whose tag a later one has
pub repeats_here : (o : DataObject) (os : List DataObject) → (is_tag o.tag && has os o.tag) ≡ true
    → repeats (o ∷ os) ≡ true
repeats_here o os here = repeats-cons o os ∙ ap (λ (b : Bool). b || repeats os) here
