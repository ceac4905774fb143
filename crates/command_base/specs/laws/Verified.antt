-- The PINs that are verified, as a session has them and as the code keeps them.
use Rattle.std.specs.Prelude.{◌-◌, ◌==◌, ◌&&◌, ◌||◌, not, map, if◌then◌else◌, slice_set}
use Rattle.std.proofs.Common.{◌≡◌, ◌≢◌, ◌<◌, ◌+◌, ℕ, zero, suc, Bool, true, false, List, [], ◌∷◌, length, refl, sym}
use Rattle.std.proofs.Common.{◌∙◌, ap, ap₂, arith, inl, inr, true≢false}
use Rattle.std.proofs.lemmas.Bool.Decides.{eqb_tells}
use Rattle.std.proofs.lemmas.List.{get_or-set_other, get_or-set_same}
use Rattle.std.specs.Cmp.{nat_cmp_total, unsigned_tied}
use Rattle.std.specs.FinSet.{contains, empty, insert, remove}
use Rattle.std.specs.FinSet.{contains-from_list_nat, contains-insert, contains-remove}
use Rattle.std.specs.FinSet.{same_set, nat_cmp-IsAntisymmetric}
use Rattle.std.specs.List.{filter, list_any, range_with_len, slice_index_or}
use Rattle.card_model.specs.Pins.{has_pin, no_pins, with_pin, without_pin, IsPinNumber}
use Rattle.file_tree.specs.declared.entry.Entry.{Entry}
use Rattle.command_base.specs.laws.FoundLaws.{same-of}
use Rattle.command_base.specs.declared.current.Current.{Current}
use Rattle.card_model.specs.Sessions.{marked, marks_of}
use Rattle.command_base.specs.Working.{session_of}

-- whether a number is one of 1 to 8
abbrev is_pin : ℕ → Bool
is_pin q = list_any (λ k. k == q) (range_with_len 1 8)

-- one of the numbers that pass a test is this one, where it passes and is one of them
and-or : (passes here is : Bool) (rest old : Bool) → (is ≡ true → passes ≡ here) → rest ≡ (here && old)
    → (if passes then is || rest else rest) ≡ (here && (is || old))
and-or true true true rest old same each = refl
and-or true false true rest old same each = absurd (true≢false (same refl))
and-or false true true rest old same each = absurd (true≢false (sym (same refl)))
and-or false false true rest old same each = each
and-or true true false rest old same each = each
and-or true false false rest old same each = each
and-or false true false rest old same each = each
and-or false false false rest old same each = each

any-cons : (b : Bool) (k q : ℕ) (ks : List ℕ) → list_any (λ k. k == q) (if b then k ∷ ks else ks)
    ≡ (if b then (k == q) || list_any (λ k. k == q) ks else list_any (λ k. k == q) ks)
any-cons true k q ks = refl
any-cons false k q ks = refl

and-false : (b : Bool) → false ≡ (b && false)
and-false true = refl
and-false false = refl

any-filter : (p : ℕ → Bool) (q : ℕ) (ks : List ℕ)
    → list_any (λ k. k == q) (filter p ks) ≡ (p q && list_any (λ k. k == q) ks)
any-filter p q [] = and-false (p q)
any-filter p q (k ∷ ks) =
    any-cons (p k) k q (filter p ks)
    ∙ and-or (p k) (p q) (k == q) _ _ (λ is. ap p (same-of k q is)) (any-filter p q ks)

-- the set of the marked numbers has those of 1 to 8 that are marked
contains-marked : (marks : List Bool) (q : ℕ) → contains (marked marks) q ≡ (has_pin marks q && is_pin q)
contains-marked marks q =
    contains-from_list_nat (filter (has_pin marks) (range_with_len 1 8)) q
    ∙ any-filter (has_pin marks) q (range_with_len 1 8)

-- the numbers are those of the places 0 to 7
place-pin : (n : ℕ) → n < 8 → is_pin (suc n) ≡ true
place-pin zero lt = refl
place-pin (suc zero) lt = refl
place-pin (suc (suc zero)) lt = refl
place-pin (suc (suc (suc zero))) lt = refl
place-pin (suc (suc (suc (suc zero)))) lt = refl
place-pin (suc (suc (suc (suc (suc zero))))) lt = refl
place-pin (suc (suc (suc (suc (suc (suc zero)))))) lt = refl
place-pin (suc (suc (suc (suc (suc (suc (suc zero))))))) lt = refl
place-pin (suc (suc (suc (suc (suc (suc (suc (suc n)))))))) lt = absurd (omega (arith, lt))

has-place : (marks : List Bool) (n : ℕ) → has_pin marks (suc n) ≡ slice_index_or marks n false
has-place marks n = let place : suc n - 1 ≡ n = omega arith in ap (λ k. slice_index_or marks k false) place

and-true : (b : Bool) → (b && true) ≡ b
and-true true = refl
and-true false = refl

-- the place of a PIN is marked so
contains-set : (marks : List Bool) (n : ℕ) (mark : Bool) → length marks ≡ 8 → n < 8 → (q : ℕ)
    → contains (marked (slice_set marks n mark)) q ≡ (if q == suc n then mark else contains (marked marks) q)
contains-set marks n mark sized small q = elim (eqb_tells q (suc n)) [
  | inl same ↦
      contains-marked (slice_set marks n mark) q
      ∙ ap (λ k. has_pin (slice_set marks n mark) k && is_pin k) same.1
      ∙ ap₂ (λ a b. a && b) (has-place (slice_set marks n mark) n ∙ get_or-set_same marks n mark false within)
      (place-pin n small)
      ∙ and-true mark ∙ sym (ap (λ b. if b then mark else contains (marked marks) q) same.0)
  | inr other ↦
      contains-marked (slice_set marks n mark) q ∙ elsewhere q other.1 ∙ sym (contains-marked marks q)
      ∙ sym (ap (λ b. if b then mark else contains (marked marks) q) other.0)
]
  where
    within : n < length marks
    within = omega (arith, sized, small)

    elsewhere : (q : ℕ) → q ≢ suc n → (has_pin (slice_set marks n mark) q && is_pin q) ≡ (has_pin marks q && is_pin q)
    elsewhere zero differ = sym (and-false _) ∙ and-false _
    elsewhere (suc k) differ =
        let other : k ≢ n = λ is. differ (ap suc is) in
        ap (λ b. b && is_pin (suc k)) (has-place (slice_set marks n mark) k
        ∙ get_or-set_other marks n k mark false other ∙ sym (has-place marks k))

if-or : (b old : Bool) → (if b then true else old) ≡ (b || old)
if-or true old = refl
if-or false old = refl

if-and : (b old : Bool) → (if b then false else old) ≡ (not b && old)
if-and true old = refl
if-and false old = refl

-- a PIN that is marked is put into the set
insert-place : (marks : List Bool) (n : ℕ) → length marks ≡ 8 → n < 8
    → marked (slice_set marks n true) ≡ insert (marked marks) (suc n)
insert-place marks n sized small = same_set nat_cmp_total nat_cmp-IsAntisymmetric _ _ (λ q.
    contains-set marks n true sized small q ∙ if-or (q == suc n) _
    ∙ sym (contains-insert nat_cmp_total (marked marks) (suc n) q
    ∙ ap (λ b. b || contains (marked marks) q) (unsigned_tied q (suc n))))

remove-place : (marks : List Bool) (n : ℕ) → length marks ≡ 8 → n < 8
    → marked (slice_set marks n false) ≡ remove (marked marks) (suc n)
remove-place marks n sized small = same_set nat_cmp_total nat_cmp-IsAntisymmetric _ _ (λ q.
    contains-set marks n false sized small q ∙ if-and (q == suc n) _
    ∙ sym (contains-remove nat_cmp_total (marked marks) (suc n) q
    ∙ ap (λ b. not b && contains (marked marks) q) (unsigned_tied q (suc n))))

-- of PIN 1 to 8 one is put into the set, or taken out of it
pub marked-with : (marks : List Bool) (n : ℕ) → length marks ≡ 8 → IsPinNumber n
    → marked (with_pin marks n) ≡ insert (marked marks) n
marked-with marks n sized number =
    let first = number.first in
    let last = number.last in
    let place : suc (n - 1) ≡ n = omega (arith, first) in
    insert-place marks (n - 1) sized (omega (arith, first, last)) ∙ ap (insert (marked marks)) place

pub marked-without : (marks : List Bool) (n : ℕ) → length marks ≡ 8 → IsPinNumber n
    → marked (without_pin marks n) ≡ remove (marked marks) n
marked-without marks n sized number =
    let first = number.first in
    let last = number.last in
    let place : suc (n - 1) ≡ n = omega (arith, first) in
    remove-place marks (n - 1) sized (omega (arith, first, last)) ∙ ap (remove (marked marks)) place

-- no PIN is marked
pub marked-none : marked no_pins ≡ empty
marked-none = refl

-- a list by its elements
pub by_places : (marks : List Bool) (f : ℕ → Bool) (a : ℕ)
    → ((k : ℕ) → k < length marks → f (a + k) ≡ slice_index_or marks k false)
    → map f (range_with_len a (length marks)) ≡ marks
by_places [] f a each = refl
by_places (mark ∷ marks) f a each =
    let here : a ≡ a + 0 = omega arith in
    ap₂ (λ (x : Bool) (rest : List Bool). x ∷ rest) (ap f here ∙ each 0 (omega arith))
    (by_places marks f (a + 1) (λ k lt.
    let next : a + 1 + k ≡ a + suc k = omega arith in ap f next ∙ each (suc k) (omega (arith, lt))))

-- the marks of the set of the marked numbers
pub marks_of-marked : (marks : List Bool) → length marks ≡ 8 → marks_of (marked marks) ≡ marks
marks_of-marked marks sized =
    ap (λ n. map (contains (marked marks)) (range_with_len 1 n)) (sym sized)
    ∙ by_places marks (contains (marked marks)) 1 (λ k lt.
    let small : k < 8 = omega (arith, lt, sized) in
    let place : 1 + k ≡ suc k = omega arith in
    ap (contains (marked marks)) place ∙ contains-marked marks (suc k)
    ∙ ap₂ (λ a b. a && b) (has-place marks k) (place-pin k small) ∙ and-true _)

-- the marks of a session are those that the code keeps
pub marks-are : (t : List Entry) (x : Current) → length x.verified ≡ 8
    → marks_of (session_of t x).verified ≡ x.verified
marks-are t x sized = marks_of-marked x.verified sized
