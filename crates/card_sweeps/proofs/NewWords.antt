-- What a cut leaves, by parts of its memory.
use Rattle.std.specs.Prelude.{◌≡◌, ◌⊎◌, ◌<◌, ◌≤◌, ◌+◌, ◌-◌, ◌&&◌, ℕ, zero, suc, Bool, true, false, List, [], ◌∷◌}
use Rattle.std.specs.Prelude.{length, take, drop, nat_le, nat_lt, slice_index, slice_range, if◌then◌else◌, get_or}
use Rattle.std.proofs.Common.{◌∙◌, ap, ap₂, arith, inl, inr, refl, subst, sym}
use Rattle.std.proofs.lemmas.Bool.{leb-false, leb-true, ltb-false, ltb-true}
use Rattle.std.proofs.lemmas.List.{ext_get_or, get_or-drop, get_or-take, get_or_past}
use Rattle.card_sweeps.specs.WrittenRuns.{IsMasked, IsNewWithin}

-- a word of the first part
same-low : (first a : ℕ) (xs ys : List ℕ) → take first xs ≡ take first ys → a < first
    → slice_index xs a ≡ slice_index ys a
same-low first a xs ys same lt = sym (get_or-take first xs a 0 lt) ∙ ap (λ (l : List ℕ). get_or l a 0) same
    ∙ get_or-take first ys a 0 lt

-- a word of the last part
same-high : (end a : ℕ) (xs ys : List ℕ) → drop end xs ≡ drop end ys → end ≤ a → slice_index xs a ≡ slice_index ys a
same-high end a xs ys same behind =
    let is : end + (a - end) ≡ a = omega (arith, behind) in
    ap (λ (n : ℕ). get_or xs n 0) (sym is) ∙ sym (get_or-drop end xs (a - end) 0)
    ∙ ap (λ (l : List ℕ). get_or l (a - end) 0) same
    ∙ get_or-drop end ys (a - end) 0 ∙ ap (λ (n : ℕ). get_or ys n 0) is

-- a word between them
same-middle : (first end a : ℕ) (xs ys : List ℕ) → slice_range xs first end ≡ slice_range ys first end → first ≤ a
    → a < end → slice_index xs a ≡ slice_index ys a
same-middle first end a xs ys same from to =
    let is : first + (a - first) ≡ a = omega (arith, from) in
    let lt : a - first < end - first = omega (arith, from, to) in
    ap (λ (n : ℕ). get_or xs n 0) (sym is) ∙ sym (get_or-drop first xs (a - first) 0)
    ∙ same-low (end - first) (a - first) (drop first xs) (drop first ys) same lt
    ∙ get_or-drop first ys (a - first) 0 ∙ ap (λ (n : ℕ). get_or ys n 0) is

-- a memory that is new between two addresses
pub new-within : (first end : ℕ) (before after left : List ℕ) → length left ≡ length before
    → length after ≡ length before → take first left ≡ take first before
    → slice_range left first end ≡ slice_range after first end → drop end left ≡ drop end before
    → IsNewWithin first end before after left
new-within first end before after left one two low middle high = record {
  sized = (one, two);
  words = λ a lt. by a (nat_le first a) (nat_lt a end) (λ is. leb-true first a is) (λ is. leb-false first a is)
      (λ is. ltb-true a end is) (λ is. ltb-false a end is);
}
  where
    by : (a : ℕ) (from to : Bool) → (from ≡ true → first ≤ a) → (from ≡ false → a < first) → (to ≡ true → a < end)
        → (to ≡ false → end ≤ a)
        → slice_index left a ≡ (if from && to then slice_index after a else slice_index before a)
    by a false to behind ahead inside outside = same-low first a left before low (ahead refl)
    by a true true behind ahead inside outside = same-middle first end a left after middle (behind refl) (inside refl)
    by a true false behind ahead inside outside = same-high end a left before high (outside refl)

-- what a cut leaves, said of the same memories
pub masked-same : (at words i : ℕ) (before new left after now : List ℕ) → new ≡ after → left ≡ now
    → IsMasked (record { at = at; words = words; before = before; after = new }) i left
    → IsMasked (record { at = at; words = words; before = before; after = after }) i now
masked-same at words i before new left after now one two is =
    subst (λ (m : List ℕ). IsMasked (record { at = at; words = words; before = before; after = m }) i now) one
    (subst (λ (m : List ℕ). IsMasked (record { at = at; words = words; before = before; after = new }) i m) two is)

-- an old word
pub old-word : (first end a x y l : ℕ) → (a < first) ⊎ (end ≤ a)
    → l ≡ (if nat_le first a && nat_lt a end then x else y) → l ≡ y
old-word first end a x y l out is =
    by (nat_le first a) (nat_lt a end) (λ e. leb-true first a e) (λ e. ltb-true a end e) is
  where
    by : (from to : Bool) → (from ≡ true → first ≤ a) → (to ≡ true → a < end) → l ≡ (if from && to then x else y)
        → l ≡ y
    by false to behind inside is = is
    by true false behind inside is = is
    by true true behind inside is = elim out [
      | inl lt ↦ absurd (omega (arith, behind refl, lt))
      | inr ge ↦ absurd (omega (arith, inside refl, ge))
    ]

-- a new word
pub new-word : (first end a x y l : ℕ) → first ≤ a → a < end → l ≡ (if nat_le first a && nat_lt a end then x else y)
    → l ≡ x
new-word first end a x y l from lt is =
    by (nat_le first a) (nat_lt a end) (λ e. leb-false first a e) (λ e. ltb-false a end e) is
  where
    by : (behind inside : Bool) → (behind ≡ false → a < first) → (inside ≡ false → end ≤ a)
        → l ≡ (if behind && inside then x else y) → l ≡ x
    by false inside ahead outside is = absurd (omega (arith, ahead refl, from))
    by true false ahead outside is = absurd (omega (arith, outside refl, lt))
    by true true ahead outside is = is

-- the same beginning, word by word
same-take : (n : ℕ) (xs ys : List ℕ) → length xs ≡ length ys
    → ((a : ℕ) → a < n → slice_index xs a ≡ slice_index ys a) → take n xs ≡ take n ys
same-take zero xs ys len same = refl
same-take (suc n) [] [] len same = refl
same-take (suc n) [] (y ∷ ys) len same = absurd (omega (arith, len))
same-take (suc n) (x ∷ xs) [] len same = absurd (omega (arith, len))
same-take (suc n) (x ∷ xs) (y ∷ ys) len same =
    ap₂ (λ (z : ℕ) (zs : List ℕ). z ∷ zs) (same 0 (omega arith))
    (same-take n xs ys (omega (arith, len)) (λ a lt. same (suc a) (omega (arith, lt))))

-- the same end
same-drop : (n : ℕ) (xs ys : List ℕ) → length xs ≡ length ys
    → ((a : ℕ) → n ≤ a → slice_index xs a ≡ slice_index ys a) → drop n xs ≡ drop n ys
same-drop zero xs ys len same = ext_get_or 0 xs ys len (λ a lt. same a (omega arith))
same-drop (suc n) [] [] len same = refl
same-drop (suc n) [] (y ∷ ys) len same = absurd (omega (arith, len))
same-drop (suc n) (x ∷ xs) [] len same = absurd (omega (arith, len))
same-drop (suc n) (x ∷ xs) (y ∷ ys) len same =
    same-drop n xs ys (omega (arith, len)) (λ a le. same (suc a) (omega (arith, le)))

drop-sized : (n : ℕ) (xs ys : List ℕ) → length xs ≡ length ys → length (drop n xs) ≡ length (drop n ys)
drop-sized zero xs ys len = len
drop-sized (suc n) [] [] len = refl
drop-sized (suc n) [] (y ∷ ys) len = absurd (omega (arith, len))
drop-sized (suc n) (x ∷ xs) [] len = absurd (omega (arith, len))
drop-sized (suc n) (x ∷ xs) (y ∷ ys) len = drop-sized n xs ys (omega (arith, len))

-- a memory that is new between two addresses, part by part
module _ (first end : ℕ) (before after left : List ℕ) (order : first ≤ end) (inside : end ≤ length before)
    (new : IsNewWithin first end before after left) where
  pub low-part : take first left ≡ take first before
  low-part = same-take first left before new.sized.0
      (λ a lt. old-word first end a _ _ _ (inl lt) (new.words a (omega (arith, lt, order, inside))))

  pub high-part : drop end left ≡ drop end before
  high-part = same-drop end left before new.sized.0 (λ a le. by a le (nat_lt a (length before))
      (λ e. ltb-true a (length before) e) (λ e. ltb-false a (length before) e))
    where
      by : (a : ℕ) → end ≤ a → (short : Bool) → (short ≡ true → a < length before)
          → (short ≡ false → length before ≤ a) → slice_index left a ≡ slice_index before a
      by a le true lt past = old-word first end a _ _ _ (inr le) (new.words a (lt refl))
      by a le false lt past = get_or_past left a 0 (omega (arith, past refl, new.sized.0))
          ∙ sym (get_or_past before a 0 (past refl))

  pub middle-part : slice_range left first end ≡ slice_range after first end
  middle-part = same-take (end - first) (drop first left) (drop first after)
      (drop-sized first left after (new.sized.0 ∙ sym new.sized.1))
      (λ a lt. get_or-drop first left a 0
      ∙ new-word first end (first + a) _ _ _ (omega arith) (omega (arith, lt))
      (new.words (first + a) (omega (arith, lt, inside))) ∙ sym (get_or-drop first after a 0))

-- where the memories before and after a write are the same, it may begin anywhere
pub same-anywhere : (first end other last : ℕ) (before after left : List ℕ)
    → ((a : ℕ) → a < length before → slice_index before a ≡ slice_index after a)
    → IsNewWithin first end before after left → IsNewWithin other last before after left
same-anywhere first end other last before after left same new = record {
  sized = new.sized;
  words = λ a lt. is-before (nat_le first a && nat_lt a end) (slice_index after a) (slice_index before a) _ (same a lt)
      (new.words a lt) ∙ is-either (nat_le other a && nat_lt a last) _ _ (same a lt);
}
  where
    is-before : (new : Bool) (x y l : ℕ) → y ≡ x → l ≡ (if new then x else y) → l ≡ y
    is-before true x y l same is = is ∙ sym same
    is-before false x y l same is = is

    is-either : (new : Bool) (x y : ℕ) → y ≡ x → y ≡ (if new then x else y)
    is-either true x y same = same
    is-either false x y same = refl
