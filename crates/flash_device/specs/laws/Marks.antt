-- Laws of words that stay, and of marks.
use Rattle.std.specs.Prelude.{◌≡◌, ◌≢◌, ◌⊎◌, ◌<◌, ◌≤◌, ◌+◌, ℕ, Bool, true, false, List, length}
use Rattle.std.specs.Prelude.{◌&&◌, not, nat_eq, slice_index}
use Rattle.std.proofs.Common.{refl, ◌∙◌, ap, ap₂, inl, inr, ⊎_elim, arith, true≢false}
use Rattle.std.proofs.lemmas.Bool.{cases_eq, eqb-true}
use Rattle.flash_device.specs.declared.layout.TheConstants.{FIRST_MARK, SECOND_MARK}
use Rattle.flash_device.specs.FlashCalls.{SameElsewhere, IsThere, AreFilled}
use Rattle.flash_device.specs.declared.flash.TheConstants.{BLANK}
use Rattle.flash_device.specs.FlashLogs.{is_marked, is_closed}
use Rattle.flash_device.specs.PutRecords.{IsPut, PutsInSlot}

-- a run within a larger one
pub elsewhere_wider : (m after : List ℕ) (at size from all : ℕ) → from ≤ at → at + size ≤ from + all
    → SameElsewhere m at size after → SameElsewhere m from all after
elsewhere_wider m after at size from all low high h = record {
  same = λ k out. h.same k (⊎_elim
      (λ (before : k < from). let x : k < at = omega (arith, before, low) in inl x)
      (λ (past : from + all ≤ k). let x : at + size ≤ k = omega (arith, past, high) in inr x) out);
}

-- two changes of one run
pub elsewhere_then : (m mid after : List ℕ) (at size : ℕ) → SameElsewhere m at size mid
    → SameElsewhere mid at size after → SameElsewhere m at size after
elsewhere_then m mid after at size g h = record { same = λ k out. h.same k out ∙ g.same k out }

-- no change
pub elsewhere_none : (m after : List ℕ) (at size : ℕ) → after ≡ m → SameElsewhere m at size after
elsewhere_none m after at size e = record { same = λ k out. ap (λ (l : List ℕ). slice_index l k) e }

-- a mark by its two words
pub mark_words : (m : List ℕ) (at : ℕ) → slice_index m at ≡ FIRST_MARK → slice_index m (at + 1) ≡ SECOND_MARK
    → is_marked m at ≡ true
unfolding is_marked
mark_words m at first second = ap₂ (λ (a b : ℕ). nat_eq a FIRST_MARK && nat_eq b SECOND_MARK) first second

-- a mark elsewhere stays
pub mark_same : (m after : List ℕ) (at from size : ℕ) → SameElsewhere m from size after
    → (at + 2 ≤ from) ⊎ (from + size ≤ at) → is_marked after at ≡ is_marked m at
unfolding is_marked
mark_same m after at from size h out =
    let first = ⊎_elim
    (λ (before : at + 2 ≤ from). let x : at < from = omega (arith, before) in h.same at (inl x))
    (λ (past : from + size ≤ at). h.same at (inr past)) out in
    let second = ⊎_elim
    (λ (before : at + 2 ≤ from). let x : at + 1 < from = omega (arith, before) in h.same (at + 1) (inl x))
    (λ (past : from + size ≤ at). let x : from + size ≤ at + 1 = omega (arith, past) in h.same (at + 1) (inr x))
    out in
    ap₂ (λ (a b : ℕ). nat_eq a FIRST_MARK && nat_eq b SECOND_MARK) first second

-- a block that has its mark is closed
pub closed_words : (m : List ℕ) (at : ℕ) → slice_index m at ≡ FIRST_MARK → is_closed m at ≡ true
unfolding is_closed
closed_words m at first = ap (λ (a : ℕ). not (nat_eq a BLANK && nat_eq (slice_index m (at + 1)) BLANK)) first

-- a block that is closed or open elsewhere stays so
pub closed_same : (m after : List ℕ) (at from size : ℕ) → SameElsewhere m from size after
    → (at + 2 ≤ from) ⊎ (from + size ≤ at) → is_closed after at ≡ is_closed m at
unfolding is_closed
closed_same m after at from size h out =
    let first = ⊎_elim
    (λ (before : at + 2 ≤ from). let x : at < from = omega (arith, before) in h.same at (inl x))
    (λ (past : from + size ≤ at). h.same at (inr past)) out in
    let second = ⊎_elim
    (λ (before : at + 2 ≤ from). let x : at + 1 < from = omega (arith, before) in h.same (at + 1) (inl x))
    (λ (past : from + size ≤ at). let x : from + size ≤ at + 1 = omega (arith, past) in h.same (at + 1) (inr x))
    out in
    ap₂ (λ (a b : ℕ). not (nat_eq a BLANK && nat_eq b BLANK)) first second

-- a block is closed or open by its two words
pub closed_by : (m after : List ℕ) (at : ℕ) → slice_index after at ≡ slice_index m at
    → slice_index after (at + 1) ≡ slice_index m (at + 1) → is_closed after at ≡ is_closed m at
unfolding is_closed
closed_by m after at first second = ap₂ (λ (a b : ℕ). not (nat_eq a BLANK && nat_eq b BLANK)) first second

-- a blank word is no mark
pub blank_mark : (m : List ℕ) (at : ℕ) → slice_index m at ≡ BLANK → is_marked m at ≡ false
unfolding is_marked
blank_mark m at e = ap (λ (w : ℕ). nat_eq w FIRST_MARK && nat_eq (slice_index m (at + 1)) SECOND_MARK) e

-- a blank slot has no mark
pub blank_slot : (m : List ℕ) (at : ℕ) → AreFilled m at 20 BLANK → is_marked m (at + 18) ≡ false
blank_slot m at all = blank_mark m (at + 18) (all.each 18 (omega arith))

-- a block that is open has a blank place for its mark
pub open_blank : (m : List ℕ) (at : ℕ) → is_closed m at ≡ false → AreFilled m at 2 BLANK
unfolding is_closed
open_blank m at e = record {
  each = λ k lt. ⊎_elim
      (λ (z : k ≡ 0). let here : at + k ≡ at = omega (arith, z) in ap (λ (j : ℕ). slice_index m j) here ∙ both.0)
      (λ (n : k ≢ 0). let here : at + k ≡ at + 1 =
      omega (arith, n, lt) in ap (λ (j : ℕ). slice_index m j) here ∙ both.1)
      (cases_eq k 0);
}
  where
    ands : (a b : Bool) → not (a && b) ≡ false → (a ≡ true) × (b ≡ true)
    ands true true h = (refl, refl)
    ands true false h = absurd (true≢false h)
    ands false b h = absurd (true≢false h)

    both : (slice_index m at ≡ BLANK) × (slice_index m (at + 1) ≡ BLANK)
    both = let h = ands (nat_eq (slice_index m at) BLANK) (nat_eq (slice_index m (at + 1)) BLANK) e in
        (eqb-true (slice_index m at) BLANK h.0, eqb-true (slice_index m (at + 1)) BLANK h.1)

-- a part of what is blank
pub blank_part : (m : List ℕ) (at size from few : ℕ) → AreFilled m at size BLANK → from + few ≤ size
    → AreFilled m (at + from) few BLANK
blank_part m at size from few all fits = record {
  each = λ k lt.
      let place : at + from + k ≡ at + (from + k) = omega arith in
      ap (λ (j : ℕ). slice_index m j) place ∙ all.each (from + k) (omega (arith, lt, fits));
}

-- blank words leave a block open
pub blank_open : (m : List ℕ) (at : ℕ) → slice_index m at ≡ BLANK → slice_index m (at + 1) ≡ BLANK
    → is_closed m at ≡ false
unfolding is_closed
blank_open m at x y = ap₂ (λ (a b : ℕ). not (nat_eq a BLANK && nat_eq b BLANK)) x y

pub filled_open : (m : List ℕ) (at : ℕ) → AreFilled m at 2 BLANK → is_closed m at ≡ false
filled_open m at all = let here : at ≡ at + 0 = omega arith in
    blank_open m at (ap (λ (k : ℕ). slice_index m k) here ∙ all.each 0 (omega arith)) (all.each 1 (omega arith))

-- what is blank stays so where nothing changes
pub blank_same : (m after : List ℕ) (at size from all : ℕ) → SameElsewhere m from all after
    → (at + size ≤ from) ⊎ (from + all ≤ at) → AreFilled m at size BLANK → AreFilled after at size BLANK
blank_same m after at size from all h out blank = record {
  each = λ k lt. h.same (at + k) (⊎_elim
      (λ (before : at + size ≤ from). let x : at + k < from = omega (arith, before, lt) in inl x)
      (λ (past : from + all ≤ at). let x : from + all ≤ at + k = omega (arith, past) in inr x) out)
      ∙ blank.each k lt;
}

-- a record without its mark
pub puts_none : (m after words : List ℕ) (at : ℕ) → length words ≡ 18 → is_marked m (at + 18) ≡ false
    → SameElsewhere m at (length words) after → PutsInSlot m at words after
puts_none m after words at size free h = record {
  elsewhere = elsewhere_wider m after at (length words) at 20 (omega arith) (omega (arith, size)) h;
  whole = let out : at + length words ≤ at + 18 = omega (arith, size) in
      inl (mark_same m after (at + 18) at (length words) h (inr out) ∙ free);
}

-- a record, and what a mark that may be torn leaves
pub puts_mark : (m mid after words : List ℕ) (at : ℕ) → length words ≡ 18 → SameElsewhere m at (length words) mid
    → IsThere mid at words → SameElsewhere mid (at + 18) 2 after → PutsInSlot m at words after
puts_mark m mid after words at size g there h = record {
  elsewhere = elsewhere_then m mid after at 20
      (elsewhere_wider m mid at (length words) at 20 (omega arith) (omega (arith, size)) g)
      (elsewhere_wider mid after (at + 18) 2 at 20 (omega arith) (omega arith) h);
  whole = old_or_new (is_marked after (at + 18)) refl;
}
  where
    old_or_new : (b : Bool) → is_marked after (at + 18) ≡ b → (is_marked after (at + 18) ≡ false) ⊎ IsPut after at words
    old_or_new false e = inl e
    old_or_new true e = inr (record {
      marked = e;
      there = record {
        each = λ k lt.
            let before : at + k < at + 18 = omega (arith, lt, size) in
            h.same (at + k) (inl before) ∙ there.each k lt;
      };
    })
