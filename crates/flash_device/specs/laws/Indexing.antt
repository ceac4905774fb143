-- Laws of the table.
use Rattle.std.specs.Prelude.{◌≡◌, ◌≢◌, ◌<◌, ◌≤◌, ◌+◌, ◌-◌, ℕ, zero, suc, Bool, true, false, List, length}
use Rattle.std.specs.Prelude.{◌&&◌, nat_eq, slice_index, slice_set, if◌then◌else◌}
use Rattle.std.proofs.Common.{refl, sym, ◌∙◌, ap, ap₂, subst, ⊎_elim, arith, get_or-set_same}
use Rattle.std.proofs.Common.{get_or-set_other}
use Rattle.std.proofs.lemmas.Bool.{cases_eq, cases_lt, eq-eqb, ne_eqb}
use Rattle.flash_device.specs.FlashBlocks.{area_size}
use Rattle.flash_device.specs.declared.flash.TheConstants.{BLANK}
use Rattle.flash_device.specs.FlashCalls.{AreFilled}
use Rattle.flash_device.specs.PageTables.{IsPageTable, AreFree, IsFirstFreeSlot}
use Rattle.flash_device.specs.FlashLogs.{holds, find, is_marked, slot_of, word_of, base_in}
use Rattle.flash_device.specs.laws.Putting.{holds_none}

pub base_most : (slots a : ℕ) → base_in slots a ≤ area_size slots
base_most slots a = by_test (nat_eq a 0)
  where
    by_test : (b : Bool) → (if b then 0 else area_size slots) ≤ area_size slots
    by_test true = omega arith
    by_test false = omega arith

pub find_most : (m : List ℕ) (base n p : ℕ) → find m base n p ≤ n
unfolding find
find_most m base zero p = omega arith
find_most m base (suc n) p = by_test (holds m base n p) (find_most m base n p)
  where
    by_test : (b : Bool) → find m base n p ≤ n → (if b then suc n else find m base n p) ≤ suc n
    by_test true h = omega arith
    by_test false h = omega (arith, h)

pub find_zero : (m : List ℕ) (base p : ℕ) → find m base 0 p ≡ 0
unfolding find
find_zero m base p = refl

pub find_next : (m : List ℕ) (base n p : ℕ)
    → find m base (n + 1) p ≡ (if holds m base n p then n + 1 else find m base n p)
unfolding find
find_next m base n p = let e : n + 1 ≡ suc n = omega arith in
    ap (λ (k : ℕ). find m base k p) e ∙ ap (λ (k : ℕ). if holds m base n p then k else find m base n p) (sym e)

-- the word that is found
pub found_none : (m : List ℕ) (base f k : ℕ) → f ≡ 0 → 0 ≡ word_of m base f k
found_none m base f k e = ap (λ (n : ℕ). word_of m base n k) (sym e)

pub found_word : (m : List ℕ) (base f k : ℕ) → f ≢ 0 → slice_index m (slot_of base (f - 1) + k) ≡ word_of m base f k
found_word m base zero k some = absurd (some refl)
found_word m base (suc f) k some =
    let e : suc f - 1 ≡ f = omega arith in ap (λ (s : ℕ). slice_index m (slot_of base s + k)) e

-- one slot more, which holds nothing
pub index_past : (pages : ℕ) (m table : List ℕ) (base n : ℕ) → IsPageTable pages m base n table
    → is_marked m (slot_of base n + 18) ≡ false
    → IsPageTable pages m base (n + 1) table
index_past pages m table base n index free = record {
  each = λ p lt. index.each p lt ∙ sym (find_next m base n p
      ∙ ap (λ (b : Bool). if b then n + 1 else find m base n p) (holds_none m base n p free));
}

-- one slot more, which names no page
pub index_beyond : (pages : ℕ) (m table : List ℕ) (base n : ℕ) → IsPageTable pages m base n table
    → pages ≤ slice_index m (slot_of base n + 16) → IsPageTable pages m base (n + 1) table
index_beyond pages m table base n index far = record {
  each = λ p lt.
      let other : slice_index m (slot_of base n + 16) ≢ p = λ e. absurd (omega (arith, e, far, lt)) in
      let none : holds m base n p ≡ false =
      ap (λ (b : Bool). is_marked m (slot_of base n + 18) && b) (ne_eqb _ p other) ∙ and_false _ in
      index.each p lt ∙ sym (find_next m base n p
      ∙ ap (λ (b : Bool). if b then n + 1 else find m base n p) none);
}
  where
    and_false : (b : Bool) → b && false ≡ false
    and_false true = refl
    and_false false = refl

-- one slot more, which holds a page
pub index_put : (pages : ℕ) (m table : List ℕ) (base n page : ℕ) → IsPageTable pages m base n table
    → page < length table → is_marked m (slot_of base n + 18) ≡ true → slice_index m (slot_of base n + 16) ≡ page
    → IsPageTable pages m base (n + 1) (slice_set table page (n + 1))
index_put pages m table base n page index below marked names = record {
  each = λ p lt. ⊎_elim
      (λ (e : p ≡ page).
      let is : holds m base n p ≡ true = ap₂ (λ (a b : Bool). a && b) marked (eq-eqb _ p (names ∙ sym e)) in
      ap (λ (k : ℕ). slice_index (slice_set table page (n + 1)) k) e
      ∙ get_or-set_same table page (n + 1) 0 below
      ∙ sym (find_next m base n p ∙ ap (λ (b : Bool). if b then n + 1 else find m base n p) is))
      (λ (other : p ≢ page).
      let is : holds m base n p ≡ false = ap₂ (λ (a b : Bool). a && b) marked
      (ne_eqb _ p (λ e. other (sym e ∙ names))) in
      get_or-set_other table page p (n + 1) 0 other ∙ index.each p lt
      ∙ sym (find_next m base n p ∙ ap (λ (b : Bool). if b then n + 1 else find m base n p) is))
      (cases_eq p page);
}

-- the free slots, one slot more
pub free_more : (m : List ℕ) (base next n : ℕ) → AreFree m base next n → AreFilled m (slot_of base n) 20 BLANK
    → AreFree m base next (n + 1)
free_more m base next n are free = record {
  within = omega (arith, are.within);
  free = λ s from below. ⊎_elim
      (λ (lt : s < n). are.free s from lt)
      (λ (ge : n ≤ s). let e : s ≡ n = omega (arith, ge, below) in
      subst (λ (k : ℕ). AreFilled m (slot_of base k) 20 BLANK) (sym e) free)
      (cases_lt s n);
}

-- fewer slots are free too
pub free_later : (m : List ℕ) (base next later n : ℕ) → AreFree m base next n → next ≤ later → later ≤ n
    → AreFree m base later n
free_later m base next later n are least most = record {
  within = most;
  free = λ s from below. are.free s (omega (arith, least, from)) below;
}

-- no slot is free
pub free_none : (m : List ℕ) (base n : ℕ) → AreFree m base n n
free_none m base n = record { within = omega arith; free = λ s from below. absurd (omega (arith, from, below)) }

-- the first slot of none
pub first_none : (m : List ℕ) (base : ℕ) → IsFirstFreeSlot m base 0 0
first_none m base = record { first = λ s are. omega arith }

-- one slot more, which is blank
pub first_more : (m : List ℕ) (base next n : ℕ) → IsFirstFreeSlot m base next n → next ≤ n
    → IsFirstFreeSlot m base next (n + 1)
first_more m base next n h within = record {
  first = λ s are. ⊎_elim
      (λ (gt : n < s). omega (arith, gt, within))
      (λ (le : s ≤ n).
      h.first s (record { within = le; free = λ t from below. are.free t from (omega (arith, below)) }))
      (cases_lt n s);
}

-- one slot more, which is not
pub first_past : (m : List ℕ) (base n : ℕ) → ¬ AreFilled m (slot_of base n) 20 BLANK
    → IsFirstFreeSlot m base (n + 1) (n + 1)
first_past m base n full = record {
  first = λ s are. ⊎_elim
      (λ (lt : n < s). omega (arith, lt))
      (λ (le : s ≤ n). absurd (full (are.free n le (omega arith))))
      (cases_lt n s);
}
