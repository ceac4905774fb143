-- What a record that is put changes of the pages: nothing, or the page that it names.
use Rattle.std.specs.Prelude.{◌≡◌, ◌≢◌, ◌⊎◌, ◌<◌, ◌≤◌, ◌+◌, ◌*◌, ℕ, zero, suc, Bool, true, false, List}
use Rattle.std.specs.Prelude.{length}
use Rattle.std.specs.Prelude.{◌&&◌, nat_eq, slice_index}
use Rattle.std.proofs.Common.{refl, sym, ◌∙◌, ap, ap₂, inl, inr, ⊎_elim, arith, true≢false}
use Rattle.std.proofs.lemmas.Bool.{cases_eq, cases_order, eq-eqb, ne_eqb}
use Rattle.flash_device.specs.FlashCalls.{SameElsewhere}
use Rattle.flash_device.specs.FlashLogs.{holds, find, is_marked, slot_of, word_of, page_word}
use Rattle.flash_device.specs.PutRecords.{IsPut}
use Rattle.flash_device.specs.laws.Marks.{mark_same}
use Rattle.flash_device.specs.laws.Finding.{find-same, find-past, find-top, find-tells}

-- a slot without a mark holds nothing
pub holds_none : (m : List ℕ) (base s p : ℕ) → is_marked m (slot_of base s + 18) ≡ false → holds m base s p ≡ false
holds_none m base s p free = ap (λ (b : Bool). b && nat_eq (slice_index m (slot_of base s + 16)) p) free

-- a slot that holds a page has a mark
pub held_mark : (m : List ℕ) (base s p : ℕ) → holds m base s p ≡ true → is_marked m (slot_of base s + 18) ≡ true
held_mark m base s p h = by_mark (is_marked m (slot_of base s + 18)) refl
  where
    by_mark : (b : Bool) → is_marked m (slot_of base s + 18) ≡ b → is_marked m (slot_of base s + 18) ≡ true
    by_mark true e = e
    by_mark false e = absurd (true≢false (sym h ∙ holds_none m base s p e))

module _ (m after : List ℕ) (base s : ℕ) (elsewhere : SameElsewhere m (slot_of base s) 20 after) where
  -- the words of another slot are the same
  pub other_word : (t k : ℕ) → t ≢ s → k < 20
      → slice_index after (slot_of base t + k) ≡ slice_index m (slot_of base t + k)
  other_word t k other lt = elsewhere.same (slot_of base t + k) (⊎_elim
      (λ (e : t ≡ s). absurd (other e))
      (λ (apart : (t < s) ⊎ (s < t)). ⊎_elim
      (λ (b : t < s). let x : base + 20 * t + k < base + 20 * s = omega (arith, b, lt) in inl x)
      (λ (p : s < t). let x : base + 20 * s + 20 ≤ base + 20 * t + k = omega (arith, p) in inr x) apart)
      (cases_order t s))

  -- and so is its mark
  pub other_mark : (t : ℕ) → t ≢ s → is_marked after (slot_of base t + 18) ≡ is_marked m (slot_of base t + 18)
  other_mark t other = mark_same m after (slot_of base t + 18) (slot_of base s) 20 elsewhere (⊎_elim
      (λ (e : t ≡ s). absurd (other e))
      (λ (apart : (t < s) ⊎ (s < t)). ⊎_elim
      (λ (b : t < s). let x : base + 20 * t + 18 + 2 ≤ base + 20 * s = omega (arith, b) in inl x)
      (λ (p : s < t). let x : base + 20 * s + 20 ≤ base + 20 * t + 18 = omega (arith, p) in inr x) apart)
      (cases_order t s))

  -- another slot holds what it held
  pub other_holds : (t p : ℕ) → t ≢ s → holds after base t p ≡ holds m base t p
  other_holds t p other = ap₂ (λ (b : Bool) (w : ℕ). b && nat_eq w p) (other_mark t other)
      (other_word t 16 other (omega arith))

  module _ (free : is_marked m (slot_of base s + 18) ≡ false) where
    -- where the slot holds nothing of a page after it, the page is found where it was
    pub find_kept : (n p : ℕ) → holds after base s p ≡ false → find after base n p ≡ find m base n p
    find_kept n p none = find-same m after base n p (λ t lt. ⊎_elim
        (λ (e : t ≡ s). ap (λ (k : ℕ). holds after base k p) e ∙ none
        ∙ sym (ap (λ (k : ℕ). holds m base k p) e ∙ holds_none m base s p free))
        (λ (other : t ≢ s). other_holds t p other)
        (cases_eq t s))

    -- and its words are what they were
    pub word_kept : (n p k : ℕ) → k < 20 → holds after base s p ≡ false
        → page_word after base n p k ≡ page_word m base n p k
    word_kept n p k lt none =
        ap (λ (f : ℕ). word_of after base f k) (find_kept n p none) ∙ by_place (find m base n p) refl
      where
        by_place : (f : ℕ) → find m base n p ≡ f → word_of after base f k ≡ word_of m base f k
        by_place zero e = refl
        by_place (suc f) e =
            let found = find-tells m base n p f e in
            let other : f ≢ s = λ is. true≢false (sym (held_mark m base f p found.held)
            ∙ ap (λ (t : ℕ). is_marked m (slot_of base t + 18)) is ∙ free) in
            other_word f k other lt

    -- a slot without a mark changes no page
    pub none_kept : (n p k : ℕ) → k < 20 → is_marked after (slot_of base s + 18) ≡ false
        → page_word after base n p k ≡ page_word m base n p k
    none_kept n p k lt none = word_kept n p k lt (holds_none after base s p none)

  -- the record that was put is that of its page
  module _ (words : List ℕ) (n page : ℕ) (size : length words ≡ 18) (below : s < n)
      (names : slice_index words 16 ≡ page)
      (behind : (t : ℕ) → s < t → t < n → is_marked m (slot_of base t + 18) ≡ false)
      (put : IsPut after (slot_of base s) words) where
    named : slice_index after (slot_of base s + 16) ≡ page
    named = put.there.each 16 (omega (arith, size)) ∙ names

    pub put_found : find after base n page ≡ suc s
    put_found = find-past after base n page (suc s) (omega (arith, below))
        (λ t from lt. let later : s < t = omega (arith, from) in
        let other : t ≢ s = λ e. absurd (omega (arith, e, later)) in
        holds_none after base t page (other_mark t other ∙ behind t later lt))
        ∙ find-top after base s page (ap₂ (λ (a b : Bool). a && b) put.marked (eq-eqb _ _ named))

    pub put_word : (k : ℕ) → k < 16 → page_word after base n page k ≡ slice_index words k
    put_word k lt = ap (λ (f : ℕ). word_of after base f k) put_found ∙ put.there.each k (omega (arith, size, lt))

    -- another page is not in the slot
    pub put_other : (p : ℕ) → p ≢ page → holds after base s p ≡ false
    put_other p other = ap₂ (λ (a b : Bool). a && b) put.marked
        (ne_eqb _ p (λ e. other (sym e ∙ named)))
