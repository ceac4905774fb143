-- Laws of pages that are copied to the other area.
use Rattle.std.specs.Prelude.{◌≡◌, ◌≢◌, ◌⊎◌, ◌<◌, ◌≤◌, ◌+◌, ◌*◌, ℕ, zero, suc, Bool, false, List, length}
use Rattle.std.specs.Prelude.{slice_index, slice_set, nat_eq, ◌&&◌}
use Rattle.std.proofs.Common.{refl, sym, ◌∙◌, ap, ap₂, inl, inr, ⊎_elim, arith, get_or-set_same}
use Rattle.std.proofs.Common.{get_or-set_other}
use Rattle.std.proofs.lemmas.Bool.{cases_eq, eq-eqb, ne_eqb}
use Rattle.flash_device.specs.FlashBlocks.{area_size}
use Rattle.flash_device.specs.declared.layout.TheConstants.{SPARES, FIRST_MARK, SECOND_MARK}
use Rattle.flash_device.specs.FlashCalls.{SameElsewhere}
use Rattle.flash_area.specs.PageCopies.{CopiesPage, HasCopied, KeepsOthers}
use Rattle.flash_device.specs.PageTables.{AreFree}
use Rattle.flash_device.specs.FlashLogs.{holds, find, is_marked, slot_of, word_of, page_word, base_in}
use Rattle.flash_device.specs.PutRecords.{IsPut, PutsInSlot}
use Rattle.flash_device.specs.laws.Finding.{find-same, find-tells, find-past, find-top}
use Rattle.flash_device.specs.laws.Indexing.{find_zero}
use Rattle.flash_device.specs.laws.Marks.{elsewhere_wider, elsewhere_then, blank_slot, blank_same}
use Rattle.flash_device.specs.laws.Putting.{holds_none, word_kept, find_kept}

-- The words of an area's slots are the same.
pub record SameArea (slots : ℕ) (m after : List ℕ) (base : ℕ) : Type 0 where
  pub each : (k : ℕ) → base ≤ k → k < base + 20 * slots → slice_index after k ≡ slice_index m k

module _ (slots : ℕ) where
  module _ (m after : List ℕ) (base : ℕ) (same : SameArea slots m after base) where
    -- a mark of a slot stays
    pub area_mark : (s : ℕ) → s < slots → is_marked after (slot_of base s + 18) ≡ is_marked m (slot_of base s + 18)
    unfolding is_marked
    area_mark s lt = ap₂ (λ (a b : ℕ). nat_eq a FIRST_MARK && nat_eq b SECOND_MARK)
        (same.each (slot_of base s + 18) (omega arith) (omega (arith, lt)))
        (same.each (slot_of base s + 18 + 1) (omega arith) (omega (arith, lt)))

    pub area_word : (s k : ℕ) → s < slots → k < 20
        → slice_index after (slot_of base s + k) ≡ slice_index m (slot_of base s + k)
    area_word s k lt small = same.each (slot_of base s + k) (omega arith) (omega (arith, lt, small))

    -- so that each page is found where it was
    pub area_found : (p : ℕ) → find after base slots p ≡ find m base slots p
    area_found p = find-same m after base slots p (λ s lt. let below : s < slots = omega (arith, lt) in
        ap₂ (λ (b : Bool) (w : ℕ). b && nat_eq w p) (area_mark s below) (area_word s 16 below (omega arith)))

    pub area_page : (p k : ℕ) → k < 16 → page_word after base slots p k ≡ page_word m base slots p k
    area_page p k lt = ap (λ (f : ℕ). word_of after base f k) (area_found p) ∙ by_place (find m base slots p) refl
      where
        by_place : (f : ℕ) → find m base slots p ≡ f → word_of after base f k ≡ word_of m base f k
        by_place zero e = refl
        by_place (suc f) e = let found = find-tells m base slots p f e in
            let below : f < slots = let b = found.below in omega (arith, b) in
            area_word f k below (omega (arith, lt))

    pub area_free : (next : ℕ) → AreFree m base next slots → AreFree after base next slots
    area_free next are = record {
      within = are.within;
      free = λ s from lt. record {
        each = λ k few. let below : s < slots = omega (arith, lt) in
            area_word s k below few ∙ (are.free s from lt).each k few;
      };
    }

  -- where no slot has a mark, no page is found
  pub none_found : (m : List ℕ) (base p : ℕ) → AreFree m base 0 slots → find m base slots p ≡ 0
  none_found m base p are = find-past m base slots p 0 (omega arith)
      (λ t from lt. holds_none m base t p (blank_slot m (slot_of base t) (are.free t from lt))) ∙ find_zero m base p

  -- words of a page that was never written
  pub zero_word : (m n : List ℕ) (base other f g k : ℕ) → f ≡ 0 → g ≡ 0 → word_of m base f k ≡ word_of n other g k
  zero_word m n base other f g k x y = ap (λ (j : ℕ). word_of m base j k) x
      ∙ sym (ap (λ (j : ℕ). word_of n other j k) y)

  -- a page that was never written
  pub copies_none : (m table : List ℕ) (from to page next : ℕ) → slice_index table page ≡ find m from slots page
      → find m from slots page ≡ 0 → find m to slots page ≡ 0 → AreFree m to next slots
      → CopiesPage slots m table from to page m table next
  copies_none m table from to page next entry none free are = record {
    words = λ k lt. zero_word m m to from (find m to slots page) (find m from slots page) k free none;
    others = λ p k other lt. refl;
    found = λ p other. refl;
    entry = entry ∙ none ∙ sym free;
    entries = λ p other. refl;
    free = are;
  }

  -- a record that is put into the first free slot, whole or not, changes no other page
  module _ (m after : List ℕ) (base s : ℕ) (words : List ℕ) (puts : PutsInSlot m (slot_of base s) words after)
      (below : s < slots) (are : AreFree m base s slots) (size : length words ≡ 18) where
    free : is_marked m (slot_of base s + 18) ≡ false
    free = blank_slot m (slot_of base s) (are.free s (omega arith) below)

    -- what is behind it stays free
    pub behind_free : AreFree after base (s + 1) slots
    behind_free = record {
      within = omega (arith, below);
      free = λ t later lt. let past : slot_of base s + 20 ≤ slot_of base t = omega (arith, later) in
          blank_same m after (slot_of base t) 20 (slot_of base s) 20 puts.elsewhere (inr past)
          (are.free t (omega (arith, later)) lt);
    }

    not_here : (page p : ℕ) → slice_index words 16 ≡ page → p ≢ page → holds after base s p ≡ false
    not_here page p names other = ⊎_elim
        (λ (none : is_marked after (slot_of base s + 18) ≡ false). holds_none after base s p none)
        (λ (put : IsPut after (slot_of base s) words).
        let named : slice_index after (slot_of base s + 16) ≡ page = put.there.each 16 (omega (arith, size)) ∙ names in
        ap₂ (λ (a b : Bool). a && b) put.marked (ne_eqb _ p (λ e. other (sym e ∙ named))))
        puts.whole

    pub others_kept : (page : ℕ) → slice_index words 16 ≡ page → KeepsOthers slots m base page after (s + 1)
    others_kept page names = record {
      others = λ p k other lt.
          word_kept m after base s puts.elsewhere free slots p k (omega (arith, lt)) (not_here page p names other);
      found = λ p other. find_kept m after base s puts.elsewhere free slots p (not_here page p names other);
      free = behind_free;
    }

    pub in_area : SameElsewhere m base (20 * slots) after
    in_area = elsewhere_wider m after (slot_of base s) 20 base (20 * slots) (omega arith)
        (omega (arith, below)) puts.elsewhere

  pub others_none : (m : List ℕ) (base page s : ℕ) → AreFree m base s slots → KeepsOthers slots m base page m s
  others_none m base page s are = record { others = λ p k other lt. refl; found = λ p other. refl; free = are }

  pub others_then : (m mid after : List ℕ) (base page s t : ℕ) → KeepsOthers slots m base page mid s
      → KeepsOthers slots mid base page after t → KeepsOthers slots m base page after t
  others_then m mid after base page s t g h = record {
    others = λ p k other lt. h.others p k other lt ∙ g.others p k other lt;
    found = λ p other. h.found p other ∙ g.found p other;
    free = h.free;
  }

  -- in more slots than it took
  pub others_wider : (m after : List ℕ) (base page s t : ℕ) → s ≤ t → t ≤ slots → KeepsOthers slots m base page after s
      → KeepsOthers slots m base page after t
  others_wider m after base page s t more within h = record {
    others = h.others;
    found = h.found;
    free = record { within = within; free = λ k from lt. h.free.free k (omega (arith, more, from)) lt };
  }

  -- a record in the last slot that isn't free is that of its page
  pub last_found : (m : List ℕ) (base s page : ℕ) (words : List ℕ) → IsPut m (slot_of base s) words → length words ≡ 18
      → slice_index words 16 ≡ page → s < slots → AreFree m base (s + 1) slots → find m base slots page ≡ suc s
  last_found m base s page words put size names below are =
      let named : slice_index m (slot_of base s + 16) ≡ page = put.there.each 16 (omega (arith, size)) ∙ names in
      find-past m base slots page (suc s) (omega (arith, below))
      (λ t from lt. holds_none m base t page (blank_slot m (slot_of base t) (are.free t (omega (arith, from)) lt)))
      ∙ find-top m base s page (ap₂ (λ (a b : Bool). a && b) put.marked (eq-eqb _ _ named))

  -- a page whose record is put into a slot of the other area, behind those that failed
  pub copies_put : (m after table : List ℕ) (from to page s : ℕ) (words : List ℕ) → IsPut after (slot_of to s) words
      → KeepsOthers slots m to page after (s + 1) → s < slots → length words ≡ 18 → page < length table
      → slice_index words 16 ≡ page
      → ((k : ℕ) → k < 16 → slice_index words k ≡ page_word m from slots page k)
      → CopiesPage slots m table from to page after (slice_set table page (s + 1)) (s + 1)
  copies_put m after table from to page s words put kept below size within names each =
      let found : find after to slots page ≡ suc s = last_found after to s page words put size names below kept.free in
      record {
        words = λ k lt.
            ap (λ (f : ℕ). word_of after to f k) found ∙ put.there.each k (omega (arith, size, lt)) ∙ each k lt;
        others = kept.others;
        found = kept.found;
        entry = let one : s + 1 ≡ suc s = omega arith in
            get_or-set_same table page (s + 1) 0 within ∙ one ∙ sym found;
        entries = λ p other. get_or-set_other table page p (s + 1) 0 other;
        free = kept.free;
      }

  -- one page more
  module _ (m table mid then : List ℕ) (from to page next : ℕ)
      (has : HasCopied slots m table from to page mid then next)
      (after last : List ℕ) (more : ℕ) (elsewhere : SameElsewhere mid to (20 * slots) after)
      (copies : CopiesPage slots mid then from to page after last more) (bound : more ≤ page + 1 + SPARES)
      (same : SameArea slots m mid from) where
    pub copied_more : HasCopied slots m table from to (page + 1) after last more
    copied_more = record {
      elsewhere = elsewhere_then m mid after to (20 * slots) has.elsewhere elsewhere;
      below = omega (arith, bound);
      words = λ p k lt small. ⊎_elim
          (λ (e : p ≡ page). ap (λ (q : ℕ). page_word after to slots q k) e ∙ copies.words k small
          ∙ area_page m mid from same page k small ∙ sym (ap (λ (q : ℕ). page_word m from slots q k) e))
          (λ (other : p ≢ page). copies.others p k other small
          ∙ has.words p k (let x : p < page = omega (arith, lt, other) in x) small)
          (cases_eq p page);
      entries = λ p lt. ⊎_elim
          (λ (e : p ≡ page). ap (λ (q : ℕ). slice_index last q) e ∙ copies.entry
          ∙ sym (ap (λ (q : ℕ). find after to slots q) e))
          (λ (other : p ≢ page). copies.entries p other
          ∙ has.entries p (let x : p < page = omega (arith, lt, other) in x)
          ∙ sym (copies.found p other))
          (cases_eq p page);
      left = λ p ge. let other : p ≢ page = λ e. absurd (omega (arith, e, ge)) in
          copies.found p other ∙ has.left p (omega (arith, ge));
      kept = λ p ge. let other : p ≢ page = λ e. absurd (omega (arith, e, ge)) in
          copies.entries p other ∙ has.kept p (omega (arith, ge));
      free = copies.free;
    }

  -- no page yet
  pub copied_none : (m table : List ℕ) (from to : ℕ) → AreFree m to 0 slots
      → HasCopied slots m table from to 0 m table 0
  copied_none m table from to are = record {
    elsewhere = record { same = λ k out. refl };
    below = omega arith;
    words = λ p k lt small. absurd (omega (arith, lt));
    entries = λ p lt. absurd (omega (arith, lt));
    left = λ p ge. none_found m to p are;
    kept = λ p ge. refl;
    free = are;
  }

  -- the two areas
  pub bases : (from to : ℕ) → from + to ≡ 1
      → ((base_in slots from ≡ 0) × (base_in slots to ≡ area_size slots))
      ⊎ ((base_in slots from ≡ area_size slots) × (base_in slots to ≡ 0))
  bases from to e = ⊎_elim
      (λ (z : from ≡ 0). let o : to ≡ 1 = omega (arith, z, e) in inl (ap (base_in slots) z, ap (base_in slots) o))
      (λ (n : from ≢ 0). let o : from ≡ 1 = omega (arith, n, e) in let z : to ≡ 0 = omega (arith, o, e) in
      inr (ap (base_in slots) o, ap (base_in slots) z))
      (cases_eq from 0)

  pub other_area : (m after : List ℕ) (from to : ℕ) → from + to ≡ 1
      → SameElsewhere m (base_in slots to) (20 * slots) after
      → SameArea slots m after (base_in slots from)
  other_area m after from to e h = record {
    each = λ k low high. h.same k (⊎_elim
        (λ (z : (base_in slots from ≡ 0) × (base_in slots to ≡ area_size slots)).
        let a = z.0 in let b = z.1 in let x : k < base_in slots to = omega (arith, a, b, high) in inl x)
        (λ (z : (base_in slots from ≡ area_size slots) × (base_in slots to ≡ 0)).
        let a = z.0 in let b = z.1 in let x : base_in slots to + 20 * slots ≤ k = omega (arith, a, b, low) in inr x)
        (bases from to e));
  }
