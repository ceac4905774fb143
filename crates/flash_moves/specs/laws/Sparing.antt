-- Laws of the other area, to which the pages move step by step.
use Rattle.std.specs.Prelude.{◌≡◌, ◌≢◌, ◌⊎◌, ◌<◌, ◌≤◌, ◌+◌, ◌-◌, ◌*◌, ℕ, Bool, true, false, List, length}
use Rattle.std.specs.Prelude.{suc, nat_eq, if◌then◌else◌, slice_index}
use Rattle.std.proofs.Common.{refl, sym, ◌∙◌, ap, inl, inr, ⊎_elim, subst, arith, true≢false}
use Rattle.std.proofs.lemmas.Bool.{cases_eq, cases_lt}
use Rattle.flash_area.specs.PageCopies.{KeepsOthers}
use Rattle.flash_device.specs.declared.flash.TheConstants.{BLANK}
use Rattle.nvm_board.specs.declared.board.TheConstants.{LEAST_PAGES}
use Rattle.flash_moves.specs.declared.place.PageMap.{PageMap}
use Rattle.flash_device.specs.declared.layout.TheConstants.{STEP_PAGES}
use Rattle.flash_device.specs.FlashBlocks.{area_size, steps_of, witness_start}
use Rattle.flash_device.specs.FlashCalls.{SameElsewhere, AreFilled}
use Rattle.flash_device.specs.FlashLogs.{base_in, close_of, find, is_closed, page_word, slot_of, turn_of, word_of}
use Rattle.flash_device.specs.FlashLogs.{words_of}
use Rattle.flash_device.specs.PageTables.{AreFree, IsPageTable}
use Rattle.flash_moves.specs.Paces.{KeepsHome, StaysInArea}
use Rattle.flash_moves.specs.Places.{IsLog}
use Rattle.flash_moves.specs.Rings.{IsRing}
use Rattle.flash_device.specs.PutRecords.{IsPut}
use Rattle.flash_area.specs.Spares.{HasCopies, IsSpare, spare_in, spare_sector}
use Rattle.flash_area.specs.laws.Copying.{SameArea, area_found, area_free, area_page, last_found}
use Rattle.flash_device.specs.laws.Marks.{closed_by, closed_same, elsewhere_none, elsewhere_wider}
use Rattle.flash_moves.specs.laws.Moving.{Passes, Stays, zero_stays, two_stays, zero_passes, two_passes}
use Rattle.flash_device.specs.laws.Rising.{rises_to, sectors_filled}
use Rattle.flash_area.specs.laws.Erased.{copies_none}
use Rattle.flash_area.specs.laws.Sectors.{spare_first, spare_end}
use Rattle.flash_moves.specs.laws.Turns.{zero_marks, two_marks}
use Rattle.flash_area.specs.laws.Words.{index-page}

-- The words of an area are the same, those of its closing mark too.
pub record SameBlock (slots : ℕ) (m after : List ℕ) (base : ℕ) : Type 0 where
  pub each : (k : ℕ) → base ≤ k → k < base + area_size slots → slice_index after k ≡ slice_index m k

module _ (slots : ℕ) where
  -- where the pages are, and where they move to
  pub sides : (turn : ℕ) → ((base_in slots turn ≡ 0) × (spare_in slots turn ≡ area_size slots))
      ⊎ ((base_in slots turn ≡ area_size slots) × (spare_in slots turn ≡ 0))
  sides turn = by_test (nat_eq turn 0)
    where
      by_test : (b : Bool)
          → ((◌≡◌ {A = ℕ} (if b then 0 else area_size slots) 0)
          × (◌≡◌ {A = ℕ} (if b then area_size slots else 0) (area_size slots)))
          ⊎ ((◌≡◌ {A = ℕ} (if b then 0 else area_size slots) (area_size slots))
          × (◌≡◌ {A = ℕ} (if b then area_size slots else 0) 0))
      by_test true = inl (refl, refl)
      by_test false = inr (refl, refl)

  -- these are two areas
  pub two_sides : (turn : ℕ) → ¬ (spare_in slots turn ≡ base_in slots turn)
  two_sides turn same = ⊎_elim
      (λ (z : (base_in slots turn ≡ 0) × (spare_in slots turn ≡ area_size slots)).
      let a = z.0 in let b = z.1 in omega (arith, a, b, same))
      (λ (z : (base_in slots turn ≡ area_size slots) × (spare_in slots turn ≡ 0)).
      let a = z.0 in let b = z.1 in omega (arith, a, b, same))
      (sides turn)

  -- a change of the slots in use leaves the other area, and the other way round
  pub home_leaves : (m after : List ℕ) (turn : ℕ) → SameElsewhere m (base_in slots turn) (20 * slots) after
      → SameBlock slots m after (spare_in slots turn)
  home_leaves m after turn h = record {
    each = λ k low high. h.same k (⊎_elim
        (λ (z : (base_in slots turn ≡ 0) × (spare_in slots turn ≡ area_size slots)).
        let a = z.0 in let b = z.1 in let x : base_in slots turn + 20 * slots ≤ k = omega (arith, a, b, low) in inr x)
        (λ (z : (base_in slots turn ≡ area_size slots) × (spare_in slots turn ≡ 0)).
        let a = z.0 in let b = z.1 in let x : k < base_in slots turn = omega (arith, a, b, high) in inl x)
        (sides turn));
  }

  pub spare_leaves : (m after : List ℕ) (turn : ℕ) → SameElsewhere m (spare_in slots turn) (area_size slots) after
      → SameArea slots m after (base_in slots turn)
  spare_leaves m after turn h = record {
    each = λ k low high. h.same k (⊎_elim
        (λ (z : (base_in slots turn ≡ 0) × (spare_in slots turn ≡ area_size slots)).
        let a = z.0 in let b = z.1 in let x : k < spare_in slots turn = omega (arith, a, b, high) in inl x)
        (λ (z : (base_in slots turn ≡ area_size slots) × (spare_in slots turn ≡ 0)).
        let a = z.0 in let b = z.1 in
        let x : spare_in slots turn + area_size slots ≤ k = omega (arith, a, b, low) in inr x)
        (sides turn));
  }

  -- an area whose slots are the same keeps those that are free
  pub area_home : (m after : List ℕ) (turn : ℕ) → turn ≡ turn_of slots m → SameArea slots m after (base_in slots turn)
      → KeepsHome slots m after
  area_home m after turn is same n are = area_free slots m after (base_in slots (turn_of slots m))
      (subst (λ (t : ℕ). SameArea slots m after (base_in slots t)) is same) n are

  -- calls that only read
  pub home_read : (m after : List ℕ) → after ≡ m → KeepsHome slots m after
  home_read m after words n are =
      subst (λ (l : List ℕ). AreFree l (base_in slots (turn_of slots m)) n slots) (sym words) are

  -- one call after another
  pub home_then : (m mid after : List ℕ) → StaysInArea slots m mid → KeepsHome slots m mid → KeepsHome slots mid after
      → KeepsHome slots m after
  home_then m mid after stays first second n are =
      subst (λ (b : ℕ). AreFree after b n slots) stays
      (second n (subst (λ (b : ℕ). AreFree mid b n slots) (sym stays) (first n are)))

  -- the table and the free slots stay where the area does
  pub index_same : (pages : ℕ) (m after table : List ℕ) (base : ℕ) → SameArea slots m after base
      → IsPageTable pages m base slots table → IsPageTable pages after base slots table
  index_same pages m after table base same index = record {
    each = λ p lt. index.each p lt ∙ sym (area_found slots m after base same p);
  }

  -- what changes in the other area takes no page from the area in use
  pub home_held : (m after : List ℕ) (turn : ℕ) → SameElsewhere m (spare_in slots turn) (20 * slots) after → (p : ℕ)
      → find after (base_in slots turn) slots p ≡ 0 → find m (base_in slots turn) slots p ≡ 0
  home_held m after turn h p none =
      sym (area_found slots m after (base_in slots turn) (spare_leaves m after turn
      (elsewhere_wider m after (spare_in slots turn) (20 * slots) (spare_in slots turn) (area_size slots) (omega arith)
      (omega arith) h)) p) ∙ none

  pub block_area : (m after : List ℕ) (base : ℕ) → SameBlock slots m after base → SameArea slots m after base
  block_area m after base same = record { each = λ k low high. same.each k low (omega (arith, high)) }

module _ (pages slots : ℕ) where
  -- whatever stands in the other area, the turn stays, and so do the words
  pub spare_stays : (m after : List ℕ) (turn : ℕ) → IsRing slots m → turn ≡ turn_of slots m → turn < 3 → turn ≢ 1
      → SameElsewhere m (spare_in slots turn) (area_size slots) after → Stays pages slots m after
  spare_stays m after turn ring is small other h = ⊎_elim
      (λ (z : turn ≡ 0). zero_stays pages slots m after ring (sym is ∙ z)
      (subst (λ (t : ℕ). SameElsewhere m (spare_in slots t) (area_size slots) after) z h))
      (λ (n : turn ≢ 0). let two : turn ≡ 2 = omega (arith, n, other, small) in
      two_stays pages slots m after (sym is ∙ two)
      (subst (λ (t : ℕ). SameElsewhere m (spare_in slots t) (area_size slots) after) two h))
      (cases_eq turn 0)

  -- the copies stay where the area does, and the area in use loses no page
  pub copies_same : (m after words : List ℕ) (home base copied behind older : ℕ) → SameBlock slots m after base
      → ((p : ℕ) → find after home slots p ≡ 0 → find m home slots p ≡ 0)
      → HasCopies pages slots m words home base copied behind older
      → HasCopies pages slots after words home base copied behind older
  copies_same m after words home base copied behind older same held has =
      let area = block_area slots m after base same in record {
        opened = closed_by m after (base + 20 * slots) (same.each (base + 20 * slots) (omega arith) (omega arith))
            (same.each (base + 20 * slots + 1) (omega arith) (omega arith)) ∙ has.opened;
        free = area_free slots m after base area behind has.free;
        each = λ p k lt below other few. area_page slots m after base area p k few ∙ has.each p k lt below other few;
        left = λ p from below none. area_found slots m after base area p ∙ has.left p from below (held p none);
      }

  -- a page that was never written needs no copy
  pub copies_past : (m : List ℕ) (turn page behind : ℕ) → turn ≡ turn_of slots m
      → find m (base_in slots turn) slots page ≡ 0
      → HasCopies pages slots m (words_of pages slots m) (base_in slots turn) (spare_in slots turn) page behind 0
      → HasCopies pages slots m (words_of pages slots m) (base_in slots turn) (spare_in slots turn) (page + 1) behind 0
  copies_past m turn page behind is none has = record {
    opened = has.opened;
    free = has.free;
    each = λ p k lt below but few. ⊎_elim
        (λ (e : p ≡ page).
        let lacks : find m (base_in slots turn) slots p ≡ 0 =
        ap (λ (q : ℕ). find m (base_in slots turn) slots q) e ∙ none in
        let here : find m (spare_in slots turn) slots p ≡ 0 = has.left p (omega (arith, e)) below lacks in
        let there : find m (base_in slots (turn_of slots m)) slots p ≡ 0 =
        ap (λ (t : ℕ). find m (base_in slots t) slots p) (sym is) ∙ lacks in
        ap (λ (f : ℕ). word_of m (spare_in slots turn) f k) here
        ∙ sym (index-page pages slots m p k below few
        ∙ ap (λ (f : ℕ). word_of m (base_in slots (turn_of slots m)) f k) there))
        (λ (other : p ≢ page). has.each p k (omega (arith, lt, other)) below but few)
        (cases_eq p page);
    left = λ p from below lacks. has.left p (omega (arith, from)) below lacks;
  }

  -- A record is put into the area: that of the next page, or of one whose copy may be older.
  module _ (m after words : List ℕ) (home base page copied more behind older s : ℕ) (record_words : List ℕ)
      (has : HasCopies pages slots m words home base copied behind older)
      (elsewhere : SameElsewhere m base (20 * slots) after)
      (held : (p : ℕ) → find after home slots p ≡ 0 → find m home slots p ≡ 0)
      (put : IsPut after (slot_of base s) record_words)
      (kept : KeepsOthers slots m base page after (s + 1)) (below : s < slots)
      (size : length record_words ≡ 18) (names : slice_index record_words 16 ≡ page)
      (fewer : (p : ℕ) → p < more → p ≢ page → (p < copied) × (p + 1 ≢ older))
      (later : (p : ℕ) → more ≤ p → (copied ≤ p) × (p ≢ page))
      (is : (k : ℕ) → k < 16 → slice_index record_words k ≡ slice_index words (16 * page + k)) where
    found : find after base slots page ≡ suc s
    found = last_found slots after base s page record_words put size names below kept.free

    here : (k : ℕ) → k < 16 → page_word after base slots page k ≡ slice_index words (16 * page + k)
    here k few = ap (λ (f : ℕ). word_of after base f k) found ∙ put.there.each k (omega (arith, size, few)) ∙ is k few

    pub copies_put : HasCopies pages slots after words home base more (s + 1) 0
    copies_put = record {
      opened = let past : base + 20 * slots ≤ base + 20 * slots = omega arith in
          closed_same m after (base + 20 * slots) base (20 * slots) elsewhere (inr past) ∙ has.opened;
      free = kept.free;
      each = λ p k lt within but few. ⊎_elim
          (λ (e : p ≡ page). ap (λ (q : ℕ). page_word after base slots q k) e ∙ here k few
          ∙ sym (ap (λ (q : ℕ). slice_index words (16 * q + k)) e))
          (λ (other : p ≢ page). let z = fewer p lt other in
          kept.others p k other few ∙ has.each p k z.0 within z.1 few)
          (cases_eq p page);
      left = λ p from within none. let z = later p from in kept.found p z.1 ∙ has.left p z.0 within (held p none);
    }

  -- A record of a page is put into the area, or torn: the copies of the others stay. The area in use has the page.
  pub copies_torn : (m after words : List ℕ) (home base page copied behind older next : ℕ)
      → HasCopies pages slots m words home base copied behind older → SameElsewhere m base (20 * slots) after
      → ((p : ℕ) → find after home slots p ≡ 0 → find m home slots p ≡ 0)
      → KeepsOthers slots m base page after next
      → (page < copied → page + 1 ≡ older) → (find m home slots page ≡ 0 → page < copied)
      → HasCopies pages slots after words home base copied next older
  copies_torn m after words home base page copied behind older next has elsewhere held kept old has_page = record {
    opened = let past : base + 20 * slots ≤ base + 20 * slots = omega arith in
        closed_same m after (base + 20 * slots) base (20 * slots) elsewhere (inr past) ∙ has.opened;
    free = kept.free;
    each = λ p k lt within but few. ⊎_elim
        (λ (e : p ≡ page). let is = old (omega (arith, e, lt)) in absurd (but (omega (arith, e, is))))
        (λ (other : p ≢ page). kept.others p k other few ∙ has.each p k lt within but few)
        (cases_eq p page);
    left = λ p from within none. ⊎_elim
        (λ (e : p ≡ page).
        let early = has_page (subst (λ (q : ℕ). find m home slots q ≡ 0) e (held p none)) in
        absurd (omega (arith, e, early, from)))
        (λ (other : p ≢ page). kept.found p other ∙ has.left p from within (held p none))
        (cases_eq p page);
  }

  -- the slots of the copies, by those that are free
  pub copies_free : (m words : List ℕ) (home base copied behind older next : ℕ) → AreFree m base next slots
      → HasCopies pages slots m words home base copied behind older
      → HasCopies pages slots m words home base copied next older
  copies_free m words home base copied behind older next free has = record {
    opened = has.opened;
    free = free;
    each = has.each;
    left = has.left;
  }

  -- copies in more slots than they take
  pub copies_wider : (m words : List ℕ) (home base copied behind older next : ℕ) → behind ≤ next → next ≤ slots
      → HasCopies pages slots m words home base copied behind older
      → HasCopies pages slots m words home base copied next older
  copies_wider m words home base copied behind older next more within has = record {
    opened = has.opened;
    free = record { within = within; free = λ s from lt. has.free.free s (omega (arith, more, from)) lt };
    each = has.each;
    left = has.left;
  }

  -- The mark that passes the turn to the other area, which has all pages.
  module _ (m after : List ℕ) (turn behind : ℕ) (ring : IsRing slots m) (is : turn ≡ turn_of slots m)
      (small : turn < 3) (other : turn ≢ 1)
      (has : HasCopies pages slots m (words_of pages slots m) (base_in slots turn) (spare_in slots turn) pages behind 0)
    where
      two_of : turn ≢ 0 → turn ≡ 2
      two_of n = omega (arith, n, other, small)

      moved : (p k : ℕ) → p < pages → k < 16
          → page_word m (spare_in slots turn) slots p k ≡ page_word m (base_in slots turn) slots p k
      moved p k below few = has.each p k below below (λ e. absurd (omega (arith, e))) few
          ∙ index-page pages slots m p k below few
          ∙ ap (λ (t : ℕ). page_word m (base_in slots t) slots p k) (sym is)

      pub pass_opened : is_closed m (close_of slots turn) ≡ false
      pass_opened = ⊎_elim
          (λ (z : turn ≡ 0). ap (λ (t : ℕ). is_closed m (close_of slots t)) z ∙ (zero_marks slots m ring (sym is
          ∙ z)).0)
          (λ (n : turn ≢ 0). ap (λ (t : ℕ). is_closed m (close_of slots t)) (two_of n)
          ∙ (two_marks slots m (sym is ∙ two_of n)).1)
          (cases_eq turn 0)

      module _ (h : SameElsewhere m (close_of slots turn) 2 after) where
        zero_case : turn ≡ 0 → Passes pages slots m after 0 1
        zero_case z = zero_passes pages slots m m after ring (sym is ∙ z)
            (elsewhere_none m m (area_size slots) (area_size slots) refl)
            (ap (λ (t : ℕ). is_closed m (spare_in slots t + 20 * slots)) (sym z) ∙ has.opened)
            (subst (λ (t : ℕ). SameElsewhere m (close_of slots t) 2 after) z h)
            (λ p k below few. ap (λ (t : ℕ). page_word m (spare_in slots t) slots p k) (sym z) ∙ moved p k below few
            ∙ ap (λ (t : ℕ). page_word m (base_in slots t) slots p k) z)

        two_case : turn ≡ 2 → Passes pages slots m after 2 0
        two_case z = two_passes pages slots m m after (sym is ∙ z)
            (elsewhere_none m m 0 (area_size slots) refl)
            (let here : 20 * slots ≡ 0 + 20 * slots = omega arith in ap (λ (k : ℕ). is_closed m k) here
            ∙ ap (λ (t : ℕ). is_closed m (spare_in slots t + 20 * slots)) (sym z) ∙ has.opened)
            (subst (λ (t : ℕ). SameElsewhere m (close_of slots t) 2 after) z h)
            (λ p k below few. ap (λ (t : ℕ). page_word m (spare_in slots t) slots p k) (sym z) ∙ moved p k below few
            ∙ ap (λ (t : ℕ). page_word m (base_in slots t) slots p k) z)

        -- torn or not, the words stay, and there is a turn
        pub pass_words : words_of pages slots after ≡ words_of pages slots m
        pass_words = ⊎_elim (λ (z : turn ≡ 0). (zero_case z).words) (λ (n : turn ≢ 0). (two_case (two_of n)).words)
            (cases_eq turn 0)

        pub pass_ring : IsRing slots after
        pass_ring = ⊎_elim (λ (z : turn ≡ 0). (zero_case z).ring) (λ (n : turn ≢ 0). (two_case (two_of n)).ring)
            (cases_eq turn 0)

        -- whole, the turn is that of the other area
        pub pass_turn : (next : ℕ) → (turn ≡ 0 → next ≡ 1) → (turn ≢ 0 → next ≡ 0)
            → is_closed after (close_of slots turn) ≡ true → turn_of slots after ≡ next
        pass_turn next one none closed = ⊎_elim
            (λ (z : turn ≡ 0). let passes = zero_case z in
            let shut : is_closed after (20 * slots) ≡ true =
            ap (λ (t : ℕ). is_closed after (close_of slots t)) (sym z) ∙ closed in
            ⊎_elim
            (λ (old : turn_of slots after ≡ 0).
            absurd (true≢false (sym shut ∙ (zero_marks slots after passes.ring old).0)))
            (λ (new : turn_of slots after ≡ 1). new ∙ sym (one z)) passes.turn)
            (λ (n : turn ≢ 0). let passes = two_case (two_of n) in
            let shut : is_closed after (witness_start slots) ≡ true =
            ap (λ (t : ℕ). is_closed after (close_of slots t)) (sym (two_of n)) ∙ closed in
            ⊎_elim
            (λ (old : turn_of slots after ≡ 2). absurd (true≢false (sym shut ∙ (two_marks slots after old).1)))
            (λ (new : turn_of slots after ≡ 0). new ∙ sym (none n)) passes.turn)
            (cases_eq turn 0)

        -- torn or not, the turn is that of an area which has all pages
        pub pass_turns : (turn_of slots after ≡ turn) ⊎ (base_in slots (turn_of slots after) ≡ spare_in slots turn)
        pass_turns = ⊎_elim
            (λ (z : turn ≡ 0). ⊎_elim
            (λ (old : turn_of slots after ≡ 0). inl (old ∙ sym z))
            (λ (new : turn_of slots after ≡ 1). inr (ap (base_in slots) new ∙ sym (ap (spare_in slots) z)))
            (zero_case z).turn)
            (λ (n : turn ≢ 0). ⊎_elim
            (λ (old : turn_of slots after ≡ 2). inl (old ∙ sym (two_of n)))
            (λ (new : turn_of slots after ≡ 0). inr (ap (base_in slots) new ∙ sym (ap (spare_in slots) (two_of n))))
            (two_case (two_of n)).turn)
            (cases_eq turn 0)

        -- both areas stay
        pub pass_home : SameArea slots m after (base_in slots turn)
        pass_home = record {
          each = λ k low high. h.same k (inl (⊎_elim
              (λ (z : turn ≡ 0).
              let a : base_in slots turn ≡ 0 = ap (base_in slots) z in
              let b : close_of slots turn ≡ 20 * slots = ap (close_of slots) z in
              omega (arith, a, b, high))
              (λ (n : turn ≢ 0).
              let a : base_in slots turn ≡ area_size slots = ap (base_in slots) (two_of n) in
              let b : close_of slots turn ≡ witness_start slots = ap (close_of slots) (two_of n) in
              omega (arith, a, b, high))
              (cases_eq turn 0)));
        }

        pub pass_block : SameBlock slots m after (spare_in slots turn)
        pass_block = record {
          each = λ k low high. h.same k (⊎_elim
              (λ (z : turn ≡ 0).
              let a : spare_in slots turn ≡ area_size slots = ap (spare_in slots) z in
              let b : close_of slots turn ≡ 20 * slots = ap (close_of slots) z in
              let x : close_of slots turn + 2 ≤ k = omega (arith, a, b, low) in inr x)
              (λ (n : turn ≢ 0).
              let a : spare_in slots turn ≡ 0 = ap (spare_in slots) (two_of n) in
              let b : close_of slots turn ≡ witness_start slots = ap (close_of slots) (two_of n) in
              let x : k < close_of slots turn = omega (arith, a, b, high) in inl x)
              (cases_eq turn 0));
        }

        pub pass_area : SameArea slots m after (spare_in slots turn)
        pass_area = block_area slots m after (spare_in slots turn) pass_block

  module _ (sectors : ℕ) (start : ℕ → ℕ) (rise : (s : ℕ) → start s ≤ start (s + 1))
      (first : start 0 ≡ 0) (second : start sectors ≡ area_size slots)
      (third : start (2 * sectors) ≡ witness_start slots) (some : 0 < sectors) where
    -- no step of the move is taken
    pub spare_none : LEAST_PAGES ≤ pages → (m words : List ℕ) (turn : ℕ)
        → IsSpare pages slots sectors start m words turn 0 0 0 0
    spare_none least m words turn = record {
      within = omega arith;
      most = omega (arith, least);
      idle = λ e. refl;
      fresh = λ lt. (refl, refl);
      few = omega arith;
      blank = λ lt. record {
        each = λ k few.
            let none : spare_sector sectors turn + 0 ≡ spare_sector sectors turn = omega arith in
            let begins : start (spare_sector sectors turn + 0) ≡ spare_in slots turn =
            ap start none ∙ spare_first start slots sectors first second third turn in
            absurd (omega (arith, few, begins));
      };
      copies = λ e. absurd (omega (arith, e, some));
    }

    -- the move has come as far where its area stays
    pub spare_same : (m after words : List ℕ) (turn erased copied behind older : ℕ)
        → SameBlock slots m after (spare_in slots turn)
        → ((p : ℕ) → find after (base_in slots turn) slots p ≡ 0 → find m (base_in slots turn) slots p ≡ 0)
        → IsSpare pages slots sectors start m words turn erased copied behind older
        → IsSpare pages slots sectors start after words turn erased copied behind older
    spare_same m after words turn erased copied behind older same held spare =
        let base = spare_in slots turn in record {
          within = spare.within;
          most = spare.most;
          idle = spare.idle;
          fresh = spare.fresh;
          blank = λ lt. record {
            each = λ k few.
                let ends = spare_end start slots sectors first second third turn in
                let up : start (spare_sector sectors turn + erased) ≤ start (spare_sector sectors turn + sectors) =
                rises_to start rise (spare_sector sectors turn + erased) (spare_sector sectors turn + sectors)
                (omega (arith, lt)) in
                same.each (base + k) (omega arith) (omega (arith, few, ends, up))
                ∙ (spare.blank lt).each k few;
          };
          few = spare.few;
          copies = λ e. copies_same m after words (base_in slots turn) base _ behind older same held (spare.copies e);
        }

    -- the run of a sector lies in the other area
    pub sector_within : (m after : List ℕ) (turn erased : ℕ) → erased < sectors
        → SameElsewhere m (start (spare_sector sectors turn + erased))
        (start (spare_sector sectors turn + erased + 1) - start (spare_sector sectors turn + erased)) after
        → SameElsewhere m (spare_in slots turn) (area_size slots) after
    sector_within m after turn erased lt h =
        let f = spare_sector sectors turn in
        let begins = spare_first start slots sectors first second third turn in
        let ends = spare_end start slots sectors first second third turn in
        let low : start f ≤ start (f + erased) = rises_to start rise f (f + erased) (omega arith) in
        let up : start (f + erased) ≤ start (f + erased + 1) = rise (f + erased) in
        let high : start (f + erased + 1) ≤ start (f + sectors) =
        rises_to start rise (f + erased + 1) (f + sectors) (omega (arith, lt)) in
        elsewhere_wider m after (start (f + erased)) (start (f + erased + 1) - start (f + erased))
        (spare_in slots turn) (area_size slots) (omega (arith, begins, low))
        (omega (arith, ends, up, high)) h

    -- one sector more is erased
    pub spare_more : (m after words new : List ℕ) (turn erased copied behind older : ℕ) → turn ≢ 1 → erased < sectors
        → IsSpare pages slots sectors start m words turn erased copied behind older
        → SameElsewhere m (start (spare_sector sectors turn + erased))
        (start (spare_sector sectors turn + erased + 1) - start (spare_sector sectors turn + erased)) after
        → AreFilled after (start (spare_sector sectors turn + erased))
        (start (spare_sector sectors turn + erased + 1) - start (spare_sector sectors turn + erased)) BLANK
        → IsSpare pages slots sectors start after new turn (erased + 1) copied behind older
    spare_more m after words new turn erased copied behind older other lt spare h is =
        let f = spare_sector sectors turn in
        let base = spare_in slots turn in
        let begins : start f ≡ base = spare_first start slots sectors first second third turn in
        let ends : start (f + sectors) ≡ base + area_size slots =
        spare_end start slots sectors first second third turn in
        let none = spare.fresh lt in
        let was : AreFilled m (start f) (start (f + erased) - start f) BLANK =
        subst (λ (b : ℕ). AreFilled m b (start (f + erased) - b) BLANK) (sym begins) (spare.blank lt) in
        let filled : AreFilled after (start f) (start (f + erased + 1) - start f) BLANK =
        sectors_filled start rise m after f (f + erased) BLANK (omega arith) was h is in
        let there : f + erased + 1 ≡ f + (erased + 1) = omega arith in
        let all : AreFilled after base (start (f + (erased + 1)) - base) BLANK =
        subst (λ (b : ℕ). AreFilled after b (start (f + (erased + 1)) - b) BLANK) begins
        (subst (λ (n : ℕ). AreFilled after (start f) (start n - start f) BLANK) there filled) in record {
          within = omega (arith, lt);
          most = spare.most;
          idle = λ e. absurd (other e);
          fresh = λ le. none;
          blank = λ le. all;
          few = spare.few;
          copies = λ e.
              let size : start (f + (erased + 1)) - base ≡ area_size slots =
              let k : start (f + (erased + 1)) ≡ start (f + sectors) = ap (λ (n : ℕ). start (f + n)) e in
              omega (arith, k, ends) in
              let blank : AreFilled after base (area_size slots) BLANK =
              subst (λ (n : ℕ). AreFilled after base n BLANK) size all in
              let zero_pages : 0 ≡ STEP_PAGES * copied = let z = none.0 in omega (arith, z) in
              let zero_older : 0 ≡ older = let z = none.0 in let few = spare.few in omega (arith, z, few) in
              let home = base_in slots turn in
              subst (λ (n : ℕ). HasCopies pages slots after new home base n behind older) zero_pages
              (subst (λ (n : ℕ). HasCopies pages slots after new home base 0 n older) (sym none.1)
              (subst (λ (n : ℕ). HasCopies pages slots after new home base 0 0 n) zero_older
              (copies_none pages slots after new home base blank)));
        }

    -- the move may begin anew
    pub log_anew : LEAST_PAGES ≤ pages → {T : Type 0} {entries : T → List ℕ} (m : List ℕ) (p : PageMap T)
        → IsLog entries pages slots sectors start m p
        → IsLog entries pages slots sectors start m (record p { erased = 0; copied = 0; behind = 0; older = 0 })
    log_anew least m p log = record {
      ring = log.ring;
      passed = log.passed;
      known = λ is. let known = log.known is in record {
        turn = known.turn;
        small = known.small;
        index = known.index;
        free = known.free;
        spare = spare_none least m (words_of pages slots m) p.turn;
      };
    }

  module _ (sectors : ℕ) (start : ℕ → ℕ) where
    -- one step more has copied pages
    pub spare_copied : (m after words new : List ℕ) (turn erased copied behind older n : ℕ) → erased ≡ sectors
        → copied + 1 < steps_of pages
        → IsSpare pages slots sectors start m words turn erased copied behind older
        → HasCopies pages slots after new (base_in slots turn) (spare_in slots turn) (STEP_PAGES * copied + STEP_PAGES)
        n 0
        → IsSpare pages slots sectors start after new turn erased (copied + 1) n 0
    spare_copied m after words new turn erased copied behind older n all more spare has = record {
      within = spare.within;
      most = more;
      idle = spare.idle;
      fresh = λ lt. absurd (omega (arith, lt, all));
      blank = λ lt. absurd (omega (arith, lt, all));
      few = omega arith;
      copies = λ e. let there : STEP_PAGES * copied + STEP_PAGES ≡ STEP_PAGES * (copied + 1) = omega arith in
          subst (λ (k : ℕ). HasCopies pages slots after new (base_in slots turn) (spare_in slots turn) k n 0) there has;
    }

    -- the same steps have copied pages, in more slots, or but for an older page
    pub spare_put : (m after words new : List ℕ) (turn erased copied behind older n o : ℕ)
        → IsSpare pages slots sectors start m words turn erased copied behind older → o ≤ STEP_PAGES * copied
        → HasCopies pages slots after new (base_in slots turn) (spare_in slots turn) (STEP_PAGES * copied) n o
        → erased ≡ sectors → IsSpare pages slots sectors start after new turn erased copied n o
    spare_put m after words new turn erased copied behind older n o spare few has all = record {
      within = spare.within;
      most = spare.most;
      idle = spare.idle;
      fresh = λ lt. absurd (omega (arith, lt, all));
      blank = λ lt. absurd (omega (arith, lt, all));
      few = few;
      copies = λ e. has;
    }

    -- a page is written: its copy is older now, if it has one
    pub spare_written : (m words new : List ℕ) (turn erased copied behind page was o : ℕ)
        → (was ≡ 0) ⊎ (was ≡ page + 1) → IsSpare pages slots sectors start m words turn erased copied behind was
        → ((p k : ℕ) → p ≢ page → k < 16 → slice_index new (16 * p + k) ≡ slice_index words (16 * p + k))
        → (page < STEP_PAGES * copied → o ≡ page + 1) → (STEP_PAGES * copied ≤ page → o ≡ 0)
        → IsSpare pages slots sectors start m new turn erased copied behind o
    spare_written m words new turn erased copied behind page was o own spare others one none = record {
      within = spare.within;
      most = spare.most;
      idle = spare.idle;
      fresh = spare.fresh;
      blank = spare.blank;
      few = ⊎_elim
          (λ (lt : page < STEP_PAGES * copied). let is = one lt in omega (arith, is, lt))
          (λ (ge : STEP_PAGES * copied ≤ page). let is = none ge in omega (arith, is))
          (cases_lt page (STEP_PAGES * copied));
      copies = λ e. let has = spare.copies e in record {
        opened = has.opened;
        free = has.free;
        each = λ p k lt below but few.
            let other : p ≢ page = λ is. let o_is = one (omega (arith, is, lt)) in but (omega (arith, is, o_is)) in
            has.each p k lt below (λ (is : p + 1 ≡ was). ⊎_elim
            (λ (e : was ≡ 0). absurd (omega (arith, is, e)))
            (λ (e : was ≡ page + 1). other (omega (arith, is, e)))
            own) few ∙ sym (others p k other few);
        left = has.left;
      };
    }

    -- where a page is copied, all sectors are erased
    pub spare_all : (m words : List ℕ) (turn erased copied behind older : ℕ) → 0 < copied
        → IsSpare pages slots sectors start m words turn erased copied behind older → erased ≡ sectors
    spare_all m words turn erased copied behind older some_copied spare = ⊎_elim
        (λ (lt : erased < sectors). let none = (spare.fresh lt).0 in absurd (omega (arith, none, some_copied)))
        (λ (ge : sectors ≤ erased). let most = spare.within in omega (arith, ge, most))
        (cases_lt erased sectors)
