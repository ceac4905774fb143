-- Laws of a move to the other area, and of the turn that passes to the witness.
use Rattle.std.specs.Prelude.{◌≡◌, ◌≢◌, ◌⊎◌, ◌<◌, ◌≤◌, ◌+◌, ◌*◌, ◌/◌, ◌%◌, ℕ, Bool, true, false, List}
use Rattle.std.specs.Prelude.{slice_index, if◌then◌else◌}
use Rattle.std.proofs.Common.{refl, sym, ◌∙◌, ap, inl, inr, ⊎_elim, arith, true≢false}
use Rattle.std.proofs.lemmas.Bool.{ne_eqb}
use Rattle.std.proofs.lemmas.Grind.{same_number_lists}
use Rattle.flash_device.specs.FlashBlocks.{area_size, flash_size, witness_start}
use Rattle.flash_device.specs.declared.flash.TheConstants.{BLANK}
use Rattle.flash_device.specs.FlashCalls.{SameElsewhere, AreFilled}
use Rattle.flash_device.specs.FlashLogs.{close_b, find, is_closed, page_word, word_of, base_in, turn_of}
use Rattle.flash_device.specs.FlashLogs.{words_of}
use Rattle.flash_moves.specs.Rings.{IsRing}
use Rattle.flash_area.specs.HeldPages.{HavePages}
use Rattle.flash_area.specs.laws.Copying.{SameArea, area_found, area_free, area_page, area_word, bases, none_found}
use Rattle.flash_area.specs.laws.Erased.{erased_free}
use Rattle.flash_device.specs.PageTables.{AreFree}
use Rattle.flash_device.specs.laws.Indexing.{find_most}
use Rattle.flash_device.specs.laws.Marks.{blank_open, closed_same}
use Rattle.flash_moves.specs.laws.Turns.{turn_marks, zero_marks, one_marks, two_marks, zero_turn, one_turn, two_turn}
use Rattle.flash_area.specs.laws.Words.{length-words, index-words}

-- Whatever stands in the block behind that of the turn: the turn stays, and so do the words.
pub record Stays (pages slots : ℕ) (m after : List ℕ) : Type 0 where
  pub turn : turn_of slots after ≡ turn_of slots m
  pub ring : IsRing slots after
  pub words : words_of pages slots after ≡ words_of pages slots m

-- The mark that passes the turn, torn or not: the turn stays or passes on, and the words are the same.
pub record Passes (pages slots : ℕ) (m after : List ℕ) (old new : ℕ) : Type 0 where
  pub turn : (turn_of slots after ≡ old) ⊎ (turn_of slots after ≡ new)
  pub ring : IsRing slots after
  pub words : words_of pages slots after ≡ words_of pages slots m

module _ (pages slots : ℕ) where
  -- the same pages, in whichever area, are the same words
  pub words_moved : (m after : List ℕ) (base other : ℕ) → base ≡ base_in slots (turn_of slots m)
      → other ≡ base_in slots (turn_of slots after)
      → ((p k : ℕ) → p < pages → k < 16 → page_word after other slots p k ≡ page_word m base slots p k)
      → words_of pages slots after ≡ words_of pages slots m
  words_moved m after base other was is same =
      same_number_lists (words_of pages slots after) (words_of pages slots m) (length-words pages slots after
      ∙ sym (length-words pages slots m)) (λ i lt.
      let inside : i < 16 * pages = let all = length-words pages slots after in omega (arith, lt, all) in
      let p : i / 16 < pages = omega (arith, inside) in
      let k : i % 16 < 16 = omega arith in
      index-words pages slots after i inside ∙ ap (λ (b : ℕ). page_word after b slots (i / 16) (i % 16)) (sym is)
      ∙ same (i / 16) (i % 16) p k
      ∙ sym (index-words pages slots m i inside ∙ ap (λ (b : ℕ). page_word m b slots (i / 16) (i % 16)) (sym was)))

  -- a change of the other area, its closing mark too
  pub whole_area : (m after : List ℕ) (from to : ℕ) → from + to ≡ 1
      → SameElsewhere m (base_in slots to) (area_size slots) after
      → SameArea slots m after (base_in slots from)
  whole_area m after from to e h = record {
    each = λ k low high. h.same k (⊎_elim
        (λ (z : (base_in slots from ≡ 0) × (base_in slots to ≡ area_size slots)).
        let a = z.0 in let b = z.1 in let x : k < base_in slots to = omega (arith, a, b, high) in inl x)
        (λ (z : (base_in slots from ≡ area_size slots) × (base_in slots to ≡ 0)).
        let a = z.0 in let b = z.1 in let x : base_in slots to + area_size slots ≤ k = omega (arith, a, b, low) in
        inr x)
        (bases slots from to e));
  }

  -- the pages stay where the area does
  pub same_held : (m after : List ℕ) (base next : ℕ) → SameArea slots m after base
      → HavePages pages slots m base next → HavePages pages slots after base next
  same_held m after base next same have = record {
    each = λ s lt.
        let held = have.each s lt in
        let found = held.found in
        let most = find_most m base slots held.page in record {
          page = held.page;
          below = held.below;
          found = area_found slots m after base same held.page ∙ found;
          unused = area_word slots m after base same s 17 (omega (arith, found, most)) (omega arith) ∙ held.unused;
        };
  }

  stays_by : (m after : List ℕ) (turn : ℕ) → turn_of slots m ≡ turn → (turn_of slots after ≡ turn) × IsRing slots after
      → SameArea slots m after (base_in slots turn) → Stays pages slots m after
  stays_by m after turn was told same = record {
    turn = told.0 ∙ sym was;
    ring = told.1;
    words = words_moved m after (base_in slots turn) (base_in slots turn) (ap (base_in slots) (sym was))
        (ap (base_in slots) (sym told.0))
        (λ p k below lt. area_page slots m after (base_in slots turn) same p k lt);
  }

  pub zero_stays : (m after : List ℕ) → IsRing slots m → turn_of slots m ≡ 0
      → SameElsewhere m (area_size slots) (area_size slots) after → Stays pages slots m after
  zero_stays m after ring was h =
      let a : 20 * slots + 2 ≤ area_size slots = omega arith in
      let c : area_size slots + area_size slots ≤ witness_start slots = omega arith in
      stays_by m after 0 was (zero_turn slots m after ring was
      (closed_same m after (20 * slots) (area_size slots) (area_size slots) h (inl a))
      (closed_same m after (witness_start slots) (area_size slots) (area_size slots) h (inr c)))
      (whole_area m after 0 1 refl h)

  pub two_stays : (m after : List ℕ) → turn_of slots m ≡ 2 → SameElsewhere m 0 (area_size slots) after
      → Stays pages slots m after
  two_stays m after was h =
      let b : 0 + area_size slots ≤ close_b slots = omega arith in
      let c : 0 + area_size slots ≤ witness_start slots = omega arith in
      stays_by m after 2 was (two_turn slots m after was
      (closed_same m after (close_b slots) 0 (area_size slots) h (inr b))
      (closed_same m after (witness_start slots) 0 (area_size slots) h (inr c))) (whole_area m after 1 0 refl h)

  pub one_stays : (m after : List ℕ) → turn_of slots m ≡ 1 → SameElsewhere m (witness_start slots) 2 after
      → Stays pages slots m after
  one_stays m after was h =
      let a : 20 * slots + 2 ≤ witness_start slots = omega arith in
      let b : close_b slots + 2 ≤ witness_start slots = omega arith in
      stays_by m after 1 was (one_turn slots m after was
      (closed_same m after (20 * slots) (witness_start slots) 2 h (inl a))
      (closed_same m after (close_b slots) (witness_start slots) 2 h (inl b)))
      (record { each = λ k low high. let x : k < witness_start slots = omega (arith, high) in h.same k (inl x) })

  -- from turn 1 to turn 2, the witness being open
  pub witness_passes : (m mid after : List ℕ) → turn_of slots m ≡ 1 → SameElsewhere m (witness_start slots) 2 mid
      → is_closed mid (witness_start slots) ≡ false → SameElsewhere mid (close_b slots) 2 after
      → Passes pages slots m after 1 2
  witness_passes m mid after was g unmarked h =
      let z = one_marks slots m was in
      let a1 : 20 * slots + 2 ≤ witness_start slots = omega arith in
      let a2 : 20 * slots + 2 ≤ close_b slots = omega arith in
      let c1 : close_b slots + 2 ≤ witness_start slots = omega arith in
      let a : is_closed after (20 * slots) ≡ true =
      closed_same mid after (20 * slots) (close_b slots) 2 h (inl a2)
      ∙ closed_same m mid (20 * slots) (witness_start slots) 2 g (inl a1) ∙ z.0 in
      let c : is_closed after (witness_start slots) ≡ false =
      closed_same mid after (witness_start slots) (close_b slots) 2 h (inr c1) ∙ unmarked in
      by_b (is_closed after (close_b slots)) refl a c
    where
      same : SameArea slots m after (area_size slots)
      same = record {
        each = λ k low high.
            let x : k < close_b slots = omega (arith, high) in let y : k < witness_start slots = omega (arith, high) in
            h.same k (inl x) ∙ g.same k (inl y);
      }

      words : base_in slots (turn_of slots after) ≡ area_size slots
          → words_of pages slots after ≡ words_of pages slots m
      words is = words_moved m after (area_size slots) (area_size slots) (sym (ap (base_in slots) was)) (sym is)
          (λ p k below lt. area_page slots m after (area_size slots) same p k lt)

      by_b : (b : Bool) → is_closed after (close_b slots) ≡ b → is_closed after (20 * slots) ≡ true
          → is_closed after (witness_start slots) ≡ false
          → Passes pages slots m after 1 2
      by_b false y x w = let t = turn_marks slots after true false false x y w in record {
        turn = inl t;
        ring = λ ab bc. true≢false (sym x ∙ ab ∙ y);
        words = words (ap (base_in slots) t);
      }
      by_b true y x w = let t = turn_marks slots after true true false x y w in record {
        turn = inr t;
        ring = λ ab bc. true≢false (sym y ∙ bc ∙ w);
        words = words (ap (base_in slots) t);
      }

  -- from turn 0 to turn 1, area B being open and having the pages
  pub zero_passes : (m mid after : List ℕ) → IsRing slots m → turn_of slots m ≡ 0
      → SameElsewhere m (area_size slots) (area_size slots) mid
      → is_closed mid (close_b slots) ≡ false → SameElsewhere mid (20 * slots) 2 after
      → ((p k : ℕ) → p < pages → k < 16 → page_word mid (area_size slots) slots p k ≡ page_word m 0 slots p k)
      → Passes pages slots m after 0 1
  zero_passes m mid after ring was g unmarked h moved =
      let z = zero_marks slots m ring was in
      let c1 : area_size slots + area_size slots ≤ witness_start slots = omega arith in
      let c2 : 20 * slots + 2 ≤ witness_start slots = omega arith in
      let b1 : 20 * slots + 2 ≤ close_b slots = omega arith in
      let c : is_closed after (witness_start slots) ≡ true =
      closed_same mid after (witness_start slots) (20 * slots) 2 h (inr c2)
      ∙ closed_same m mid (witness_start slots) (area_size slots) (area_size slots) g (inr c1) ∙ z.1 in
      let b : is_closed after (close_b slots) ≡ false = closed_same mid after (close_b slots) (20 * slots) 2 h (inr b1)
      ∙ unmarked in
      by_a (is_closed after (20 * slots)) refl b c
    where
      here : SameArea slots m after 0
      here = record {
        each = λ k low high.
            let x : k < 20 * slots = omega (arith, high) in let y : k < area_size slots = omega (arith, high) in
            h.same k (inl x) ∙ g.same k (inl y);
      }

      there : SameArea slots mid after (area_size slots)
      there = record { each = λ k low high. let x : 20 * slots + 2 ≤ k = omega (arith, low) in h.same k (inr x) }

      by_a : (a : Bool) → is_closed after (20 * slots) ≡ a → is_closed after (close_b slots) ≡ false
          → is_closed after (witness_start slots) ≡ true
          → Passes pages slots m after 0 1
      by_a false x y w = let t = turn_marks slots after false false true x y w in record {
        turn = inl t;
        ring = λ ab bc. true≢false (sym w ∙ sym bc ∙ y);
        words = words_moved m after 0 0 (sym (ap (base_in slots) was)) (sym (ap (base_in slots) t))
            (λ p k below lt. area_page slots m after 0 here p k lt);
      }
      by_a true x y w = let t = turn_marks slots after true false true x y w in record {
        turn = inr t;
        ring = λ ab bc. true≢false (sym x ∙ ab ∙ y);
        words = words_moved m after 0 (area_size slots) (sym (ap (base_in slots) was)) (sym (ap (base_in slots) t))
            (λ p k below lt. area_page slots mid after (area_size slots) there p k lt ∙ moved p k below lt);
      }

  -- from turn 2 to turn 0, area A being open and having the pages
  pub two_passes : (m mid after : List ℕ) → turn_of slots m ≡ 2 → SameElsewhere m 0 (area_size slots) mid
      → is_closed mid (20 * slots) ≡ false → SameElsewhere mid (witness_start slots) 2 after
      → ((p k : ℕ) → p < pages → k < 16 → page_word mid 0 slots p k ≡ page_word m (area_size slots) slots p k)
      → Passes pages slots m after 2 0
  two_passes m mid after was g unmarked h moved =
      let z = two_marks slots m was in
      let b1 : 0 + area_size slots ≤ close_b slots = omega arith in
      let b2 : close_b slots + 2 ≤ witness_start slots = omega arith in
      let a1 : 20 * slots + 2 ≤ witness_start slots = omega arith in
      let b : is_closed after (close_b slots) ≡ true =
      closed_same mid after (close_b slots) (witness_start slots) 2 h (inl b2)
      ∙ closed_same m mid (close_b slots) 0 (area_size slots) g (inr b1) ∙ z.0 in
      let a : is_closed after (20 * slots) ≡ false =
      closed_same mid after (20 * slots) (witness_start slots) 2 h (inl a1) ∙ unmarked in
      by_c (is_closed after (witness_start slots)) refl a b
    where
      here : SameArea slots m after (area_size slots)
      here = record {
        each = λ k low high.
            let x : k < witness_start slots = omega (arith, high) in let y : 0 + area_size slots ≤ k =
            omega (arith, low) in
            h.same k (inl x) ∙ g.same k (inr y);
      }

      there : SameArea slots mid after 0
      there = record { each = λ k low high. let x : k < witness_start slots = omega (arith, high) in h.same k (inl x) }

      by_c : (c : Bool) → is_closed after (witness_start slots) ≡ c → is_closed after (20 * slots) ≡ false
          → is_closed after (close_b slots) ≡ true
          → Passes pages slots m after 2 0
      by_c false w x y = let t = turn_marks slots after false true false x y w in record {
        turn = inl t;
        ring = λ ab bc. true≢false (sym y ∙ bc ∙ w);
        words = words_moved m after (area_size slots) (area_size slots) (sym (ap (base_in slots) was))
            (sym (ap (base_in slots) t))
            (λ p k below lt. area_page slots m after (area_size slots) here p k lt);
      }
      by_c true w x y = let t = turn_marks slots after false true true x y w in record {
        turn = inr t;
        ring = λ ab bc. true≢false (sym y ∙ sym ab ∙ x);
        words = words_moved m after (area_size slots) 0 (sym (ap (base_in slots) was)) (sym (ap (base_in slots) t))
            (λ p k below lt. area_page slots mid after 0 there p k lt ∙ moved p k below lt);
      }

  -- in turns 1 and 2 the pages are in area B
  pub base_other : (t : ℕ) → t ≢ 0 → base_in slots t ≡ area_size slots
  base_other t some = ap (λ (b : Bool). if b then 0 else area_size slots) (ne_eqb t 0 some)

  -- what passes the turn to the witness leaves area B
  pub witness_area : (m after : List ℕ) → SameElsewhere m (close_b slots) 4 after
      → SameArea slots m after (area_size slots)
  witness_area m after h = record {
    each = λ k low high. let x : k < close_b slots = omega (arith, high) in
        h.same k (inl x);
  }

  -- a flash that was formatted
  module _ (c m : List ℕ) (all : AreFilled c 0 (flash_size slots) BLANK)
      (closed : is_closed m (witness_start slots) ≡ true) (last : SameElsewhere c (witness_start slots) 2 m) where
    area_a : SameArea slots c m 0
    area_a = record {
      each = λ k low high. let x : k < witness_start slots = omega (arith, high) in last.same k (inl x);
    }

    blank_a : AreFilled c 0 (area_size slots) BLANK
    blank_a = record { each = λ k lt. all.each k (omega (arith, lt)) }

    is_open : (at : ℕ) → at + 2 ≤ witness_start slots → is_closed m at ≡ false
    is_open at before = closed_same c m at (witness_start slots) 2 last (inl before)
        ∙ (let here : at ≡ 0 + at = omega arith in let next : at + 1 ≡ 0 + (at + 1) = omega arith in
        blank_open c at (ap (λ (k : ℕ). slice_index c k) here ∙ all.each at (omega (arith, before)))
        (ap (λ (k : ℕ). slice_index c k) next ∙ all.each (at + 1) (omega (arith, before))))

    is_open_a : is_closed m (20 * slots) ≡ false
    is_open_a = is_open (20 * slots) (omega arith)

    is_open_b : is_closed m (close_b slots) ≡ false
    is_open_b = is_open (close_b slots) (omega arith)

    pub formatted_turn : turn_of slots m ≡ 0
    formatted_turn = turn_marks slots m false false true is_open_a is_open_b closed

    pub formatted_ring : IsRing slots m
    formatted_ring = λ ab bc. true≢false (sym closed ∙ sym bc ∙ is_open_b)

    pub formatted_free : AreFree m 0 0 slots
    formatted_free = area_free slots c m 0 area_a 0 (erased_free pages slots c 0 blank_a)

    pub formatted_words : (i : ℕ) → i < 16 * pages → slice_index (words_of pages slots m) i ≡ 0
    formatted_words i lt =
        let none : find m 0 slots (i / 16) ≡ 0 =
        none_found slots m 0 (i / 16) formatted_free in
        let base : base_in slots (turn_of slots m) ≡ 0 = ap (base_in slots) formatted_turn in
        index-words pages slots m i lt ∙ ap (λ (q : ℕ). page_word m q slots (i / 16) (i % 16)) base
        ∙ ap (λ (f : ℕ). word_of m 0 f (i % 16)) none
