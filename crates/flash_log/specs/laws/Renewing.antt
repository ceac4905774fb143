-- Laws of a flash that has nothing but the pages as they are.
use Rattle.std.specs.Prelude.{◌≡◌, ◌≢◌, ◌⊎◌, ◌<◌, ◌≤◌, ◌+◌, ◌-◌, ◌*◌, ℕ, Bool, true, false, List, slice_index}
use Rattle.std.specs.Prelude.{nat_eq, if◌then◌else◌}
use Rattle.std.proofs.Common.{sym, ◌∙◌, ap, inl, inr, ⊎_elim, subst, arith, true≢false}
use Rattle.std.proofs.lemmas.Bool.{cases_eq, cases_lt, eqb-true, ne_eqb}
use Rattle.flash_device.specs.declared.flash.TheConstants.{BLANK, BLOCKS}
use Rattle.nvm_board.specs.declared.board.TheConstants.{LEAST_PAGES}
use Rattle.flash_moves.specs.declared.place.PageMap.{PageMap}
use Rattle.flash_device.specs.FlashBlocks.{area_size, steps_of, witness_start}
use Rattle.flash_device.specs.FlashCalls.{SameElsewhere, AreFilled}
use Rattle.flash_device.specs.FlashLogs.{base_in, close_b, close_of, is_marked, slot_of, turn_of, word_of}
use Rattle.flash_device.specs.FlashLogs.{words_of}
use Rattle.flash_moves.specs.Paces.{KeepsPace}
use Rattle.flash_device.specs.PageTables.{AreFree}
use Rattle.flash_area.specs.HeldPages.{HavePages, HoldsPage}
use Rattle.flash_log.specs.Renewals.{AreClean, HasLastMark, HoldsOnlyPages}
use Rattle.flash_moves.specs.Rings.{IsRing}
use Rattle.flash_area.specs.Spares.{IsSpare, spare_in}
use Rattle.flash_device.specs.laws.Finding.{find-tells}
use Rattle.flash_device.specs.laws.Marks.{blank_part, mark_same, open_blank}
use Rattle.flash_moves.specs.laws.Moving.{same_held, witness_area}
use Rattle.flash_moves.specs.laws.Pacing.{both}
use Rattle.flash_area.specs.laws.Erased.{copies_none}
use Rattle.flash_moves.specs.laws.Sparing.{spare_leaves}
use Rattle.flash_moves.specs.laws.Turns.{two_marks, zero_marks}
use Rattle.flash_area.specs.laws.Words.{index-page}

module _ (pages slots : ℕ) where
  -- the words of a slot that holds a page are those of the board
  pub held_words : (m : List ℕ) (s k : ℕ) (held : HoldsPage pages slots m (base_in slots (turn_of slots m)) s) → k < 16
      → slice_index m (slot_of (base_in slots (turn_of slots m)) s + k)
      ≡ slice_index (words_of pages slots m) (16 * held.page + k)
  held_words m s k held lt =
      let base = base_in slots (turn_of slots m) in
      sym (index-page pages slots m held.page k held.below lt ∙ ap (λ (f : ℕ). word_of m base f k) held.found)

  -- the mark stays where only the other area changes
  pub last_same : (m after : List ℕ) (turn : ℕ) → SameElsewhere m (spare_in slots turn) (area_size slots) after
      → HasLastMark slots m turn → HasLastMark slots after turn
  last_same m after turn h last = record {
    zero = λ z.
        let a : spare_in slots turn ≡ area_size slots = ap (spare_in slots) z in
        let x : spare_in slots turn + area_size slots ≤ witness_start slots = omega (arith, a) in
        mark_same m after (witness_start slots) (spare_in slots turn) (area_size slots) h (inr x) ∙ last.zero z;
    two = λ z.
        let a : spare_in slots turn ≡ 0 = ap (spare_in slots) z in
        let x : spare_in slots turn + area_size slots ≤ close_b slots = omega (arith, a) in
        mark_same m after (close_b slots) (spare_in slots turn) (area_size slots) h (inr x) ∙ last.two z;
  }

  -- the pages stay where only the other area changes
  pub home_held : (m after : List ℕ) (turn next : ℕ) → SameElsewhere m (spare_in slots turn) (area_size slots) after
      → HavePages pages slots m (base_in slots turn) next → HavePages pages slots after (base_in slots turn) next
  home_held m after turn next h =
      same_held pages slots m after (base_in slots turn) next (spare_leaves slots m after turn h)

  -- the mark that passes the turn from 1 to the witness
  pub last_on : (m : List ℕ) → is_marked m (close_b slots) ≡ true → HasLastMark slots m 2
  last_on m marked = record { zero = λ z. absurd (omega (arith, z)); two = λ z. marked }

  -- behind it the pages are where they were
  pub held_on : (m after : List ℕ) (turn next : ℕ) → turn ≡ 1 → SameElsewhere m (close_b slots) 4 after
      → HavePages pages slots m (base_in slots turn) next → HavePages pages slots after (area_size slots) next
  held_on m after turn next one h have =
      same_held pages slots m after (area_size slots) next (witness_area pages slots m after h)
      (subst (λ (t : ℕ). HavePages pages slots m (base_in slots t) next) one have)

  -- the words and the number of a slot that holds a page
  pub held_number : (m : List ℕ) (base s : ℕ) (held : HoldsPage pages slots m base s)
      → slice_index m (slot_of base s + 16) ≡ held.page
  held_number m base s held =
      let is = (find-tells m base slots held.page s held.found).held in
      eqb-true (slice_index m (slot_of base s + 16)) held.page
      (both (is_marked m (slot_of base s + 18)) (nat_eq (slice_index m (slot_of base s + 16)) held.page) is).1

  -- the other area is erased as a whole
  pub spare_erased : (sectors : ℕ) (start : ℕ → ℕ) (m words : List ℕ) (turn erased : ℕ) → LEAST_PAGES ≤ pages
      → turn ≢ 1 → erased ≡ sectors
      → AreFilled m (spare_in slots turn) (area_size slots) BLANK
      → IsSpare pages slots sectors start m words turn erased 0 0 0
  spare_erased sectors start m words turn erased least other all blank = record {
    within = omega (arith, all);
    most = omega (arith, least);
    idle = λ one. absurd (other one);
    fresh = λ lt. absurd (omega (arith, lt, all));
    blank = λ lt. absurd (omega (arith, lt, all));
    few = omega arith;
    copies = λ e. copies_none pages slots m words (base_in slots turn) (spare_in slots turn) blank;
  }

  -- the log is in pace behind it, unless too many slots were passed over
  pub pace_renewed : {T : Type 0} (sectors : ℕ) (p : PageMap T) → p.ready ≡ true → p.turn ≢ 1 → p.erased ≡ sectors
      → p.copied ≡ 0 → p.behind ≡ 0 → p.tried ≡ 0 → p.next + steps_of pages ≤ slots → KeepsPace pages slots sectors 0 p
  pace_renewed sectors p ready other erased copied behind tried room = record {
    ready = ready;
    room = by_test (nat_eq p.turn 1) (ne_eqb p.turn 1 other);
    few = omega (arith, behind);
    goes_on = λ some. absurd (omega (arith, some, copied, behind));
    passed = omega (arith, tried);
  }
    where
      by_test : (b : Bool) → b ≡ false
          → (if b then 1 else 0) + (sectors - p.erased) + (steps_of pages - p.copied) + p.next ≤ slots
      by_test true e = absurd (true≢false e)
      by_test false e = omega (arith, erased, copied, room)

  module _ (m : List ℕ) (turn next : ℕ) (ring : IsRing slots m) (is : turn ≡ turn_of slots m) (small : turn < 3)
      (other : turn ≢ 1) (last : HasLastMark slots m turn)
      (clean : AreClean pages slots m (base_in slots turn) next)
      (free : AreFree m (base_in slots turn) next slots)
      (blank : AreFilled m (spare_in slots turn) (area_size slots) BLANK) where
    abbrev HasMarkOrNone : ℕ → Type 0
    HasMarkOrNone at = AreFilled m at 2 BLANK ⊎ (is_marked m at ≡ true)

    -- the mark that closes the other area
    spare_mark : HasMarkOrNone (spare_in slots turn + 20 * slots)
    spare_mark = inl (blank_part m (spare_in slots turn) (area_size slots) (20 * slots) 2 blank (omega arith))

    marks_zero : turn ≡ 0 → (block : ℕ) → block < BLOCKS → HasMarkOrNone (close_of slots block)
    marks_zero z block lt = ⊎_elim
        (λ (a : block ≡ 0). subst (λ (b : ℕ). HasMarkOrNone (close_of slots b)) (sym a)
        (inl (open_blank m (close_of slots 0) (zero_marks slots m ring (sym is ∙ z)).0)))
        (λ (n : block ≢ 0). ⊎_elim
        (λ (b : block ≡ 1). subst (λ (c : ℕ). HasMarkOrNone (close_of slots c)) (sym b)
        (subst (λ (t : ℕ). HasMarkOrNone (spare_in slots t + 20 * slots)) z spare_mark))
        (λ (o : block ≢ 1). let c : block ≡ 2 = omega (arith, lt, n, o) in
        subst (λ (b : ℕ). HasMarkOrNone (close_of slots b)) (sym c) (inr (last.zero z)))
        (cases_eq block 1))
        (cases_eq block 0)

    marks_two : turn ≡ 2 → (block : ℕ) → block < BLOCKS → HasMarkOrNone (close_of slots block)
    marks_two z block lt = ⊎_elim
        (λ (a : block ≡ 0). subst (λ (b : ℕ). HasMarkOrNone (close_of slots b)) (sym a)
        (let here : 0 + 20 * slots ≡ 20 * slots = omega arith in subst HasMarkOrNone here
        (subst (λ (t : ℕ). HasMarkOrNone (spare_in slots t + 20 * slots)) z spare_mark)))
        (λ (n : block ≢ 0). ⊎_elim
        (λ (b : block ≡ 1). subst (λ (c : ℕ). HasMarkOrNone (close_of slots c)) (sym b) (inr (last.two z)))
        (λ (o : block ≢ 1). let c : block ≡ 2 = omega (arith, lt, n, o) in
        subst (λ (b : ℕ). HasMarkOrNone (close_of slots b)) (sym c)
        (inl (open_blank m (close_of slots 2) (two_marks slots m (sym is ∙ z)).1)))
        (cases_eq block 1))
        (cases_eq block 0)

    -- where the slots in use are clean, and the other area is erased
    pub only_pages : HoldsOnlyPages pages slots m
    only_pages = record {
      home = subst (λ (t : ℕ). AreClean pages slots m (base_in slots t) slots) is (record {
        each = λ s lt. ⊎_elim
            (λ (used : s < next). clean.each s used)
            (λ (from : next ≤ s). inl (free.free s from lt))
            (cases_lt s next);
      });
      other = subst (λ (t : ℕ). AreFilled m (spare_in slots t) (20 * slots) BLANK) is
          (record { each = λ k lt. blank.each k (omega (arith, lt)) });
      marks = ⊎_elim (λ (z : turn ≡ 0). marks_zero z)
          (λ (n : turn ≢ 0). let two : turn ≡ 2 = omega (arith, n, other, small) in marks_two two)
          (cases_eq turn 0);
    }
