-- Laws of the slots that tries take: each try takes the next one.
use Rattle.std.specs.Prelude.{◌≡◌, ◌≢◌, ◌<◌, ◌≤◌, ◌+◌, ◌-◌, ◌*◌, ℕ, Bool, true, false, List, slice_index}
use Rattle.std.specs.Prelude.{if◌then◌else◌}
use Rattle.std.proofs.Common.{refl, sym, ◌∙◌, ap, subst, arith, true≢false, ⊎_elim}
use Rattle.std.proofs.lemmas.Bool.{cases_eq}
use Rattle.flash_moves.specs.declared.place.PageMap.{PageMap}
use Rattle.flash_device.specs.FlashCalls.{FlashState, SameElsewhere}
use Rattle.flash_device.specs.FlashLogs.{base_in, slot_of, turn_of}
use Rattle.flash_device.specs.PageTables.{AreFree}
use Rattle.flash_device.specs.laws.Marks.{elsewhere_then, elsewhere_wider}
use Rattle.flash_area.specs.Spares.{copies_most}
use Rattle.flash_moves.specs.Paces.{HasStepped, KeepsPace, LogState, extra_slots, free_slots, lead_of, move_steps_of}
use Rattle.flash_moves.specs.Places.{log_value}
use Rattle.flash_log.specs.SlotsInTurn.{FindsNext, IsNextSlot, TakesInTurn, WillTake, passed_slots}
use Rattle.flash_moves.specs.laws.Pacing.{free_of, is_paced_by, paced_is, steps_most}

-- the slot behind those that are passed is the next one, if it is free with all behind it
pub next_behind : (slots : ℕ) (m : List ℕ) (n : ℕ) → AreFree m (base_in slots (turn_of slots m)) n slots
    → IsNextSlot slots m n n
next_behind slots m n free = record {
  free = free;
  passed = omega arith;
  first = λ s are behind. behind;
}

module _ (slots : ℕ) where
  -- what changes a slot changes its area
  pub put_in_area : (m after : List ℕ) (base s : ℕ) → s < slots → SameElsewhere m (slot_of base s) 20 after
      → SameElsewhere m base (20 * slots) after
  put_in_area m after base s below = elsewhere_wider m after (slot_of base s) 20 base (20 * slots) (omega arith)
      (omega (arith, below))

  -- no try is made yet
  pub takes_none : (n : ℕ) (l : LogState) → WillTake slots l n → TakesInTurn slots n 0 l l
  takes_none n l takes = record {
    next = n;
    takes = takes;
    on = omega arith;
    few = omega arith;
    programs = omega arith;
    erases = refl;
    only = record { same = λ k outside. refl };
    turn = refl;
  }

  -- more slots might be taken
  pub takes_more : (n few most : ℕ) (old new : LogState) → few ≤ most → TakesInTurn slots n few old new
      → TakesInTurn slots n most old new
  takes_more n few most old new le h = record {
    next = h.next;
    takes = h.takes;
    on = h.on;
    few = let fits = h.few in omega (arith, fits, le);
    programs = h.programs;
    erases = h.erases;
    only = h.only;
    turn = h.turn;
  }

  -- tries behind others
  pub takes_then : (n few more most : ℕ) (old mid new : LogState) → few + more ≤ most
      → (first : TakesInTurn slots n few old mid) → TakesInTurn slots first.next more mid new
      → TakesInTurn slots n most old new
  takes_then n few more most old mid new fits first then_more =
      let on = first.on in
      let up = then_more.on in
      let early = first.few in
      let late = then_more.few in
      let programs = first.programs in
      let again = then_more.programs in
      let base = base_in slots (turn_of slots old.raw) in
      let at = slot_of base n in
      let size = 20 * (then_more.next - n) in
      record {
        next = then_more.next;
        takes = then_more.takes;
        on = omega (arith, on, up);
        few = omega (arith, early, late, fits);
        programs = omega (arith, programs, again);
        erases = then_more.erases ∙ first.erases;
        only = elsewhere_then old.raw mid.raw new.raw at size
            (elsewhere_wider old.raw mid.raw at (20 * (first.next - n)) at size (omega arith)
            (omega (arith, on, up)) first.only)
            (elsewhere_wider mid.raw new.raw (slot_of base first.next) (20 * (then_more.next - first.next)) at size
            (omega (arith, on)) (omega (arith, on, up))
            (subst (λ (t : ℕ). SameElsewhere mid.raw (slot_of (base_in slots t) first.next)
            (20 * (then_more.next - first.next)) new.raw) first.turn then_more.only));
        turn = then_more.turn ∙ first.turn;
      }

  -- a try that found its slot, and failed before it began
  pub finds_takes : (n : ℕ) (old new : LogState) → FindsNext slots n old new → TakesInTurn slots n 1 old new
  finds_takes n old new h = let still = h.operations in record {
    next = n;
    takes = h.takes;
    on = omega arith;
    few = omega arith;
    programs = omega (arith, still);
    erases = h.erases;
    only = record { same = λ k outside. ap (λ (l : List ℕ). slice_index l k) h.raw };
    turn = ap (turn_of slots) h.raw;
  }

  -- one that found it, and went on
  pub finds_then : (n few : ℕ) (old mid new : LogState) → FindsNext slots n old mid → TakesInTurn slots n few mid new
      → TakesInTurn slots n few old new
  finds_then n few old mid new h after = let still = h.operations in
      takes_then n 0 few few old mid new (omega arith) (record {
        next = n;
        takes = h.takes;
        on = omega arith;
        few = omega arith;
        programs = omega (arith, still);
        erases = h.erases;
        only = record { same = λ k outside. ap (λ (l : List ℕ). slice_index l k) h.raw };
        turn = ap (turn_of slots) h.raw;
      }) after

  -- one that put its record, whole or torn
  pub puts_takes : (n : ℕ) (old mid new : LogState) → FindsNext slots n old mid
      → SameElsewhere mid.raw (slot_of (base_in slots (turn_of slots mid.raw)) n) 20 new.raw
      → turn_of slots new.raw ≡ turn_of slots mid.raw
      → new.flash.operations ≤ mid.flash.operations + 2 → new.flash.erases ≡ mid.flash.erases
      → WillTake slots new (n + 1) → TakesInTurn slots n 1 old new
  puts_takes n old mid new found only turn work erases takes =
      let still = found.operations in
      let at = slot_of (base_in slots (turn_of slots old.raw)) n in record {
        next = n + 1;
        takes = takes;
        on = omega arith;
        few = omega arith;
        programs = omega (arith, still, work);
        erases = erases ∙ found.erases;
        only = elsewhere_wider old.raw new.raw at 20 at (20 * (n + 1 - n)) (omega arith) (omega arith)
            (subst (λ (l : List ℕ). SameElsewhere l (slot_of (base_in slots (turn_of slots l)) n) 20 new.raw)
            found.raw only);
        turn = turn ∙ ap (turn_of slots) found.raw;
      }

module _ {T : Type 0} (pages slots sectors : ℕ) where
  -- a log that has found its pages has passed the slots that aren't free
  pub passed_of : (s : FlashState) (p : PageMap T) → p.ready ≡ true → p.next ≤ slots
      → passed_slots slots (log_value pages slots sectors s p) ≡ p.next
  passed_of s p ready within =
      let free = free_of pages slots sectors p ready in
      ap (λ (b : Bool). if b then slots - free_slots slots p else p.tried) ready ∙ omega (arith, free, within)

  -- its next slot is the first of them
  pub next_is : (s : FlashState) (p : PageMap T) (n : ℕ) → p.ready ≡ true
      → AreFree s.words (base_in slots (turn_of slots s.words)) p.next slots
      → WillTake slots (log_value pages slots sectors s p) n → p.next ≡ n
  next_is s p n ready free takes =
      let is = passed_of s p ready free.within in
      let passed = takes.next.passed in
      let least = takes.next.first p.next free (omega (arith, is)) in
      omega (arith, is, passed, least)

  -- and so it is in pace with it
  pub found_takes : (s : FlashState) (p : PageMap T) (extra : ℕ) → KeepsPace pages slots sectors extra p
      → AreFree s.words (base_in slots (turn_of slots s.words)) p.next slots
      → WillTake slots (log_value pages slots sectors s p) p.next
  found_takes s p extra pace free = record {
    next = subst (λ (n : ℕ). IsNextSlot slots s.words n p.next) (sym (passed_of s p pace.ready free.within))
        (next_behind slots s.words p.next free);
    paced = λ ready. (is_paced_by pages slots sectors extra p pace).0;
  }

  -- one that has yet to find them begins behind those that were tried
  pub tried_takes : (s : FlashState) (p : PageMap T) (n : ℕ) → p.ready ≡ false → IsNextSlot slots s.words p.tried n
      → WillTake slots (log_value pages slots sectors s p) n
  tried_takes s p n unready next = record {
    next = subst (λ (b : Bool). IsNextSlot slots s.words (if b then slots - free_slots slots p else p.tried) n)
        (sym unready) next;
    paced = λ ready. absurd (true≢false (sym ready ∙ unready));
  }

  pub takes_tried : (s : FlashState) (p : PageMap T) (n : ℕ) → p.ready ≡ false
      → WillTake slots (log_value pages slots sectors s p) n → IsNextSlot slots s.words p.tried n
  takes_tried s p n unready takes =
      subst (λ (b : Bool). IsNextSlot slots s.words (if b then slots - free_slots slots p else p.tried) n)
      unready takes.next

  -- it hasn't found them, since a call failed
  pub lost_next : (old new : FlashState) (p q : PageMap T) (n : ℕ) → p.ready ≡ false → q.ready ≡ false
      → q.tried ≡ p.tried → new.words ≡ old.words → new.operations ≡ old.operations → new.erases ≡ old.erases
      → new.faults ≤ old.faults + 1
      → WillTake slots (log_value pages slots sectors old p) n
      → FindsNext slots n (log_value pages slots sectors old p) (log_value pages slots sectors new q)
  lost_next old new p q n unready lost tried words operations erases once takes = record {
    once = once;
    none = λ ready. absurd (true≢false (sym ready ∙ lost));
    raw = words;
    operations = operations;
    erases = erases;
    takes = tried_takes new q n lost (subst (λ (l : List ℕ). IsNextSlot slots l q.tried n) (sym words)
        (subst (λ (t : ℕ). IsNextSlot slots old.words t n) (sym tried) (takes_tried old p n unready takes)));
  }

  -- no step of a move is due
  pub far_stepped : (p : PageMap T) (extra : ℕ) → p.next + lead_of pages sectors < slots
      → KeepsPace pages slots sectors extra p → HasStepped pages slots sectors extra p
  far_stepped p extra far h = let most = steps_most pages slots sectors p in record {
    ready = h.ready;
    room = omega (arith, most, far);
    few = h.few;
    goes_on = h.goes_on;
    passed = h.passed;
  }

  -- and none has copied a page
  pub far_none : (p : PageMap T) (extra : ℕ) → p.next + lead_of pages sectors < slots
      → KeepsPace pages slots sectors extra p → p.copied ≡ 0
  far_none p extra far h = ⊎_elim
      (λ (e : p.copied ≡ 0). e)
      (λ (some : p.copied ≢ 0). let due = h.goes_on (omega (arith, some)) in absurd (omega (arith, due, far)))
      (cases_eq p.copied 0)

  -- the pace of a log that takes a slot
  pub takes_pace : (s : FlashState) (p : PageMap T) (n : ℕ) → p.ready ≡ true
      → WillTake slots (log_value pages slots sectors s p) n → KeepsPace pages slots sectors (extra_slots p) p
  takes_pace s p n ready takes = paced_is pages slots sectors (extra_slots p) p (takes.paced ready) (omega arith)

  -- a log that hasn't found its pages hadn't found them before
  pub was_lost : (p q : PageMap T) → q.ready ≡ false → (p.ready ≡ true → q ≡ p) → p.ready ≡ false
  was_lost p q lost known = by_ready p.ready refl
    where
      by_ready : (b : Bool) → p.ready ≡ b → p.ready ≡ false
      by_ready true is = absurd (true≢false (sym is ∙ sym (ap (λ (z : PageMap T). z.ready) (known is)) ∙ lost))
      by_ready false is = is

  -- It has found them: the next slot is the same, and no page is copied.
  pub found_next : (old mid : FlashState) (p q : PageMap T) (n : ℕ) → q.ready ≡ true → mid.words ≡ old.words
      → mid.operations ≡ old.operations → mid.erases ≡ old.erases → mid.faults ≡ old.faults
      → AreFree old.words (base_in slots (turn_of slots old.words)) q.next slots
      → (p.ready ≡ true → q ≡ p)
      → (p.ready ≡ false → IsNextSlot slots old.words p.tried n → q.next ≡ n)
      → (p.ready ≡ false → lead_of pages sectors < free_slots slots q → KeepsPace pages slots sectors 0 q)
      → n + lead_of pages sectors < slots → WillTake slots (log_value pages slots sectors old p) n
      → FindsNext slots n (log_value pages slots sectors old p) (log_value pages slots sectors mid q) × (q.copied ≡ 0)
  found_next old mid p q n there words operations erases faults free known finds paced far takes = by_ready p.ready refl
    where
      found_by : (extra : ℕ) → q.next ≡ n → KeepsPace pages slots sectors extra q
          → FindsNext slots n (log_value pages slots sectors old p) (log_value pages slots sectors mid q)
          × (q.copied ≡ 0)
      found_by extra next pace = (
        record {
          once = omega (arith, faults);
          none = λ ready. faults;
          raw = words;
          operations = operations;
          erases = erases;
          takes = subst (WillTake slots (log_value pages slots sectors mid q)) next (found_takes mid q extra pace
              (subst (λ (l : List ℕ). AreFree l (base_in slots (turn_of slots l)) q.next slots) (sym words) free));
        },
        far_none q extra (omega (arith, next, far)) pace,
      )

      by_ready : (b : Bool) → p.ready ≡ b
          → FindsNext slots n (log_value pages slots sectors old p) (log_value pages slots sectors mid q)
          × (q.copied ≡ 0)
      by_ready true is = let same = known is in let as_found = ap (λ (z : PageMap T). z.next) same in
          found_by (extra_slots p)
          (as_found ∙ next_is old p n is
          (subst (λ (k : ℕ). AreFree old.words (base_in slots (turn_of slots old.words)) k slots) as_found free) takes)
          (subst (KeepsPace pages slots sectors (extra_slots p)) (sym same) (takes_pace old p n is takes))
      by_ready false is = let next = finds is (takes_tried old p n is takes) in
          let some = free_of pages slots sectors q there in
          found_by 0 next (paced is (omega (arith, some, next, far)))

  -- what comes before the record changes nothing
  pub still_next : (old mid new : FlashState) (p q t : PageMap T) (n : ℕ) → t ≡ q → new ≡ mid
      → FindsNext slots n (log_value pages slots sectors old p) (log_value pages slots sectors mid q)
      → FindsNext slots n (log_value pages slots sectors old p) (log_value pages slots sectors new t)
  still_next old mid new p q t n place flash found =
      subst (λ (z : PageMap T). FindsNext slots n (log_value pages slots sectors old p)
      (log_value pages slots sectors new z)) (sym place)
      (subst (λ (f : FlashState). FindsNext slots n (log_value pages slots sectors old p)
      (log_value pages slots sectors f q)) (sym flash) found)

  -- The record of a try is in its slot, whole or torn.
  pub put_takes : (old mid new : FlashState) (p q t : PageMap T) (n base : ℕ)
      → FindsNext slots n (log_value pages slots sectors old p) (log_value pages slots sectors mid q)
      → q.next ≡ n → base ≡ base_in slots (turn_of slots mid.words)
      → SameElsewhere mid.words (slot_of base q.next) 20 new.words → turn_of slots new.words ≡ turn_of slots mid.words
      → AreFree new.words base (q.next + 1) slots → new.operations ≤ mid.operations + 2 → new.erases ≡ mid.erases
      → (AreFree new.words (base_in slots (turn_of slots new.words)) (q.next + 1) slots
      → WillTake slots (log_value pages slots sectors new t) (q.next + 1))
      → TakesInTurn slots n 1 (log_value pages slots sectors old p) (log_value pages slots sectors new t)
  put_takes old mid new p q t n base found next home only turn free work erases takes =
      let here : base ≡ base_in slots (turn_of slots new.words) = home ∙ sym (ap (base_in slots) turn) in
      puts_takes slots n (log_value pages slots sectors old p) (log_value pages slots sectors mid q)
      (log_value pages slots sectors new t) found
      (subst (λ (k : ℕ). SameElsewhere mid.words (slot_of (base_in slots (turn_of slots mid.words)) k) 20 new.words)
      next (subst (λ (b : ℕ). SameElsewhere mid.words (slot_of b q.next) 20 new.words) home only)) turn work erases
      (subst (λ (k : ℕ). WillTake slots (log_value pages slots sectors new t) (k + 1)) next
      (takes (subst (λ (b : ℕ). AreFree new.words b (q.next + 1) slots) here free)))

  -- a log that has found its pages has found the slot of its next try
  pub found_still : (s : FlashState) (p : PageMap T) (extra : ℕ) → KeepsPace pages slots sectors extra p
      → AreFree s.words (base_in slots (turn_of slots s.words)) p.next slots
      → FindsNext slots p.next (log_value pages slots sectors s p) (log_value pages slots sectors s p)
  found_still s p extra pace free = record {
    once = omega arith;
    none = λ ready. refl;
    raw = refl;
    operations = refl;
    erases = refl;
    takes = found_takes s p extra pace free;
  }

  -- A try finds its slot again, with the slots of a whole move behind it: so it is in pace, however far that is.
  pub finds_again : (old : FlashState) (p q : PageMap T) (n : ℕ) → q.ready ≡ true
      → AreFree old.words (base_in slots (turn_of slots old.words)) q.next slots
      → (p.ready ≡ true → q ≡ p) → q.tried ≡ p.tried
      → (p.ready ≡ false → IsNextSlot slots old.words p.tried n → q.next ≡ n)
      → (p.ready ≡ false → 0 < q.copied + q.behind → slots ≤ q.next + lead_of pages sectors)
      → n + move_steps_of pages sectors < slots → WillTake slots (log_value pages slots sectors old p) n
      → (q.next ≡ n) × KeepsPace pages slots sectors q.behind q
  finds_again old p q n there free known tried finds begun far takes = by_ready p.ready refl
    where
      by_ready : (b : Bool) → p.ready ≡ b → (q.next ≡ n) × KeepsPace pages slots sectors q.behind q
      by_ready true is =
          let same = known is in
          let as_found = ap (λ (z : PageMap T). z.next) same in
          let given : extra_slots p ≡ p.behind - copies_most p.copied 0 =
          ap (λ (b : Bool). if b then p.behind - copies_most p.copied 0 else 0) is in (
            as_found ∙ next_is old p n is
                (subst (λ (k : ℕ). AreFree old.words (base_in slots (turn_of slots old.words)) k slots) as_found free)
                takes,
            subst (λ (z : PageMap T). KeepsPace pages slots sectors z.behind z) (sym same)
                (paced_is pages slots sectors p.behind p (takes.paced is) (omega (arith, given))),
          )
      by_ready false is =
          let next = finds is (takes_tried old p n is takes) in
          let passed = (takes_tried old p n is takes).passed in
          let most = steps_most pages slots sectors q in (
            next,
            record {
              ready = there;
              room = omega (arith, most, far, next);
              few = omega arith;
              goes_on = begun is;
              passed = omega (arith, passed, tried, next);
            },
          )

  -- its record goes there
  pub finds_own : (old mid : FlashState) (p q : PageMap T) (n extra : ℕ) → mid.words ≡ old.words
      → mid.operations ≡ old.operations → mid.erases ≡ old.erases → mid.faults ≡ old.faults → q.next ≡ n
      → KeepsPace pages slots sectors extra q
      → AreFree mid.words (base_in slots (turn_of slots mid.words)) q.next slots
      → FindsNext slots n (log_value pages slots sectors old p) (log_value pages slots sectors mid q)
  finds_own old mid p q n extra words operations erases faults next pace free = record {
    once = omega (arith, faults);
    none = λ ready. faults;
    raw = words;
    operations = operations;
    erases = erases;
    takes = subst (WillTake slots (log_value pages slots sectors mid q)) next (found_takes mid q extra pace free);
  }

  -- a try that failed met one Fault
  pub put_once : (old mid new : FlashState) (p q : PageMap T) (n : ℕ) → q.ready ≡ true
      → FindsNext slots n (log_value pages slots sectors old p) (log_value pages slots sectors mid q)
      → new.faults ≤ mid.faults + 1 → new.faults ≤ old.faults + 1
  put_once old mid new p q n ready found more = let none = found.none ready in omega (arith, none, more)
