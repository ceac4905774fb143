-- Laws of where the next write begins: no slot is passed over but those of tries.
use Rattle.std.specs.Prelude.{◌≡◌, ◌≤◌, ◌+◌, ◌-◌, ◌&&◌, ◌||◌, ℕ, Bool, true, false, not, List, if◌then◌else◌}
use Rattle.std.specs.Prelude.{nat_eq, nat_le}
use Rattle.std.proofs.Common.{refl, sym, ◌∙◌, ap, subst, arith}
use Rattle.flash_moves.specs.declared.place.PageMap.{PageMap}
use Rattle.flash_device.specs.FlashCalls.{FlashState}
use Rattle.flash_device.specs.FlashLogs.{base_in, turn_of}
use Rattle.flash_device.specs.PageTables.{AreFree}
use Rattle.flash_area.specs.Spares.{copies_most}
use Rattle.flash_moves.specs.Paces.{KeepsHome, LogState, StaysInArea, free_slots, is_paced, lead_of, steps_left}
use Rattle.flash_moves.specs.Places.{log_value, state_of}
use Rattle.flash_moves.specs.laws.Pacing.{free_of}
use Rattle.flash_log.specs.SlotsInTurn.{BeginsBy, IsNextSlot, SameNext, TakesInTurn, passed_slots}
use Rattle.flash_log.specs.laws.TakingTurns.{next_behind, passed_of}

-- it may begin later
pub begins_later : (slots : ℕ) (l : LogState) (n m : ℕ) → n ≤ m → BeginsBy slots l n → BeginsBy slots l m
begins_later slots l n m le begins k is = let most = begins k is in omega (arith, most, le)

-- A slot is free with all behind it, and none behind it is passed.
pub begins_free : (slots : ℕ) (l : LogState) (t n : ℕ) → AreFree l.raw (base_in slots (turn_of slots l.raw)) t slots
    → passed_slots slots l ≤ t → t ≤ n → BeginsBy slots l n
begins_free slots l t n free passed most k is = let first = is.first t free passed in omega (arith, first, most)

-- the slots that tries take in turn
pub begins_behind : (slots n most after : ℕ) (old new : LogState) → n + most ≤ after
    → TakesInTurn slots n most old new → BeginsBy slots new after
begins_behind slots n most after old new le h k is =
    let first = is.first h.next h.takes.next.free h.takes.next.passed in
    let few = h.few in
    omega (arith, first, few, le)

module _ {T : Type 0} (pages slots sectors : ℕ) where
  -- so many slots are passed, whether the log knows its pages or not
  passed_most : (s : FlashState) (p : PageMap T) (t : ℕ) → (p.ready ≡ true → p.next ≤ t)
      → (p.ready ≡ false → p.tried ≤ t) → passed_slots slots (log_value pages slots sectors s p) ≤ t
  passed_most s p t known lost = by_ready p.ready refl
    where
      by_ready : (b : Bool) → p.ready ≡ b → passed_slots slots (log_value pages slots sectors s p) ≤ t
      by_ready true is =
          let free = free_of pages slots sectors p is in
          let passed : passed_slots slots (log_value pages slots sectors s p) ≡ slots - free_slots slots p =
          ap (λ (b : Bool). if b then slots - free_slots slots p else p.tried) is in
          let next = known is in
          omega (arith, passed, free, next)
      by_ready false is =
          let passed : passed_slots slots (log_value pages slots sectors s p) ≡ p.tried =
          ap (λ (b : Bool). if b then slots - free_slots slots p else p.tried) is in
          let tried = lost is in
          omega (arith, passed, tried)

  -- where no slot behind one is passed
  pub begins_at : (s : FlashState) (p : PageMap T) (t n : ℕ)
      → AreFree s.words (base_in slots (turn_of slots s.words)) t slots → (p.ready ≡ true → p.next ≤ t)
      → (p.ready ≡ false → p.tried ≤ t) → t ≤ n → BeginsBy slots (log_value pages slots sectors s p) n
  begins_at s p t n free known lost most =
      begins_free slots (log_value pages slots sectors s p) t n free (passed_most s p t known lost) most

  -- a log that knows its pages begins at its next slot
  pub begins_next : (s : FlashState) (p : PageMap T) (n : ℕ) → p.ready ≡ true
      → AreFree s.words (base_in slots (turn_of slots s.words)) p.next slots
      → BeginsBy slots (log_value pages slots sectors s p) n → p.next ≤ n
  begins_next s p n ready free begins = begins p.next
      (subst (λ (k : ℕ). IsNextSlot slots s.words k p.next)
      (sym (passed_of pages slots sectors s p ready free.within)) (next_behind slots s.words p.next free))

  -- one that doesn't begins behind the slots that were tried
  pub begins_tried : (s : FlashState) (p : PageMap T) (n k : ℕ) → p.ready ≡ false
      → BeginsBy slots (log_value pages slots sectors s p) n → IsNextSlot slots s.words p.tried k → k ≤ n
  begins_tried s p n k unready begins is = begins k
      (subst (λ (b : Bool). IsNextSlot slots s.words (if b then slots - free_slots slots p else p.tried) k)
      (sym unready) is)

  -- A search for the pages that failed changes nothing.
  pub begins_lost : (old new : FlashState) (p q : PageMap T) (n : ℕ) → p.ready ≡ false → q.ready ≡ false
      → q.tried ≡ p.tried → new.words ≡ old.words → BeginsBy slots (log_value pages slots sectors old p) n
      → BeginsBy slots (log_value pages slots sectors new q) n
  begins_lost old new p q n unready lost tried words begins k is = begins_tried old p n k unready begins
      (subst (λ (l : List ℕ). IsNextSlot slots l p.tried k) words
      (subst (λ (t : ℕ). IsNextSlot slots new.words t k) tried
      (subst (λ (b : Bool). IsNextSlot slots new.words (if b then slots - free_slots slots q else q.tried) k) lost is)))

  -- Calls that only read leave the next slot.
  pub next_same : (old new : FlashState) (p : PageMap T) → new.words ≡ old.words
      → SameNext slots (log_value pages slots sectors old p) (log_value pages slots sectors new p)
  next_same old new p words n =
      let passed = passed_slots slots (log_value pages slots sectors old p) in (
        subst (λ (l : List ℕ). IsNextSlot slots l passed n) (sym words),
        subst (λ (l : List ℕ). IsNextSlot slots l passed n) words,
      )

  -- So does a search that failed.
  pub next_lost : (old new : FlashState) (p q : PageMap T) → p.ready ≡ false → q.ready ≡ false
      → q.tried ≡ p.tried → new.words ≡ old.words
      → SameNext slots (log_value pages slots sectors old p) (log_value pages slots sectors new q)
  next_lost old new p q unready lost tried words n =
      let was : passed_slots slots (log_value pages slots sectors old p) ≡ p.tried =
      ap (λ (b : Bool). if b then slots - free_slots slots p else p.tried) unready in
      let is : passed_slots slots (log_value pages slots sectors new q) ≡ q.tried =
      ap (λ (b : Bool). if b then slots - free_slots slots q else q.tried) lost in
      let same = was ∙ sym tried ∙ sym is in (
        λ (next : IsNextSlot slots old.words (passed_slots slots (log_value pages slots sectors old p)) n).
            subst (λ (l : List ℕ). IsNextSlot slots l (passed_slots slots (log_value pages slots sectors new q)) n)
            (sym words) (subst (λ (k : ℕ). IsNextSlot slots old.words k n) same next),
        λ (next : IsNextSlot slots new.words (passed_slots slots (log_value pages slots sectors new q)) n).
            subst (λ (l : List ℕ). IsNextSlot slots l (passed_slots slots (log_value pages slots sectors old p)) n)
            words (subst (λ (k : ℕ). IsNextSlot slots new.words k n) (sym same) next),
      )

  -- It leaves all that contracts know, but the flash.
  pub waits_same : (old new : FlashState) (p q : PageMap T) → p.ready ≡ false → q.ready ≡ false
      → q.tried ≡ p.tried → new.words ≡ old.words
      → log_value pages slots sectors new q
      ≡ record (log_value pages slots sectors old p) { flash = state_of pages slots new }
  unfolding is_paced
  waits_same old new p q unready lost tried words =
      ap (λ (b : Bool). known_by b q q.tried new.words) lost
      ∙ ap (λ (t : ℕ). known_by false q t new.words) tried
      ∙ ap (λ (l : List ℕ). known_by false p p.tried l) words
      ∙ sym (ap (λ (b : Bool). known_by b p p.tried old.words) unready)
    where
      -- what the log knows, by whether it knows its pages
      known_by : Bool → PageMap T → ℕ → List ℕ → LogState
      known_by b x t l = record {
        flash = state_of pages slots new;
        paced = b && (nat_le (steps_left pages sectors x + x.next) slots
            && ((nat_eq (x.copied + x.behind) 0 || nat_le slots (x.next + lead_of pages sectors))
            && nat_le x.tried x.next));
        extra = if b then x.behind - copies_most x.copied 0 else 0;
        ready = b;
        tried = t;
        fresh = not b && nat_eq t 0;
        free = if b then slots - x.next else 0;
        left = if b then steps_left pages sectors x else 0;
        raw = l;
      }

  -- So does a search that found the pages.
  pub next_found : (old new : FlashState) (p q : PageMap T) → p.ready ≡ false → q.ready ≡ true
      → new.words ≡ old.words → IsNextSlot slots old.words p.tried q.next
      → SameNext slots (log_value pages slots sectors old p) (log_value pages slots sectors new q)
  next_found old new p q unready ready words finds n =
      let was : passed_slots slots (log_value pages slots sectors old p) ≡ p.tried =
      ap (λ (b : Bool). if b then slots - free_slots slots p else p.tried) unready in
      let is = passed_of pages slots sectors new q ready finds.free.within in
      let behind : IsNextSlot slots new.words q.next q.next =
      subst (λ (l : List ℕ). IsNextSlot slots l q.next q.next) (sym words)
      (next_behind slots old.words q.next finds.free) in (
        λ (next : IsNextSlot slots old.words (passed_slots slots (log_value pages slots sectors old p)) n).
            let here : IsNextSlot slots old.words p.tried n =
            subst (λ (k : ℕ). IsNextSlot slots old.words k n) was next in
            let less = here.first q.next finds.free finds.passed in
            let more = finds.first n here.free here.passed in
            subst (λ (k : ℕ). IsNextSlot slots new.words (passed_slots slots (log_value pages slots sectors new q)) k)
            (omega (arith, less, more)) (subst (λ (k : ℕ). IsNextSlot slots new.words k q.next) (sym is) behind),
        λ (next : IsNextSlot slots new.words (passed_slots slots (log_value pages slots sectors new q)) n).
            let here : IsNextSlot slots new.words q.next n =
            subst (λ (k : ℕ). IsNextSlot slots new.words k n) is next in
            let less = here.first q.next behind.free (omega arith) in
            let more = here.passed in
            subst (λ (k : ℕ). IsNextSlot slots old.words (passed_slots slots (log_value pages slots sectors old p)) k)
            (omega (arith, less, more)) (subst (λ (k : ℕ). IsNextSlot slots old.words k q.next) (sym was) finds),
      )

  -- One that found them found the slot.
  pub begins_found : (s : FlashState) (p q : PageMap T) (n : ℕ)
      → AreFree s.words (base_in slots (turn_of slots s.words)) q.next slots → (p.ready ≡ true → q ≡ p)
      → (p.ready ≡ false → IsNextSlot slots s.words p.tried q.next)
      → BeginsBy slots (log_value pages slots sectors s p) n → q.next ≤ n
  begins_found s p q n free known finds begins = by_ready p.ready refl
    where
      by_ready : (b : Bool) → p.ready ≡ b → q.next ≤ n
      by_ready true is =
          let same : q.next ≡ p.next = ap (λ (z : PageMap T). z.next) (known is) in
          let next = begins_next s p n is
          (subst (λ (k : ℕ). AreFree s.words (base_in slots (turn_of slots s.words)) k slots) same free) begins in
          omega (arith, same, next)
      by_ready false is = begins_tried s p n q.next is begins (finds is)

  -- A step that leaves the pages in their area passes no slot.
  pub begins_on : (old new : FlashState) (p q : PageMap T) (n : ℕ)
      → AreFree old.words (base_in slots (turn_of slots old.words)) p.next slots → p.tried ≤ p.next → p.next ≤ n
      → KeepsHome slots old.words new.words → StaysInArea slots old.words new.words → q.tried ≤ p.tried
      → (q.ready ≡ true → q.next ≡ p.next) → BeginsBy slots (log_value pages slots sectors new q) n
  begins_on old new p q n free passed most home stays tried next = begins_at new q p.next n
      (subst (λ (b : ℕ). AreFree new.words b p.next slots) (sym stays) (home p.next free))
      (λ ready. let same = next ready in omega (arith, same))
      (λ unready. omega (arith, tried, passed)) most

  -- the same behind what finds the pages
  pub begins_step : (old found stepped : FlashState) (q s : PageMap T) (n : ℕ) → q.ready ≡ true
      → AreFree found.words (base_in slots (turn_of slots found.words)) q.next slots → q.tried ≤ q.next
      → turn_of slots found.words ≡ turn_of slots old.words → KeepsHome slots found.words stepped.words
      → StaysInArea slots old.words stepped.words → s.tried ≤ q.tried
      → (s.ready ≡ true → StaysInArea slots found.words stepped.words → s.next ≡ q.next)
      → BeginsBy slots (log_value pages slots sectors found q) n
      → BeginsBy slots (log_value pages slots sectors stepped s) n
  begins_step old found stepped q s n ready free passed turn home stays tried next begins =
      let still : StaysInArea slots found.words stepped.words = stays ∙ sym (ap (base_in slots) turn) in
      begins_on found stepped q s n free passed (begins_next found q n ready free begins) home still tried
      (λ there. next there still)
