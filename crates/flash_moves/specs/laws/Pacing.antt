-- Laws of the pace of a move.
use Rattle.std.specs.Prelude.{◌≡◌, ◌≢◌, ◌⊎◌, ◌<◌, ◌≤◌, ◌+◌, ◌-◌, ℕ, Bool, true, false, List}
use Rattle.std.specs.Prelude.{◌&&◌, ◌||◌, nat_eq, nat_le, not, if◌then◌else◌, Result, Ok, Err, IsOk, IsErr}
use Rattle.nvm_board.specs.declared.board.DeviceErr.{DeviceErr}
use Rattle.std.proofs.Common.{refl, sym, ◌∙◌, ap, inl, inr, ⊎_elim, subst, arith, true≢false}
use Rattle.std.proofs.Math.Bool.{or-true}
use Rattle.std.proofs.lemmas.Bool.{cases_eq, eq-eqb, eqb-true, le-leb, leb-true, ne_eqb}
use Rattle.flash_moves.specs.declared.place.PageMap.{PageMap}
use Rattle.flash_device.specs.declared.layout.TheConstants.{STEP_PAGES}
use Rattle.flash_device.specs.FlashBlocks.{steps_of}
use Rattle.flash_device.specs.FlashCalls.{Costs, FlashState, KeepsPower}
use Rattle.flash_device.specs.FlashLogs.{base_in, turn_of, words_of}
use Rattle.flash_device.specs.PageTables.{AreFree}
use Rattle.flash_moves.specs.Paces.{HasNoStepDue, HasStepped, HasMoved, IsBrief, IsCaughtUp, IsInPace, IsInPaceFrom}
use Rattle.flash_moves.specs.Paces.{IsRoomy, KeepsPace, MovesFound, MovesWell, Pauses, StandsSo, TakesSlot}
use Rattle.flash_moves.specs.Paces.{WillKeepPace}
use Rattle.flash_moves.specs.Paces.{extra_of, extra_slots, failed_since, free_slots, is_fresh, is_paced, lead_of}
use Rattle.flash_moves.specs.Paces.{known_steps, lost_since, move_steps_of, steps_left}
use Rattle.flash_moves.specs.Places.{IsLog, IsPlaceOf, state_of}
use Rattle.flash_area.specs.Spares.{IsSpare, KeepsSteps, StepsFit, copies_most}

pub both : (a b : Bool) → (a && b) ≡ true → (a ≡ true) × (b ≡ true)
both true b h = (refl, h)
both false b h = absurd (true≢false (sym h))

joined : (a b : Bool) → a ≡ true → b ≡ true → (a && b) ≡ true
joined a b x y = ap (λ (c : Bool). c && b) x ∙ y

-- a call that failed returned no value
pub failed_not_ok : {T E : Type 0} (r : Result T E) → IsErr r → IsOk r → ⊥
failed_not_ok (Ok x) failed ok = absurd (true≢false (sym failed))
failed_not_ok (Err e) failed ok = absurd (true≢false (sym ok))

-- what a short call and others without an erase come to
pub short_then : (most n more : ℕ) (old mid new : FlashState) → most + n ≤ more → IsBrief most 2 old mid
    → new.operations ≤ mid.operations + n → mid.faults ≤ new.faults → new.erases ≡ mid.erases
    → IsBrief more 2 old new
short_then most n more old mid new fits short operations faults erases =
    let a = short.work.operations in let b = short.erases in record {
      work = record { operations = omega (arith, a, operations, faults, fits) };
      erases = omega (arith, b, erases);
    }

-- the same of what a log's value shows
brief_view : (pages slots most more : ℕ) (old new : FlashState) → IsBrief most more old new
    → IsBrief most more (state_of pages slots old) (state_of pages slots new)
brief_view pages slots most more old new short = record {
  work = record { operations = short.work.operations };
  erases = short.erases;
}

-- a slot fewer is needed where one sector more is erased
erased_room : (steps slots sectors w erased copied next : ℕ) → erased < sectors
    → w + (sectors - erased) + (steps - copied) + next ≤ slots
    → w + (sectors - (erased + 1)) + (steps - copied) + next < slots
erased_room steps slots sectors w erased copied next more room = omega (arith, more, room)

-- and where one step more has copied pages
copied_room : (steps slots sectors w erased copied next : ℕ) → copied + 1 < steps
    → w + (sectors - erased) + (steps - copied) + next ≤ slots
    → w + (sectors - erased) + (steps - (copied + 1)) + next < slots
copied_room steps slots sectors w erased copied next more room = omega (arith, more, room)

module _ {T : Type 0} (pages slots sectors : ℕ) where
  -- a move has no more steps than its lead
  pub steps_most : (p : PageMap T) → steps_left pages sectors p ≤ move_steps_of pages sectors
  steps_most p = by_test (nat_eq p.turn 1)
    where
      by_test : (b : Bool) → (if b then 1 else 0) + (sectors - p.erased) + (steps_of pages - p.copied)
          ≤ move_steps_of pages sectors
      by_test true = omega arith
      by_test false = omega arith

  -- no step is due, and there is room: what was copied again is all that a write's making ready did
  pub none_due : (old found new : FlashState) (p q t : PageMap T) → q.next ≡ p.next → Costs 2 2 old found
      → found.erases ≡ old.erases → (p.copied ≡ 0 → found.operations ≡ old.operations) → t ≡ q → new ≡ found
      → HasNoStepDue old new p t
  none_due old found new p q t next work erases none place same =
      subst (λ (z : PageMap T). HasNoStepDue old new p z) (sym place)
      (subst (λ (f : FlashState). HasNoStepDue old f p q) (sym same) (record {
        operations = λ kept. let most = work.operations in omega (arith, most, kept);
        none = none;
        erases = erases;
        next = next;
      }))

  -- the log has yet to look
  pub fresh_is : (p : PageMap T) → is_fresh p ≡ true → (p.ready ≡ false) × (p.tried ≡ 0)
  fresh_is p h =
      let parts = both (not p.ready) _ h in
      (not_true p.ready parts.0, eqb-true p.tried 0 parts.1)
    where
      not_true : (b : Bool) → not b ≡ true → b ≡ false
      not_true true e = absurd (true≢false (sym e))
      not_true false e = refl

  -- a log that knows free slots has found its pages
  pub free_known : (p : PageMap T) (n : ℕ) → n < free_slots slots p → (p.ready ≡ true) × (p.next + n < slots)
  free_known p n more = by_ready p.ready refl more
    where
      by_ready : (b : Bool) → p.ready ≡ b → n < (if b then slots - p.next else 0)
          → (p.ready ≡ true) × (p.next + n < slots)
      by_ready true is some = (is, omega (arith, some))
      by_ready false is some = absurd (omega (arith, some))

  -- so many slots are free
  pub free_of : (p : PageMap T) → p.ready ≡ true → free_slots slots p ≡ slots - p.next
  free_of p ready = ap (λ (b : Bool). if b then slots - p.next else 0) ready

  -- an area has no more of them
  pub free_within : (p : PageMap T) → free_slots slots p ≤ slots
  free_within p = by_ready p.ready
    where
      by_ready : (b : Bool) → (if b then slots - p.next else 0) ≤ slots
      by_ready true = omega arith
      by_ready false = omega arith

  -- so where none was tried, none is among them
  pub none_tried : (p : PageMap T) → p.tried ≡ 0 → p.tried + free_slots slots p ≤ slots
  none_tried p none = let most = free_within p in omega (arith, none, most)

  -- no slot behind those of the area was tried
  pub tried_within : (p : PageMap T) → p.tried + free_slots slots p ≤ slots → p.tried ≤ slots
  tried_within p passed = omega (arith, passed)

  -- none was that is known to be free
  pub tried_next : (p : PageMap T) → p.ready ≡ true → p.next ≤ slots → p.tried + free_slots slots p ≤ slots
      → p.tried ≤ p.next
  tried_next p ready within passed = let free = free_of p ready in omega (arith, passed, free, within)

  -- so many steps are left
  pub left_of : (p : PageMap T) → p.ready ≡ true → known_steps pages sectors p ≡ steps_left pages sectors p
  left_of p ready = ap (λ (b : Bool). if b then steps_left pages sectors p else 0) ready

  -- the pages stay where they are found, and no free slot is taken
  pub free_same : (p q : PageMap T) → (p.ready ≡ true → q ≡ p) → free_slots slots p ≤ free_slots slots q
  free_same p q known = ⊎_elim
      (λ (none : free_slots slots p ≡ 0). omega (arith, none))
      (λ (n : free_slots slots p ≢ 0).
      let some : 0 < free_slots slots p = omega (arith, n) in
      let same : free_slots slots q ≡ free_slots slots p =
      ap (λ (r : PageMap T). free_slots slots r) (known (free_known p 0 some).0) in
      omega (arith, same))
      (cases_eq (free_slots slots p) 0)

-- what making ready comes to before room is made
pub ready_brief : (first found stepped : FlashState) → Costs 2 2 first found → found.erases ≡ first.erases
    → Costs 33 2 found stepped → stepped.erases ≤ found.erases + 1 → IsBrief 35 2 first stepped
ready_brief first found stepped found_work found_erases step_work step_erases =
    let early = found_work.operations in
    let work = step_work.operations in record {
      work = record { operations = omega (arith, early, work) };
      erases = omega (arith, found_erases, step_erases);
    }

module _ (pages slots sectors : ℕ) (start : ℕ → ℕ) (m : List ℕ) where
  -- more may be given up
  pub from_more : (extra more tried : ℕ) → extra ≤ more → IsInPaceFrom pages slots sectors start m extra tried
      → IsInPaceFrom pages slots sectors start m more tried
  from_more extra more tried le is = let few = is.pace.few in record {
    pace = record {
      erased = is.pace.erased;
      copied = is.pace.copied;
      behind = is.pace.behind;
      older = is.pace.older;
      next = is.pace.next;
      spare = is.pace.spare;
      free = is.pace.free;
      room = is.pace.room;
      few = omega (arith, few, le);
    };
    passed = is.passed;
  }

module _ {T : Type 0} (pages slots sectors : ℕ) where
  pub caught_more : (extra more : ℕ) (p : PageMap T) → extra ≤ more → IsCaughtUp pages slots sectors extra p
      → IsCaughtUp pages slots sectors more p
  caught_more extra more p le h = record {
    ready = h.ready;
    room = h.room;
    few = let few = h.few in omega (arith, few, le);
    goes_on = h.goes_on;
    passed = h.passed;
  }

  pub stepped_more : (extra more : ℕ) (p : PageMap T) → extra ≤ more → HasStepped pages slots sectors extra p
      → HasStepped pages slots sectors more p
  stepped_more extra more p le h = record {
    ready = h.ready;
    room = h.room;
    few = let few = h.few in omega (arith, few, le);
    goes_on = h.goes_on;
    passed = h.passed;
  }

  pub paced_more : (extra more : ℕ) (p : PageMap T) → extra ≤ more → KeepsPace pages slots sectors extra p
      → KeepsPace pages slots sectors more p
  paced_more extra more p le h = record {
    ready = h.ready;
    room = h.room;
    few = let few = h.few in omega (arith, few, le);
    goes_on = h.goes_on;
    passed = h.passed;
  }

  -- behind a step the log is in pace
  pub stepped_paced : (extra : ℕ) (p : PageMap T) → HasStepped pages slots sectors extra p
      → KeepsPace pages slots sectors extra p
  stepped_paced extra p h = record {
    ready = h.ready;
    room = let room = h.room in omega (arith, room);
    few = h.few;
    goes_on = h.goes_on;
    passed = h.passed;
  }

  -- a place that is found stands as it is
  pub found_so : (start : ℕ → ℕ) (m : List ℕ) (extra : ℕ) (p : PageMap T) (so : Type 0) → p.ready ≡ true
      → StandsSo pages slots sectors start m extra p so → so
  found_so start m extra p so ready = ⊎_elim
      (λ (z : so). z)
      (λ (z : (p.ready ≡ false) × IsInPaceFrom pages slots sectors start m extra p.tried).
      absurd (true≢false (sym ready ∙ z.0)))

  -- one that is not found is in pace by what the flash holds
  pub lost_so : (start : ℕ → ℕ) (m : List ℕ) (extra : ℕ) (p : PageMap T) (so : Type 0) → p.ready ≡ false
      → (so → p.ready ≡ true) → StandsSo pages slots sectors start m extra p so
      → IsInPaceFrom pages slots sectors start m extra p.tried
  lost_so start m extra p so unready is = ⊎_elim
      (λ (z : so). absurd (true≢false (sym (is z) ∙ unready)))
      (λ (z : (p.ready ≡ false) × IsInPaceFrom pages slots sectors start m extra p.tried). z.1)

  pub stands_more : {so then_so : Type 0} (start : ℕ → ℕ) (m : List ℕ) (extra more : ℕ) (p : PageMap T) → extra ≤ more
      → (so → then_so) → StandsSo pages slots sectors start m extra p so
      → StandsSo pages slots sectors start m more p then_so
  stands_more {so} start m extra more p le goes = ⊎_elim
      (λ (z : so). inl (goes z))
      (λ (z : (p.ready ≡ false) × IsInPaceFrom pages slots sectors start m extra p.tried).
      inr (z.0, from_more pages slots sectors start m extra more p.tried le z.1))

module _ {T : Type 0} (pages slots sectors extra : ℕ) where
  -- the test of the pace decides it, with the slots that were given up
  pub paced_is : (p : PageMap T) → is_paced pages slots sectors p ≡ true → extra_slots p ≤ extra
      → KeepsPace pages slots sectors extra p
  unfolding is_paced
  paced_is p h fits =
      let one = both p.ready _ h in
      let two = both (nat_le (steps_left pages sectors p + p.next) slots) _ one.1 in
      let last = both (nat_eq (p.copied + p.behind) 0 || nat_le slots (p.next + lead_of pages sectors)) _ two.1 in
      let given : extra_slots p ≡ p.behind - copies_most p.copied 0 =
      ap (λ (b : Bool). if b then p.behind - copies_most p.copied 0 else 0) one.0 in record {
        ready = one.0;
        room = leb-true (steps_left pages sectors p + p.next) slots two.0;
        few = omega (arith, fits, given);
        goes_on = λ some.
            let none : nat_eq (p.copied + p.behind) 0 ≡ false =
            ne_eqb (p.copied + p.behind) 0 (λ e. absurd (omega (arith, e, some))) in
            leb-true slots (p.next + lead_of pages sectors)
            (ap (λ (b : Bool). b || nat_le slots (p.next + lead_of pages sectors)) (sym none) ∙ last.0);
        passed = leb-true p.tried p.next last.1;
      }

  pub is_paced_by : (p : PageMap T) → KeepsPace pages slots sectors extra p
      → (is_paced pages slots sectors p ≡ true) × (extra_slots p ≤ extra)
  unfolding is_paced
  is_paced_by p h =
      let last = nat_le slots (p.next + lead_of pages sectors) in
      let taken = p.copied + p.behind in
      let goes_on : (nat_eq taken 0 || last) ≡ true = ⊎_elim
      (λ (e : taken ≡ 0). ap (λ (b : Bool). b || last) (eq-eqb taken 0 e))
      (λ (n : taken ≢ 0).
      let some : 0 < taken = omega (arith, n) in
      ap (λ (b : Bool). nat_eq taken 0 || b) (le-leb slots (p.next + lead_of pages sectors) (h.goes_on some))
      ∙ or-true (nat_eq taken 0))
      (cases_eq taken 0) in
      let given : extra_slots p ≡ p.behind - copies_most p.copied 0 =
      ap (λ (b : Bool). if b then p.behind - copies_most p.copied 0 else 0) h.ready in
      let few = h.few in (
        joined _ _ h.ready (joined _ _ (le-leb (steps_left pages sectors p + p.next) slots h.room)
            (joined _ _ goes_on (le-leb p.tried p.next h.passed))),
        omega (arith, few, given),
      )

  -- while a record is due, the area has room
  pub stepped_room : (p : PageMap T) → HasStepped pages slots sectors extra p → p.next < slots
  stepped_room p h = let room = h.room in omega (arith, room)

  -- the other area has room for a step
  pub paced_behind : (p : PageMap T) → IsRoomy pages slots sectors extra → p.copied < steps_of pages
      → IsCaughtUp pages slots sectors extra p → p.behind + STEP_PAGES < pages + steps_of pages + extra
  paced_behind p roomy more h = let few = h.few in omega (arith, few, more)

  -- behind a move
  pub stepped_fresh : (p : PageMap T) (next : ℕ) → IsRoomy pages slots sectors extra
      → next < pages + steps_of pages + extra
      → HasMoved p next → HasStepped pages slots sectors extra p
  stepped_fresh p next roomy below fresh =
      let most = steps_most pages slots sectors p in
      let free = fresh.free in
      let tried = fresh.tried in
      let copied = fresh.copied in
      let behind = fresh.behind in record {
        ready = fresh.ready;
        room = omega (arith, most, free, below, roomy);
        few = omega (arith, behind);
        goes_on = λ some. absurd (omega (arith, some, copied, behind));
        passed = omega (arith, tried);
      }

  -- no step is due
  pub stepped_none : (p : PageMap T) → p.next + lead_of pages sectors < slots → IsCaughtUp pages slots sectors extra p
      → HasStepped pages slots sectors extra p
  stepped_none p due h =
      let most = steps_most pages slots sectors p in
      let few = h.few in
      let none : p.copied + p.behind ≡ 0 = ⊎_elim
      (λ (e : p.copied + p.behind ≡ 0). e)
      (λ (n : p.copied + p.behind ≢ 0).
      let some : 0 < p.copied + p.behind = omega (arith, n) in
      let ends = h.goes_on some in absurd (omega (arith, ends, due)))
      (cases_eq (p.copied + p.behind) 0) in record {
        ready = h.ready;
        room = omega (arith, most, due);
        few = omega (arith, few, none);
        goes_on = λ some. absurd (omega (arith, some, none));
        passed = h.passed;
      }

  -- one sector more is erased
  pub stepped_erased : (p : PageMap T) → p.erased < sectors → p.copied ≡ 0 → IsCaughtUp pages slots sectors extra p
      → HasStepped pages slots sectors extra (record p { ready = true; erased = p.erased + 1 })
  stepped_erased p more none h = record {
    ready = refl;
    room = erased_room (steps_of pages) slots sectors (if nat_eq p.turn 1 then 1 else 0) p.erased p.copied p.next more
        h.room;
    few = let few = h.few in omega (arith, few, none);
    goes_on = h.goes_on;
    passed = h.passed;
  }

  -- one step more has copied pages
  pub stepped_copied : (p : PageMap T) (behind : ℕ) → p.copied + 1 < steps_of pages
      → slots ≤ p.next + lead_of pages sectors → behind ≤ p.behind + STEP_PAGES
      → IsCaughtUp pages slots sectors extra p
      → HasStepped pages slots sectors extra (record p { ready = true; copied = p.copied + 1; behind = behind })
  stepped_copied p behind more due least h = let few = h.few in record {
    ready = refl;
    room = copied_room (steps_of pages) slots sectors (if nat_eq p.turn 1 then 1 else 0) p.erased p.copied p.next more
        h.room;
    few = omega (arith, few, least);
    goes_on = λ some. due;
    passed = h.passed;
  }

  -- the turn has passed to the witness
  pub stepped_on : (p : PageMap T) → p.turn ≡ 1 → p.erased ≡ 0 → p.copied ≡ 0 → IsCaughtUp pages slots sectors extra p
      → HasStepped pages slots sectors extra (record p {
        ready = true;
        turn = 2;
        erased = 0;
        copied = 0;
        behind = 0;
        older = 0;
      })
  stepped_on p one erased copied h =
      let room : 1 + (sectors - p.erased) + (steps_of pages - p.copied) + p.next ≤ slots =
      subst (λ (t : ℕ). (if nat_eq t 1 then 1 else 0) + (sectors - p.erased) + (steps_of pages - p.copied) + p.next
      ≤ slots) one h.room in record {
        ready = refl;
        room = omega (arith, room, erased, copied);
        few = omega arith;
        goes_on = λ some. absurd (omega (arith, some));
        passed = h.passed;
      }

  -- the record is put
  pub paced_put : (p q : PageMap T) → q.ready ≡ true → q.turn ≡ p.turn → q.next ≡ p.next + 1 → q.erased ≡ p.erased
      → q.copied ≡ p.copied → q.behind ≡ p.behind → q.tried ≤ q.next → HasStepped pages slots sectors extra p
      → KeepsPace pages slots sectors extra q
  paced_put p q ready turn next erased copied behind passed h =
      let left : steps_left pages sectors q ≡ steps_left pages sectors p = λ i.
      (if nat_eq (turn i) 1 then 1 else 0) + (sectors - erased i) + (steps_of pages - copied i) in
      let room = h.room in
      let few = h.few in
      record {
        ready = ready;
        room = omega (arith, left, next, room);
        few = omega (arith, few, copied, behind);
        goes_on = λ some.
            let before : 0 < p.copied + p.behind = omega (arith, some, copied, behind) in
            let due = h.goes_on before in omega (arith, due, next);
        passed = passed;
      }

  -- with the slots of a whole move, it may begin anew
  pub anew_paced : (p : PageMap T) → p.next + move_steps_of pages sectors < slots
      → KeepsPace pages slots sectors extra p
      → KeepsPace pages slots sectors extra (record p { erased = 0; copied = 0; behind = 0; older = 0 })
  anew_paced p far h =
      let most = steps_most pages slots sectors (record p { erased = 0; copied = 0; behind = 0; older = 0 }) in record {
        ready = h.ready;
        room = omega (arith, most, far);
        few = omega arith;
        goes_on = λ some. absurd (omega (arith, some));
        passed = h.passed;
      }

  -- the log's value says how its place stands
  pub stands_view : (start : ℕ → ℕ) (m : List ℕ) (p : PageMap T)
      → ((is_paced pages slots sectors p ≡ true) × (extra_slots p ≤ extra))
      ⊎ ((p.ready ≡ false) × IsInPaceFrom pages slots sectors start m extra p.tried)
      → WillKeepPace pages slots sectors start m extra p
  stands_view start m p = ⊎_elim
      (λ (z : (is_paced pages slots sectors p ≡ true) × (extra_slots p ≤ extra)). inl (paced_is p z.0 z.1))
      (λ (z : (p.ready ≡ false) × IsInPaceFrom pages slots sectors start m extra p.tried). inr z)

  pub view_stands : (start : ℕ → ℕ) (m : List ℕ) (p : PageMap T) → WillKeepPace pages slots sectors start m extra p
      → ((is_paced pages slots sectors p ≡ true) × (extra_slots p ≤ extra))
      ⊎ ((p.ready ≡ false) × IsInPaceFrom pages slots sectors start m extra p.tried)
  view_stands start m p = ⊎_elim
      (λ (z : KeepsPace pages slots sectors extra p). inl (is_paced_by p z))
      (λ (z : (p.ready ≡ false) × IsInPaceFrom pages slots sectors start m extra p.tried). inr z)

  -- a place in pace says how far the move has come, so the flash does
  pub place_in_pace : (entries : T → List ℕ) (start : ℕ → ℕ) (m : List ℕ) (p : PageMap T)
      → IsPlaceOf entries pages slots sectors start m p → KeepsPace pages slots sectors extra p
      → IsInPace pages slots sectors start m extra
  place_in_pace entries start m p at pace = record {
    erased = p.erased;
    copied = p.copied;
    behind = p.behind;
    older = p.older;
    next = p.next;
    spare = subst (λ (t : ℕ). IsSpare pages slots sectors start m (words_of pages slots m) t p.erased p.copied p.behind
        p.older) at.turn at.spare;
    free = subst (λ (t : ℕ). AreFree m (base_in slots t) p.next slots) at.turn at.free;
    room = subst (λ (t : ℕ). StepsFit pages slots sectors t p.erased p.copied p.next) at.turn pace.room;
    few = pace.few;
  }

  -- so the flash holds all that is to be found behind a power-on
  pub in_pace_by : (entries : T → List ℕ) (start : ℕ → ℕ) (m : List ℕ) (p : PageMap T)
      → IsLog entries pages slots sectors start m p
      → ((is_paced pages slots sectors p ≡ true) × (extra_slots p ≤ extra))
      ⊎ ((p.ready ≡ false) × IsInPaceFrom pages slots sectors start m extra p.tried)
      → IsInPace pages slots sectors start m extra
  in_pace_by entries start m p log = ⊎_elim
      (λ (z : (is_paced pages slots sectors p ≡ true) × (extra_slots p ≤ extra)).
      let pace = paced_is p z.0 z.1 in place_in_pace entries start m p (log.known pace.ready) pace)
      (λ (z : (p.ready ≡ false) × IsInPaceFrom pages slots sectors start m extra p.tried). z.1.pace)

  -- What the log finds is in pace if the flash is: the first slot that is free and not tried, and how far the move has
  -- come.
  pub paced_found : (start : ℕ → ℕ) (m : List ℕ) (p : PageMap T) → p.ready ≡ true → p.turn ≡ turn_of slots m
      → (0 < p.copied + p.behind → slots ≤ p.next + lead_of pages sectors)
      → KeepsSteps pages slots sectors start m p.turn p.next (extra_of pages slots sectors) p.erased p.copied p.behind
      → extra ≤ extra_of pages slots sectors → p.tried ≤ p.next
      → (is : IsInPace pages slots sectors start m extra) → p.next ≤ is.next → KeepsPace pages slots sectors extra p
  paced_found start m p ready turn due keeps fits passed is least =
      let room : StepsFit pages slots sectors p.turn is.erased is.copied is.next =
      subst (λ (t : ℕ). StepsFit pages slots sectors t is.erased is.copied is.next) (sym turn) is.room in
      let found = keeps extra is.erased is.copied is.behind is.older fits
      (subst (λ (t : ℕ). IsSpare pages slots sectors start m (words_of pages slots m) t is.erased is.copied is.behind
      is.older) (sym turn) is.spare) is.few (omega (arith, room, least)) in record {
        ready = ready;
        room = found.1;
        few = found.0;
        goes_on = due;
        passed = passed;
      }

  -- a look that failed can be had again
  pub fresh_stands : (start : ℕ → ℕ) (m after : List ℕ) (p q : PageMap T) → after ≡ m → p.ready ≡ false
      → q.ready ≡ false → q.tried ≡ p.tried → WillKeepPace pages slots sectors start m extra p
      → WillKeepPace pages slots sectors start after extra q
  fresh_stands start m after p q same unready left tried = ⊎_elim
      (λ (z : KeepsPace pages slots sectors extra p). absurd (true≢false (sym z.ready ∙ unready)))
      (λ (z : (p.ready ≡ false) × IsInPaceFrom pages slots sectors start m extra p.tried). inr (
        left,
        subst (λ (l : List ℕ). IsInPaceFrom pages slots sectors start l extra q.tried) (sym same)
            (subst (λ (n : ℕ). IsInPaceFrom pages slots sectors start m extra n) (sym tried) z.1),
      ))

  -- the same of a log's value: in pace no page was copied ahead while so many slots are free
  pub takes_view : {R : Type 0} (old new : FlashState) (p q : PageMap T) (r : Result R DeviceErr)
      → lead_of pages sectors < free_slots slots p → extra_slots p ≤ extra
      → TakesSlot old new (p.copied ≡ 0) (free_slots slots p) (free_slots slots q) r
      → TakesSlot (state_of pages slots old) (state_of pages slots new) (is_paced pages slots sectors p ≡ true)
      (free_slots slots p) (free_slots slots q) r
  takes_view old new p q r far given h = record {
    operations = h.operations;
    fewer = λ pace. h.fewer (none_copied (paced_is p pace given));
    erases = h.erases;
    slots = h.slots;
  }
    where
      none_copied : KeepsPace pages slots sectors extra p → p.copied ≡ 0
      none_copied pace = ⊎_elim (λ (e : p.copied ≡ 0). e)
          (λ (n : p.copied ≢ 0).
          let some : 0 < p.copied + p.behind = omega (arith, n) in
          let ends = pace.goes_on some in
          let due = (free_known pages slots sectors p (lead_of pages sectors) far).1 in absurd (omega
          (arith, ends, due)))
          (cases_eq p.copied 0)

module _ {T : Type 0} (pages slots sectors : ℕ) where
  -- before a move no slot of the other area is given up
  pub none_given : (p : PageMap T) → is_paced pages slots sectors p ≡ true → lead_of pages sectors < free_slots slots p
      → extra_slots p ≡ 0
  none_given p pace far =
      let h = paced_is pages slots sectors (extra_slots p) p pace (omega arith) in
      let due = (free_known pages slots sectors p (lead_of pages sectors) far).1 in
      let given : extra_slots p ≡ p.behind - copies_most p.copied 0 =
      ap (λ (b : Bool). if b then p.behind - copies_most p.copied 0 else 0) h.ready in
      ⊎_elim
      (λ (e : p.copied + p.behind ≡ 0). omega (arith, given, e))
      (λ (n : p.copied + p.behind ≢ 0).
      let some : 0 < p.copied + p.behind = omega (arith, n) in
      let ends = h.goes_on some in absurd (omega (arith, ends, due)))
      (cases_eq (p.copied + p.behind) 0)

module _ {T : Type 0} (pages slots sectors extra : ℕ) where
  -- the pause of a write, as the log's value has it
  pub pauses_view : {R : Type 0} (start : ℕ → ℕ) (most more given : ℕ) (old new : FlashState) (p q : PageMap T)
      (r : Result R DeviceErr)
      → Pauses most more old new (WillKeepPace pages slots sectors start old.words extra p)
      (KeepsPace pages slots sectors given q) r
      → Pauses most more (state_of pages slots old) (state_of pages slots new)
      (((is_paced pages slots sectors p ≡ true) × (extra_slots p ≤ extra))
      ⊎ ((p.ready ≡ false) × IsInPaceFrom pages slots sectors start old.words extra p.tried))
      ((is_paced pages slots sectors q ≡ true) × (extra_slots q ≤ given)) r
  pauses_view start most more given old new p q r h = record {
    short = λ pace. brief_view pages slots most more old new
        (h.short (stands_view pages slots sectors extra start old.words p pace));
    stays = λ pace ok. is_paced_by pages slots sectors given q
        (h.stays (stands_view pages slots sectors extra start old.words p pace) ok);
    long = λ same ok. ⊎_elim
        (λ (z : IsBrief most more old new). inl (brief_view pages slots most more old new z))
        (λ (z : KeepsPace pages slots sectors given q). inr (is_paced_by pages slots sectors given q z))
        (h.long same ok);
  }

  -- A write is made ready: the pages are found and the older one is copied, a step is taken, and room is made if there
  -- is none.
  module _ (first found stepped : FlashState) (p q s : PageMap T) (start : ℕ → ℕ) (before : Type 0)
      (finds : IsRoomy pages slots sectors (extra + failed_since first found) → before
      → StandsSo pages slots sectors start found.words (extra + lost_since first found) q
      (IsCaughtUp pages slots sectors (extra + lost_since first found) q))
      (ready : q.ready ≡ true) (power : KeepsPower first found)
      (steps : (e : ℕ) → IsRoomy pages slots sectors (e + failed_since found stepped)
      → IsCaughtUp pages slots sectors e q
      → StandsSo pages slots sectors start stepped.words (e + lost_since found stepped) s
      (HasStepped pages slots sectors (e + lost_since found stepped) s))
      (rise : found.faults ≤ stepped.faults) (roomy : IsRoomy pages slots sectors (extra + failed_since first stepped))
    where
      pub ready_caught : before → IsCaughtUp pages slots sectors (extra + failed_since first found) q
      ready_caught pace =
          let less = power.faults in
          let due = power.due in
          caught_more pages slots sectors (extra + lost_since first found) (extra + failed_since first found) q
          (omega (arith, due))
          (found_so pages slots sectors start found.words (extra + lost_since first found) q _ ready
          (finds (omega (arith, roomy, less, rise)) pace))

      pub ready_stands : before → StandsSo pages slots sectors start stepped.words (extra + lost_since first stepped) s
          (HasStepped pages slots sectors (extra + lost_since first stepped) s)
      ready_stands pace =
          let less = power.faults in
          let due = power.due in
          let was = extra + failed_since first found in
          let fits : was + lost_since found stepped ≤ extra + lost_since first stepped =
          omega (arith, less, rise, due) in
          stands_more pages slots sectors start stepped.words (was + lost_since found stepped)
          (extra + lost_since first stepped) s fits
          (stepped_more pages slots sectors (was + lost_since found stepped) (extra + lost_since first stepped) s fits)
          (steps was (omega (arith, roomy, less, rise)) (ready_caught pace))

      -- the step was taken
      module _ (there : s.ready ≡ true) (kept : stepped.due ≡ found.due) where
        pub ready_stepped : before → HasStepped pages slots sectors (extra + failed_since first stepped) s
        ready_stepped pace =
            let due = power.due in
            stepped_more pages slots sectors (extra + lost_since first stepped) (extra + failed_since first stepped) s
            (omega (arith, due, kept))
            (found_so pages slots sectors start stepped.words (extra + lost_since first stepped) s _ there
            (ready_stands pace))

        -- there is room, so no page moves
        module _ (last : FlashState) (t : PageMap T) (room : s.next < slots → (t ≡ s) × (last ≡ stepped)) where
          ready_still : before → (t ≡ s) × (last ≡ stepped)
          ready_still pace =
              room (stepped_room pages slots sectors (extra + failed_since first stepped) s (ready_stepped pace))

          pub ready_stays : before → HasStepped pages slots sectors (extra + failed_since first last) t
          ready_stays pace =
              let still = ready_still pace in
              subst (λ (f : FlashState). HasStepped pages slots sectors (extra + failed_since first f) t) (sym still.1)
              (subst (HasStepped pages slots sectors (extra + failed_since first stepped)) (sym still.0)
              (ready_stepped pace))

          pub ready_stood : before → StandsSo pages slots sectors start last.words (extra + lost_since first last) t
              (HasStepped pages slots sectors (extra + lost_since first last) t)
          ready_stood pace =
              let more : extra + failed_since first last ≤ extra + lost_since first last = omega arith in
              inl (stepped_more pages slots sectors (extra + failed_since first last) (extra + lost_since first last) t
              more (ready_stays pace))

          pub ready_in_pace : Costs 2 2 first found → found.erases ≡ first.erases → Costs 33 2 found stepped
              → stepped.erases ≤ found.erases + 1 → before → IsBrief 35 2 first last
          ready_in_pace found_work found_erases step_work step_erases pace =
              subst (λ (f : FlashState). IsBrief 35 2 first f) (sym (ready_still pace).1)
              (ready_brief first found stepped found_work found_erases step_work step_erases)

          pub ready_moves : (given : ℕ) → (p.ready ≡ true → q.next ≡ p.next) → p.ready ≡ true → before
              → (IsCaughtUp pages slots sectors (extra + failed_since first found) q → MovesWell pages given q s)
              → MovesWell pages given p t
          ready_moves given known was pace well =
              let is = known was in
              subst (MovesWell pages given p) (sym (ready_still pace).0) (record {
                next = ⊎_elim
                    (λ (e : s.next ≡ q.next). inl (e ∙ is))
                    (λ (z : (s.next < pages + steps_of pages + given) × (s.behind ≡ 0)). inr z)
                    (well (ready_caught pace)).next;
              })

          pub ready_found : (given : ℕ) → before → (n : ℕ) → slots ≤ q.next + n
              → (IsCaughtUp pages slots sectors (extra + failed_since first found) q → MovesWell pages given q s)
              → MovesFound pages slots given n t
          ready_found given pace n all well =
              subst (MovesFound pages slots given n) (sym (ready_still pace).0) (record {
                next = ⊎_elim
                    (λ (e : s.next ≡ q.next). let x : slots ≤ s.next + n = omega (arith, e, all) in inl x)
                    (λ (z : (s.next < pages + steps_of pages + given) × (s.behind ≡ 0)). inr z)
                    (well (ready_caught pace)).next;
              })
