-- Laws of a write that loses power or fails: the flash stays in pace, and a copy takes a few slots more.
use Rattle.std.specs.Prelude.{◌≡◌, ◌≢◌, ◌⊎◌, ◌<◌, ◌≤◌, ◌+◌, ◌-◌, ◌*◌, ℕ, Bool, true, false, List}
use Rattle.std.specs.Prelude.{nat_eq, if◌then◌else◌, Result, Ok, Err, IsOk, IsErr, OnOk, OnErr}
use Rattle.std.proofs.Common.{refl, sym, ◌∙◌, ap, inl, ⊎_elim, subst, arith, true≢false}
use Rattle.std.proofs.lemmas.Bool.{cases_eq, cases_lt}
use Rattle.nvm_board.specs.declared.board.DeviceErr.{DeviceErr}
use Rattle.nvm_board.specs.declared.board.DeviceErr.TheVariants.{PowerLost, Fault}
use Rattle.nvm_board.specs.declared.board.TheConstants.{LEAST_PAGES}
use Rattle.flash_moves.specs.declared.place.PageMap.{PageMap}
use Rattle.flash_device.specs.declared.layout.TheConstants.{STEP_PAGES}
use Rattle.flash_device.specs.FlashBlocks.{area_size, steps_of, witness_start}
use Rattle.flash_device.specs.FlashCalls.{FlashState, SameElsewhere, Tries}
use Rattle.flash_device.specs.FlashLogs.{base_in, close_b, close_of, turn_of, words_of}
use Rattle.flash_device.specs.PageTables.{AreFree}
use Rattle.flash_moves.specs.Paces.{CopiesNoPageAt, HasFreeSlots, HasStepped, IsBeforeMove, IsCaughtUp, IsInPace}
use Rattle.flash_moves.specs.Paces.{IsInPaceFrom, KeepsFree, KeepsPace, KeepsRoom, StandsSo, WillKeepPace, free_slots}
use Rattle.flash_moves.specs.Paces.{EndsStep, is_fresh, lead_of, lost_since, lost_slots, steps_left}
use Rattle.flash_moves.specs.Places.{FindsFree, IsLog, IsPlaceOf}
use Rattle.flash_moves.specs.Rings.{IsRing, SameMarks}
use Rattle.flash_area.specs.Spares.{HasCopies, IsSpare, StepsFit, copies_most, spare_in, spare_sector}
use Rattle.flash_area.specs.laws.Copying.{SameArea, area_found, area_free}
use Rattle.flash_moves.specs.laws.Moving.{Stays, witness_area}
use Rattle.flash_moves.specs.laws.Pacing.{free_known, free_of, fresh_is, from_more, place_in_pace, stands_more}
use Rattle.flash_moves.specs.laws.Pacing.{stepped_copied, stepped_paced, stepped_room}
use Rattle.flash_moves.specs.laws.Sparing.{block_area, pass_block, pass_home, pass_turns, pass_words}
use Rattle.flash_moves.specs.laws.Sparing.{spare_none, spare_put, spare_same}
use Rattle.flash_moves.specs.laws.Turns.{turn_same}

-- a call that fails took at most so many slots of the other area
pub err_lost : {R : Type 0} (old new : FlashState) (r : Result R DeviceErr) → Tries 1 old new r → IsErr r
    → (new.faults - old.faults) + lost_slots ≤ lost_since old new
err_lost old new (Ok x) tries failed = absurd (true≢false (sym failed))
err_lost old new (Err PowerLost) tries failed = let lost = (tries.lost refl).due in omega (arith, lost)
err_lost old new (Err Fault) tries failed = let more = (tries.fault refl).1 in omega (arith, more)

-- what follows where a call returns, and where it fails
pub by_result : {R A B C : Type 0} (r : Result R DeviceErr) → OnOk r A → OnErr r B → (IsOk r → A → C)
    → (IsErr r → B → C) → C
by_result (Ok x) ok err f g = f refl ok
by_result (Err e) ok err f g = g refl err

-- a call that tries more often tries once
pub tries_once : {R : Type 0} (least : ℕ) (old new : FlashState) (r : Result R DeviceErr) → 1 ≤ least
    → Tries least old new r → Tries 1 old new r
tries_once least old new r some tries = record {
  ok = tries.ok;
  lost = tries.lost;
  fault = λ e. let z = tries.fault e in (z.0, let more = z.1 in omega (arith, more, some));
}

module _ (pages slots : ℕ) where
  -- the area in use is where it was, and stays
  pub free_by_area : (m after : List ℕ) (base n : ℕ) → base_in slots (turn_of slots m) ≡ base
      → base_in slots (turn_of slots after) ≡ base → SameArea slots m after base
      → AreFree m (base_in slots (turn_of slots m)) n slots
      → AreFree after (base_in slots (turn_of slots after)) n slots
  free_by_area m after base n was is same free = subst (λ (b : ℕ). AreFree after b n slots) (sym is)
      (area_free slots m after base same n (subst (λ (b : ℕ). AreFree m b n slots) was free))

  -- the turn stays, or passes to an area that is free from an earlier slot on
  pub free_by_turn : (m after : List ℕ) (base other k n : ℕ) → base_in slots (turn_of slots m) ≡ base
      → (base_in slots (turn_of slots after) ≡ base) ⊎ (base_in slots (turn_of slots after) ≡ other)
      → SameArea slots m after base → AreFree after other k slots → k ≤ n
      → AreFree m (base_in slots (turn_of slots m)) n slots
      → AreFree after (base_in slots (turn_of slots after)) n slots
  free_by_turn m after base other k n was turns same moved less free = ⊎_elim
      (λ (e : base_in slots (turn_of slots after) ≡ base). free_by_area m after base n was e same free)
      (λ (e : base_in slots (turn_of slots after) ≡ other). subst (λ (b : ℕ). AreFree after b n slots) (sym e) (record {
        within = free.within;
        free = λ s from lt. moved.free s (omega (arith, less, from)) lt;
      }))
      turns

  -- the turn passes to the witness, or stays
  pub witness_free : (m after : List ℕ) (n : ℕ) → turn_of slots m ≡ 1 → SameElsewhere m (close_b slots) 4 after
      → (turn_of slots after ≡ 1) ⊎ (turn_of slots after ≡ 2)
      → AreFree m (base_in slots (turn_of slots m)) n slots
      → AreFree after (base_in slots (turn_of slots after)) n slots
  witness_free m after n was same turns =
      let is : base_in slots (turn_of slots after) ≡ area_size slots = ⊎_elim
      (λ (e : turn_of slots after ≡ 1). ap (base_in slots) e)
      (λ (e : turn_of slots after ≡ 2). ap (base_in slots) e)
      turns in
      free_by_area m after (area_size slots) n (ap (base_in slots) was) is (witness_area pages slots m after same)

  -- one call after another
  pub free_then : (old mid new : FlashState) → old.faults ≤ mid.faults → mid.faults ≤ new.faults
      → KeepsFree pages slots old mid → KeepsFree pages slots mid new → KeepsFree pages slots old new
  free_then old mid new less more first then_free = λ n far free.
      then_free n (omega (arith, far, less, more)) (first n (omega (arith, far, less, more)) free)

  -- calls that only read
  pub free_read : (old new : FlashState) → new.words ≡ old.words → KeepsFree pages slots old new
  free_read old new words = λ n far free.
      subst (λ (m : List ℕ). AreFree m (base_in slots (turn_of slots m)) n slots) (sym words) free

  -- calls that only read, however often the flash fails
  pub room_read : (m after : List ℕ) → after ≡ m → KeepsRoom pages slots m after
  room_read m after words = λ n far free.
      subst (λ (l : List ℕ). AreFree l (base_in slots (turn_of slots l)) n slots) (sym words) free

  -- with the slots for a move, but for one slot for each Fault, they stay
  pub kept_slots : (sectors : ℕ) (old new : FlashState)
      → pages + (new.faults - old.faults) + lead_of pages sectors ≤ slots
      → KeepsFree pages slots old new → HasFreeSlots slots (lead_of pages sectors) old.words
      → HasFreeSlots slots (lead_of pages sectors) new.words
  kept_slots sectors old new roomy keeps has =
      let least : ℕ = pages + (new.faults - old.faults) in ⊎_elim
      (λ (early : has.next < least). record {
        next = least;
        free = keeps least (omega arith) (record {
          within = omega (arith, roomy);
          free = λ s from lt. has.free.free s (omega (arith, early, from)) lt;
        });
        enough = omega (arith, roomy);
      })
      (λ (far : least ≤ has.next). record {
        next = has.next;
        free = keeps has.next far has.free;
        enough = has.enough;
      })
      (cases_lt has.next least)

module _ (pages slots sectors : ℕ) (start : ℕ → ℕ) where
  -- what a flash in pace is, by its turn, behind the slots that were tried
  pub in_pace_from : (m : List ℕ) (extra turn erased copied behind older next tried : ℕ) → turn ≡ turn_of slots m
      → IsSpare pages slots sectors start m (words_of pages slots m) turn erased copied behind older
      → AreFree m (base_in slots turn) next slots → StepsFit pages slots sectors turn erased copied next
      → behind ≤ copies_most copied extra → tried ≤ next → IsInPaceFrom pages slots sectors start m extra tried
  in_pace_from m extra turn erased copied behind older next tried is spare free room few passed = record {
    pace = record {
      erased = erased;
      copied = copied;
      behind = behind;
      older = older;
      next = next;
      spare = subst (λ (t : ℕ). IsSpare pages slots sectors start m (words_of pages slots m) t erased copied behind
          older) is spare;
      free = subst (λ (t : ℕ). AreFree m (base_in slots t) next slots) is free;
      room = subst (λ (t : ℕ). StepsFit pages slots sectors t erased copied next) is room;
      few = few;
    };
    passed = passed;
  }

  -- more may be given up
  pub in_pace_more : (m : List ℕ) (extra more : ℕ) → extra ≤ more → IsInPace pages slots sectors start m extra
      → IsInPace pages slots sectors start m more
  in_pace_more m extra more le is = record {
    erased = is.erased;
    copied = is.copied;
    behind = is.behind;
    older = is.older;
    next = is.next;
    spare = is.spare;
    free = is.free;
    room = is.room;
    few = let few = is.few in omega (arith, few, le);
  }

  module _ (rise : (s : ℕ) → start s ≤ start (s + 1)) (first : start 0 ≡ 0) (second : start sectors ≡ area_size slots)
      (third : start (2 * sectors) ≡ witness_start slots) (some : 0 < sectors) (least : LEAST_PAGES ≤ pages) where
    -- with the slots for a move, whatever the other area holds
    pub free_from : (m : List ℕ) (tried : ℕ) (has : HasFreeSlots slots (lead_of pages sectors) m) → tried ≤ has.next
        → IsInPaceFrom pages slots sectors start m 0 tried
    free_from m tried has passed =
        let enough = has.enough in
        let fits : (b : Bool) → (if b then 1 else 0) + (sectors - 0) + (steps_of pages - 0) + has.next ≤ slots =
        λ b. by_turn b has.next enough in
        in_pace_from m 0 (turn_of slots m) 0 0 0 0 has.next tried refl
        (spare_none pages slots sectors start rise first second third some least m (words_of pages slots m)
        (turn_of slots m))
        has.free (fits (nat_eq (turn_of slots m) 1)) (omega arith) passed
      where
        by_turn : (b : Bool) (next : ℕ) → next + lead_of pages sectors ≤ slots
            → (if b then 1 else 0) + (sectors - 0) + (steps_of pages - 0) + next ≤ slots
        by_turn true next enough = omega (arith, enough)
        by_turn false next enough = omega (arith, enough)

    pub free_in_pace : (m : List ℕ) → HasFreeSlots slots (lead_of pages sectors) m
        → IsInPace pages slots sectors start m 0
    free_in_pace m has = (free_from m 0 has (omega arith)).pace

one_less : (sectors steps w erased copied : ℕ) → copied < steps
    → w + (sectors - erased) + (steps - (copied + 1)) + 1 ≡ w + (sectors - erased) + (steps - copied)
one_less sectors steps w erased copied less = omega (arith, less)

one_erased : (sectors steps w erased copied : ℕ) → erased < sectors
    → w + (sectors - (erased + 1)) + (steps - copied) + 1 ≡ w + (sectors - erased) + (steps - copied)
one_erased sectors steps w erased copied less = omega (arith, less)

module _ {T : Type 0} (pages slots sectors : ℕ) where
  -- a step that copies is taken
  pub copied_takes : (p : PageMap T) (behind : ℕ) → p.copied < steps_of pages
      → EndsStep pages slots sectors p (record p { ready = true; copied = p.copied + 1; behind = behind })
  copied_takes p behind less = record {
    fewer = inl (one_less sectors (steps_of pages) (if nat_eq p.turn 1 then 1 else 0) p.erased p.copied less, refl);
  }

  -- and one that erases
  pub erased_takes : (p : PageMap T) → p.erased < sectors
      → EndsStep pages slots sectors p (record p { ready = true; erased = p.erased + 1 })
  erased_takes p less = record {
    fewer = inl (one_erased sectors (steps_of pages) (if nat_eq p.turn 1 then 1 else 0) p.erased p.copied less, refl);
  }

  -- and one that passes the turn to the witness
  pub witness_takes : (p : PageMap T) → p.turn ≡ 1 → p.erased ≡ 0 → p.copied ≡ 0
      → EndsStep pages slots sectors p (record p {
        ready = true;
        turn = 2;
        erased = 0;
        copied = 0;
        behind = 0;
        older = 0;
      })
  witness_takes p one erased copied =
      let was : steps_left pages sectors p ≡ 1 + (sectors - p.erased) + (steps_of pages - p.copied) =
      ap (λ (t : ℕ). (if nat_eq t 1 then 1 else 0) + (sectors - p.erased) + (steps_of pages - p.copied)) one in
      record { fewer = inl (omega (arith, was, erased, copied), refl) }

module _ {T : Type 0} (pages slots sectors extra : ℕ) where
  -- while no move is due, no page is copied
  pub none_copied : (p : PageMap T) → p.next + lead_of pages sectors < slots → KeepsPace pages slots sectors extra p
      → p.copied ≡ 0
  none_copied p far pace = ⊎_elim
      (λ (e : p.copied ≡ 0). e)
      (λ (n : p.copied ≢ 0).
      let some : 0 < p.copied + p.behind = omega (arith, n) in
      let ends = pace.goes_on some in absurd (omega (arith, ends, far)))
      (cases_eq p.copied 0)

  -- the pages are found before a move
  pub before_found : (m : List ℕ) (p q : PageMap T) → q.ready ≡ true → q.next ≤ slots
      → (p.ready ≡ true → q.next ≡ p.next)
      → (p.ready ≡ false → p.tried ≡ 0 → FindsFree slots m (free_slots slots q))
      → IsBeforeMove pages slots sectors (free_slots slots p) (is_fresh p) m
      → q.next + lead_of pages sectors < slots
  before_found m p q ready within known found = ⊎_elim
      (λ (far : lead_of pages sectors < free_slots slots p).
      let there = free_known pages slots sectors p (lead_of pages sectors) far in
      let is = known there.0 in let room = there.1 in omega (arith, is, room))
      (λ (z : (is_fresh p ≡ true) × HasFreeSlots slots (lead_of pages sectors + 1) m).
      let fresh = fresh_is pages slots sectors p z.0 in
      let all = (found fresh.0 fresh.1).all z.1.next z.1.free in
      let enough = z.1.enough in
      let free = free_of pages slots sectors q ready in
      omega (arith, all, enough, free, within))

  -- a log that stands in pace has a flash that is
  pub stands_in_pace : (entries : T → List ℕ) (start : ℕ → ℕ) (m : List ℕ) (p : PageMap T)
      → IsLog entries pages slots sectors start m p → WillKeepPace pages slots sectors start m extra p
      → IsInPace pages slots sectors start m extra
  stands_in_pace entries start m p log = ⊎_elim
      (λ (z : KeepsPace pages slots sectors extra p).
      place_in_pace pages slots sectors extra entries start m p (log.known z.ready) z)
      (λ (z : (p.ready ≡ false) × IsInPaceFrom pages slots sectors start m extra p.tried). z.1.pace)

  -- the same behind a step
  pub step_in_pace : (entries : T → List ℕ) (start : ℕ → ℕ) (m : List ℕ) (p : PageMap T)
      → IsLog entries pages slots sectors start m p
      → StandsSo pages slots sectors start m extra p (HasStepped pages slots sectors extra p)
      → IsInPace pages slots sectors start m extra
  step_in_pace entries start m p log is = stands_in_pace entries start m p log
      (stands_more pages slots sectors start m extra extra p (omega arith) (stepped_paced pages slots sectors extra p)
      is)

  -- one step more has copied pages, and some of their slots failed
  pub stepped_failed : (p : PageMap T) (behind failed more : ℕ) → p.copied + 1 < steps_of pages
      → slots ≤ p.next + lead_of pages sectors → behind ≤ p.behind + STEP_PAGES + failed → extra + failed ≤ more
      → IsCaughtUp pages slots sectors extra p
      → HasStepped pages slots sectors more (record p { ready = true; copied = p.copied + 1; behind = behind })
  stepped_failed p behind failed more left due least fits pace =
      stepped_copied pages slots sectors more (record p { behind = p.behind + failed }) behind left due
      (omega (arith, least)) (record {
        ready = pace.ready;
        room = pace.room;
        few = let few = pace.few in omega (arith, few, fits);
        goes_on = λ taken. due;
        passed = pace.passed;
      })

  -- with as many slots more as failed, an older page leaves a step its slots
  pub older_caught : (p : PageMap T) (behind more : ℕ) → KeepsPace pages slots sectors extra p → 0 < p.copied
      → behind ≤ p.behind + 1 + more
      → IsCaughtUp pages slots sectors (extra + more) (record p { ready = true; behind = behind; older = 0 })
  older_caught p behind more pace some most = record {
    ready = refl;
    room = pace.room;
    few = let few = pace.few in omega (arith, few, some, most);
    goes_on = λ taken. let before : 0 < p.copied + p.behind = omega (arith, some) in pace.goes_on before;
    passed = pace.passed;
  }

  -- a place in pace says so of the flash, behind the slots that were tried
  pub place_stands : (entries : T → List ℕ) (start : ℕ → ℕ) (m : List ℕ) (p : PageMap T)
      → IsPlaceOf entries pages slots sectors start m p → KeepsPace pages slots sectors extra p
      → IsInPaceFrom pages slots sectors start m extra p.tried
  place_stands entries start m p at pace = in_pace_from pages slots sectors start m extra p.turn p.erased p.copied
      p.behind p.older p.next p.tried at.turn at.spare at.free pace.room pace.few pace.passed

  -- no page is older
  pub none_caught : (p : PageMap T) → KeepsPace pages slots sectors extra p → IsCaughtUp pages slots sectors extra p
  none_caught p pace = record {
    ready = pace.ready;
    room = pace.room;
    few = let few = pace.few in omega (arith, few);
    goes_on = pace.goes_on;
    passed = pace.passed;
  }

  -- A write is made ready: the pages are found, a step is taken that copies no page, and there is room.
  module _ (first found stepped : FlashState) (p q s : PageMap T)
      (known : p.ready ≡ true → q.next ≡ p.next) (ready : q.ready ≡ true) (within : q.next ≤ slots)
      (looks : p.ready ≡ false → p.tried ≡ 0 → FindsFree slots first.words (free_slots slots q))
      (found_erases : found.erases ≡ first.erases)
      (idle : q.next + lead_of pages sectors < slots → (s ≡ q) × (stepped ≡ found))
      (pace : IsCaughtUp pages slots sectors extra q) where
    -- the step is lost
    pub step_lost : (start : ℕ → ℕ)
        → (IsBeforeMove pages slots sectors (free_slots slots p) (is_fresh p) first.words
        → IsInPace pages slots sectors start found.words extra)
        → (found.erases < stepped.erases → IsCaughtUp pages slots sectors extra q
        → IsInPace pages slots sectors start stepped.words extra)
        → CopiesNoPageAt pages slots sectors first p stepped → IsInPace pages slots sectors start stepped.words extra
    step_lost start was erased = ⊎_elim
        (λ (more : first.erases < stepped.erases). erased (omega (arith, more, found_erases)) pace)
        (λ (before : IsBeforeMove pages slots sectors (free_slots slots p) (is_fresh p) first.words).
        let far = before_found first.words p q ready within known looks before in
        subst (λ (f : FlashState). IsInPace pages slots sectors start f.words extra) (sym (idle far).1) (was before))

    -- There was room, so no page moved.
    pub ready_lost : (last : FlashState) (t : PageMap T) → (s.next < slots → (t ≡ s) × (last ≡ stepped))
        → HasStepped pages slots sectors extra s → (start : ℕ → ℕ)
        → (IsBeforeMove pages slots sectors (free_slots slots p) (is_fresh p) first.words
        → IsInPace pages slots sectors start found.words extra)
        → (found.erases < stepped.erases → IsCaughtUp pages slots sectors extra q
        → IsInPace pages slots sectors start stepped.words extra)
        → CopiesNoPageAt pages slots sectors first p last → IsInPace pages slots sectors start last.words extra
    ready_lost last t room stays start was erased none =
        let still = (room (stepped_room pages slots sectors extra s stays)).1 in
        subst (λ (f : FlashState). IsInPace pages slots sectors start f.words extra) (sym still)
        (step_lost start was erased
        (subst (λ (f : FlashState). CopiesNoPageAt pages slots sectors first p f) still none))

  module _ (start : ℕ → ℕ) where
    -- the next sector is erased, or its erase is torn: those before it are erased
    pub erase_in_pace : (entries : T → List ℕ) (m after : List ℕ) (p : PageMap T)
        → IsPlaceOf entries pages slots sectors start m p → p.erased < sectors
        → SameElsewhere m (start (spare_sector sectors p.turn + p.erased))
        (start (spare_sector sectors p.turn + p.erased + 1) - start (spare_sector sectors p.turn + p.erased)) after
        → Stays pages slots m after → SameArea slots m after (base_in slots p.turn)
        → IsCaughtUp pages slots sectors extra p → IsInPaceFrom pages slots sectors start after extra p.tried
    erase_in_pace entries m after p at more run stays area pace =
        let spare = at.spare in
        in_pace_from pages slots sectors start after extra p.turn p.erased p.copied p.behind p.older p.next p.tried
        (at.turn ∙ sym stays.turn)
        (record {
          within = spare.within;
          most = spare.most;
          idle = spare.idle;
          fresh = spare.fresh;
          few = spare.few;
          blank = λ lt. record {
            each = λ k few.
                let inside : spare_in slots p.turn + k < start (spare_sector sectors p.turn + p.erased) =
                omega (arith, few) in
                run.same (spare_in slots p.turn + k) (inl inside) ∙ (spare.blank lt).each k few;
          };
          copies = λ e. absurd (omega (arith, e, more));
        })
        (area_free slots m after (base_in slots p.turn) area p.next at.free) pace.room
        (let few = pace.few in let none = (spare.fresh more).0 in omega (arith, few, none)) pace.passed

    -- pages are copied, or a copy is torn: the step begins anew behind the slots that it took
    pub copy_in_pace : (entries : T → List ℕ) (m after : List ℕ) (p : PageMap T) (failed : ℕ)
        → IsPlaceOf entries pages slots sectors start m p → p.erased ≡ sectors
        → Stays pages slots m after → SameArea slots m after (base_in slots p.turn)
        → HasCopies pages slots after (words_of pages slots after) (base_in slots p.turn) (spare_in slots p.turn)
        (STEP_PAGES * p.copied) (p.behind + STEP_PAGES + failed) 0
        → IsCaughtUp pages slots sectors extra p
        → IsInPaceFrom pages slots sectors start after (extra + (failed + lost_slots)) p.tried
    copy_in_pace entries m after p failed at all stays area has pace =
        let n = p.behind + STEP_PAGES + failed in
        in_pace_from pages slots sectors start after (extra + (failed + lost_slots)) p.turn p.erased p.copied n 0 p.next
        p.tried (at.turn ∙ sym stays.turn)
        (spare_put pages slots sectors start m after (words_of pages slots m) (words_of pages slots after) p.turn
        p.erased p.copied p.behind p.older n 0 at.spare (omega arith) has all)
        (area_free slots m after (base_in slots p.turn) area p.next at.free) pace.room
        (let few = pace.few in omega (arith, few)) pace.passed

    module _ (rise : (s : ℕ) → start s ≤ start (s + 1))
        (first : start 0 ≡ 0) (second : start sectors ≡ area_size slots)
        (third : start (2 * sectors) ≡ witness_start slots) (some : 0 < sectors) where
      -- all pages are copied, and the turn passes to the other area, or the mark is torn
      pub pass_in_pace : LEAST_PAGES ≤ pages → (m after : List ℕ) (p : PageMap T) (n failed : ℕ)
          → n + lead_of pages sectors ≤ slots → IsRing slots m → p.turn ≡ turn_of slots m → p.turn < 3 → p.turn ≢ 1
          → AreFree m (base_in slots p.turn) p.next slots
          → IsSpare pages slots sectors start m (words_of pages slots m) p.turn p.erased p.copied
          (p.behind + STEP_PAGES + failed) 0
          → HasCopies pages slots m (words_of pages slots m) (base_in slots p.turn) (spare_in slots p.turn) pages n 0
          → IsCaughtUp pages slots sectors extra p → SameElsewhere m (close_of slots p.turn) 2 after
          → IsInPaceFrom pages slots sectors start after (extra + (failed + lost_slots)) 0
      pass_in_pace least m after p n failed below ring is small other free spare has pace h =
          let home = pass_home pages slots m after p.turn n ring is small other has h in
          let block = pass_block pages slots m after p.turn n ring is small other has h in
          let words = pass_words pages slots m after p.turn n ring is small other has h in
          let more = extra + (failed + lost_slots) in
          let behind = p.behind + STEP_PAGES + failed in
          ⊎_elim
          (λ (e : turn_of slots after ≡ p.turn).
          in_pace_from pages slots sectors start after more p.turn p.erased p.copied behind 0 p.next 0 (sym e)
          (subst (λ (l : List ℕ). IsSpare pages slots sectors start after l p.turn p.erased p.copied behind 0)
          (sym words)
          (spare_same pages slots sectors start rise first second third some m after (words_of pages slots m) p.turn
          p.erased p.copied behind 0 block
          (λ q none. sym (area_found slots m after (base_in slots p.turn) home q) ∙ none) spare))
          (area_free slots m after (base_in slots p.turn) home p.next free) pace.room
          (let few = pace.few in omega (arith, few)) (omega arith))
          (λ (e : base_in slots (turn_of slots after) ≡ spare_in slots p.turn).
          from_more pages slots sectors start after 0 more 0 (omega arith)
          (free_from pages slots sectors start rise first second third some least after 0 (record {
            next = n;
            free = subst (λ (b : ℕ). AreFree after b n slots) (sym e)
                (area_free slots m after (spare_in slots p.turn)
                (block_area slots m after (spare_in slots p.turn) block) n has.free);
            enough = below;
          }) (omega arith)))
          (pass_turns pages slots m after p.turn n ring is small other has h)

      -- the turn passes to the witness, or stays
      pub witness_in_pace : LEAST_PAGES ≤ pages → (entries : T → List ℕ) (m after : List ℕ) (p : PageMap T)
          → IsPlaceOf entries pages slots sectors start m p → p.turn ≡ 1 → SameArea slots m after (area_size slots)
          → (turn_of slots after ≡ 1) ⊎ (turn_of slots after ≡ 2) → IsCaughtUp pages slots sectors extra p
          → IsInPaceFrom pages slots sectors start after extra p.tried
      witness_in_pace least entries m after p at one area turns pace =
          let erased : p.erased ≡ 0 = at.spare.idle one in
          let fresh = at.spare.fresh (omega (arith, erased, some)) in
          let copied = fresh.0 in
          let room : 1 + (sectors - p.erased) + (steps_of pages - p.copied) + p.next ≤ slots =
          subst (λ (t : ℕ). (if nat_eq t 1 then 1 else 0) + (sectors - p.erased) + (steps_of pages - p.copied) + p.next
          ≤ slots) one pace.room in
          let free : AreFree after (area_size slots) p.next slots =
          area_free slots m after (area_size slots) area p.next
          (subst (λ (t : ℕ). AreFree m (base_in slots t) p.next slots) one at.free) in
          let none = λ (t : ℕ). spare_none pages slots sectors start rise first second third some least after
          (words_of pages slots after) t in
          ⊎_elim
          (λ (e : turn_of slots after ≡ 1).
          in_pace_from pages slots sectors start after extra 1 0 0 0 0 p.next p.tried (sym e) (none 1) free
          (omega (arith, room, erased, copied)) (omega arith) pace.passed)
          (λ (e : turn_of slots after ≡ 2).
          in_pace_from pages slots sectors start after extra 2 0 0 0 0 p.next p.tried (sym e) (none 2) free
          (omega (arith, room, erased, copied)) (omega arith) pace.passed)
          turns

      -- a record is put into the area in use, or torn: it takes one slot
      pub put_in_pace : (entries : T → List ℕ) (m after : List ℕ) (p : PageMap T) (older tried : ℕ)
          → tried ≤ p.next + 1 → IsPlaceOf entries pages slots sectors start m p
          → HasStepped pages slots sectors extra p → SameMarks slots m after
          → AreFree after (base_in slots p.turn) (p.next + 1) slots
          → IsSpare pages slots sectors start after (words_of pages slots after) p.turn p.erased p.copied p.behind older
          → IsInPaceFrom pages slots sectors start after extra tried
      put_in_pace entries m after p older tried passed at stepped marks free spare =
          let room = stepped.room in
          in_pace_from pages slots sectors start after extra p.turn p.erased p.copied p.behind older (p.next + 1) tried
          (at.turn ∙ sym (turn_same slots m after marks)) spare free (omega (arith, room)) stepped.few passed
