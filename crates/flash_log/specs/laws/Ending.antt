-- Laws of a renewal, which ends a move by steps: it stays in pace.
use Rattle.std.specs.Prelude.{◌≡◌, ◌≢◌, ◌⊎◌, ◌<◌, ◌≤◌, ◌+◌, ◌-◌, ◌*◌, ℕ, true, false, List}
use Rattle.std.proofs.Common.{sym, inl, inr, ⊎_elim, subst, arith, true≢false, ◌∙◌}
use Rattle.std.proofs.lemmas.Bool.{cases_eq, cases_lt}
use Rattle.flash_moves.specs.declared.place.PageMap.{PageMap}
use Rattle.nvm_board.specs.declared.board.TheConstants.{LEAST_PAGES}
use Rattle.flash_device.specs.FlashBlocks.{area_size, steps_of, witness_start}
use Rattle.flash_moves.specs.Paces.{HasStepped, IsCaughtUp, IsInPaceFrom, KeepsPace, StandsSo, WillKeepPace}
use Rattle.flash_moves.specs.Paces.{EndsStep, HasFreeSlots, LogState, StandsInPace, free_slots, lead_of}
use Rattle.flash_moves.specs.Paces.{move_steps_of, steps_left}
use Rattle.flash_moves.specs.Places.{FindsFree, IsLog}
use Rattle.flash_moves.specs.laws.Losing.{free_in_pace}
use Rattle.flash_moves.specs.laws.Pacing.{caught_more, free_of, from_more, paced_more, place_in_pace, stepped_paced}

-- So many steps are taken: as many fewer are left, or the pages have moved.
pub record HasTaken {T : Type 0} (pages slots sectors extra taken : ℕ) (p : PageMap T) : Type 0 where
  pub caught : IsCaughtUp pages slots sectors extra p
  pub fewer : (steps_left pages sectors p + taken ≤ move_steps_of pages sectors)
      ⊎ (p.next + lead_of pages sectors < slots)

-- a log may give more slots up
pub log_stands_more : (pages slots sectors : ℕ) (start : ℕ → ℕ) (extra more : ℕ) (l : LogState) → extra ≤ more
    → StandsInPace pages slots sectors start extra l → StandsInPace pages slots sectors start more l
log_stands_more pages slots sectors start extra more l le = ⊎_elim
    (λ (z : (l.paced ≡ true) × (l.extra ≤ extra)). let few = z.1 in inl (z.0, omega (arith, few, le)))
    (λ (z : (l.ready ≡ false) × IsInPaceFrom pages slots sectors start l.raw extra l.tried).
    inr (z.0, from_more pages slots sectors start l.raw extra more l.tried le z.1))

module _ {T : Type 0} (pages slots sectors : ℕ) where
  -- a step may follow at once
  pub stepped_caught : (extra : ℕ) (p : PageMap T) → HasStepped pages slots sectors extra p
      → IsCaughtUp pages slots sectors extra p
  stepped_caught extra p stepped = record {
    ready = stepped.ready;
    room = let room = stepped.room in omega (arith, room);
    few = let few = stepped.few in omega (arith, few);
    goes_on = stepped.goes_on;
    passed = stepped.passed;
  }

  -- one step more is taken
  pub taken_more : (extra more taken : ℕ) (p q : PageMap T) → HasTaken pages slots sectors extra taken p
      → (slots ≤ p.next + lead_of pages sectors → EndsStep pages slots sectors p q)
      → (p.next + lead_of pages sectors < slots → q ≡ p) → IsCaughtUp pages slots sectors more q
      → HasTaken pages slots sectors more (taken + 1) q
  taken_more extra more taken p q was steps idle caught = record {
    caught = caught;
    fewer = ⊎_elim
        (λ (far : p.next + lead_of pages sectors < slots).
        inr (subst (λ (r : PageMap T). r.next + lead_of pages sectors < slots) (sym (idle far)) far))
        (λ (due : slots ≤ p.next + lead_of pages sectors). ⊎_elim
        (λ (one : (steps_left pages sectors q + 1 ≡ steps_left pages sectors p) × (q.next ≡ p.next)). ⊎_elim
        (λ (few : steps_left pages sectors p + taken ≤ move_steps_of pages sectors).
        let less = one.0 in inl (omega (arith, less, few)))
        (λ (far : p.next + lead_of pages sectors < slots). absurd (omega (arith, far, due)))
        was.fewer)
        (λ (moved : q.next + lead_of pages sectors < slots). inr moved)
        (steps due).fewer)
        (cases_lt (p.next + lead_of pages sectors) slots);
  }

  -- behind as many steps as a move has at most, the pages have moved
  pub all_taken : (extra : ℕ) (p : PageMap T) → p.copied < steps_of pages
      → HasTaken pages slots sectors extra (move_steps_of pages sectors) p → p.next + lead_of pages sectors < slots
  all_taken extra p more taken = ⊎_elim
      (λ (few : steps_left pages sectors p + move_steps_of pages sectors ≤ move_steps_of pages sectors).
      absurd (omega (arith, few, more)))
      (λ (far : p.next + lead_of pages sectors < slots). far)
      taken.fewer

  -- and the log is in pace behind them
  pub ended_pace : (extra : ℕ) (p : PageMap T) → p.next + lead_of pages sectors < slots
      → IsCaughtUp pages slots sectors extra p → KeepsPace pages slots sectors extra p
  ended_pace extra p far caught =
      let none : p.copied + p.behind ≡ 0 = ⊎_elim
      (λ (e : p.copied + p.behind ≡ 0). e)
      (λ (n : p.copied + p.behind ≢ 0).
      let some : 0 < p.copied + p.behind = omega (arith, n) in
      let ends = caught.goes_on some in absurd (omega (arith, ends, far)))
      (cases_eq (p.copied + p.behind) 0) in
      record {
        ready = caught.ready;
        room = caught.room;
        few = let few = caught.few in omega (arith, few, none);
        goes_on = caught.goes_on;
        passed = caught.passed;
      }

  -- The slots for a move are found where they are free.
  pub found_far : (m : List ℕ) (p : PageMap T) → p.ready ≡ true → FindsFree slots m (free_slots slots p)
      → HasFreeSlots slots (lead_of pages sectors) m → lead_of pages sectors ≤ slots - p.next
  found_far m p ready finds has =
      let all = finds.all has.next has.free in
      let enough = has.enough in
      let free = free_of pages slots sectors p ready in
      omega (arith, all, enough, free)

  module _ (start : ℕ → ℕ) where
    -- more slots may be given up
    pub will_more : (m : List ℕ) (extra more : ℕ) (p : PageMap T) → extra ≤ more
        → WillKeepPace pages slots sectors start m extra p → WillKeepPace pages slots sectors start m more p
    will_more m extra more p le = ⊎_elim
        (λ (z : KeepsPace pages slots sectors extra p). inl (paced_more pages slots sectors extra more p le z))
        (λ (z : (p.ready ≡ false) × IsInPaceFrom pages slots sectors start m extra p.tried).
        inr (z.0, from_more pages slots sectors start m extra more p.tried le z.1))

    -- A page is copied again, or the log looks for its pages anew.
    pub caught_on : (m : List ℕ) (extra more : ℕ) (p : PageMap T) → extra ≤ more → p.ready ≡ true
        → StandsSo pages slots sectors start m extra p (IsCaughtUp pages slots sectors extra p)
        → IsCaughtUp pages slots sectors more p
    caught_on m extra more p le ready = ⊎_elim
        (λ (z : IsCaughtUp pages slots sectors extra p). caught_more pages slots sectors extra more p le z)
        (λ (z : (p.ready ≡ false) × IsInPaceFrom pages slots sectors start m extra p.tried).
        absurd (true≢false (sym ready ∙ z.0)))

    pub failed_stands : (m : List ℕ) (extra more : ℕ) (p : PageMap T) → extra ≤ more → p.ready ≡ false
        → StandsSo pages slots sectors start m extra p (IsCaughtUp pages slots sectors extra p)
        → WillKeepPace pages slots sectors start m more p
    failed_stands m extra more p le unready = ⊎_elim
        (λ (z : IsCaughtUp pages slots sectors extra p). absurd (true≢false (sym z.ready ∙ unready)))
        (λ (z : (p.ready ≡ false) × IsInPaceFrom pages slots sectors start m extra p.tried).
        will_more m extra more p le (inr z))

    -- the step is taken, or it has failed
    pub stepped_stands : (m : List ℕ) (extra more : ℕ) (p : PageMap T) → extra ≤ more
        → StandsSo pages slots sectors start m extra p (HasStepped pages slots sectors extra p)
        → WillKeepPace pages slots sectors start m more p
    stepped_stands m extra more p le = ⊎_elim
        (λ (z : HasStepped pages slots sectors extra p). inl (paced_more pages slots sectors extra more p le
        (stepped_paced pages slots sectors extra p z)))
        (λ (z : (p.ready ≡ false) × IsInPaceFrom pages slots sectors start m extra p.tried).
        will_more m extra more p le (inr z))

    -- the step is taken
    pub stepped_on_caught : (m : List ℕ) (extra more : ℕ) (p : PageMap T) → extra ≤ more → p.ready ≡ true
        → StandsSo pages slots sectors start m extra p (HasStepped pages slots sectors extra p)
        → IsCaughtUp pages slots sectors more p
    stepped_on_caught m extra more p le ready = ⊎_elim
        (λ (z : HasStepped pages slots sectors extra p).
        caught_more pages slots sectors extra more p le (stepped_caught extra p z))
        (λ (z : (p.ready ≡ false) × IsInPaceFrom pages slots sectors start m extra p.tried).
        absurd (true≢false (sym ready ∙ z.0)))

    -- A log that looks for its pages anew is in pace as it was.
    pub looked_anew : (entries : T → List ℕ) (m : List ℕ) (extra : ℕ) (p q : PageMap T)
        → IsLog entries pages slots sectors start m p → q.ready ≡ false → q.tried ≡ 0
        → WillKeepPace pages slots sectors start m extra p → WillKeepPace pages slots sectors start m extra q
    looked_anew entries m extra p q log unready none = ⊎_elim
        (λ (z : KeepsPace pages slots sectors extra p). inr (
          unready,
          record {
            pace = place_in_pace pages slots sectors extra entries start m p (log.known z.ready) z;
            passed = omega (arith, none);
          },
        ))
        (λ (z : (p.ready ≡ false) × IsInPaceFrom pages slots sectors start m extra p.tried). inr (
          unready,
          record {
            pace = z.1.pace;
            passed = omega (arith, none);
          },
        ))

    -- With the slots for a move, a log that has yet to find its pages will be in pace.
    pub freed_stands : (rise : (s : ℕ) → start s ≤ start (s + 1)) → start 0 ≡ 0 → start sectors ≡ area_size slots
        → start (2 * sectors) ≡ witness_start slots → 0 < sectors → LEAST_PAGES ≤ pages
        → (m : List ℕ) (p : PageMap T) → p.ready ≡ false → p.tried ≡ 0
        → HasFreeSlots slots (lead_of pages sectors) m → WillKeepPace pages slots sectors start m 0 p
    freed_stands rise first second third some least m p unready none has = inr (
      unready,
      record {
        pace = free_in_pace pages slots sectors start rise first second third some least m has;
        passed = omega (arith, none);
      },
    )
