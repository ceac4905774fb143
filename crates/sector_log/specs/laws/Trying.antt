-- Laws of a write whose record is tried again.
use Rattle.std.specs.Prelude.{◌≡◌, ◌≢◌, ◌⊎◌, ◌<◌, ◌≤◌, ◌+◌, ◌-◌, ℕ, Bool, true, false, Result, IsErrOf, Ok, Err}
use Rattle.std.specs.Prelude.{IsErrAnd, List, if◌then◌else◌}
use Rattle.std.proofs.Common.{refl, sym, ◌∙◌, ap, inl, inr, ⊎_elim, subst, arith}
use Rattle.nvm_board.specs.declared.board.DeviceErr.{DeviceErr}
use Rattle.nvm_board.specs.declared.board.DeviceErr.TheVariants.{Fault, PowerLost}
use Rattle.flash_device.specs.FlashBlocks.{steps_of}
use Rattle.flash_device.specs.FlashCalls.{FlashState, KeepsPower, Tries}
use Rattle.flash_moves.specs.declared.place.PageMap.{PageMap}
use Rattle.flash_moves.specs.Paces.{free_slots}
use Rattle.flash_moves.specs.Places.{state_of}
use Rattle.flash_moves.specs.declared.ahead.TheConstants.{TRIES}
use Rattle.sector_moves.specs.SectorPlaces.{EndsSectorStep, KeepsStep, StaysAtStep, place_steps}
use Rattle.sector_moves.specs.SectorSpares.{HasFewestSteps, HoldsSlots, IsSectorSpare, sector_lead}
use Rattle.sector_moves.specs.SectorSpares.{sector_steps}
use Rattle.sector_moves.specs.laws.Stepping.{sector_steps_most}
use Rattle.sector_log.specs.SectorLogs.{HasBeside, KeepsBeside, StopsAtStep, known_older, known_sector_steps}
use Rattle.sector_log.specs.SectorLogs.{sector_log_value}

-- by what a value is
pub by_bool : {A : Type 0} (b : Bool) → (b ≡ true → A) → (b ≡ false → A) → A
by_bool true f g = f refl
by_bool false f g = g refl

-- calls behind which the flash has power, and one more
pub tries_after : {R : Type 0} (least : ℕ) (old mid new : FlashState) (r : Result R DeviceErr) → KeepsPower old mid
    → Tries least mid new r → Tries least old new r
tries_after least old mid new r kept tries = record {
  ok = λ e.
      let is = tries.ok e in
      let less = kept.faults in
      let more = is.faults in
      record { lit = is.lit; due = is.due ∙ kept.due; faults = omega (arith, less, more) };
  lost = λ e.
      let is = tries.lost e in
      let less = kept.faults in
      let more = is.faults in
      record { dark = is.dark; due = sym kept.due ∙ is.due; faults = omega (arith, less, more) };
  fault = λ e.
      let is = tries.fault e in
      let less = kept.faults in
      let more = is.0.faults in
      let most = is.1 in (
        record { lit = is.0.lit; due = is.0.due ∙ kept.due; faults = omega (arith, less, more) },
        omega (arith, less, most),
      );
}

-- a Fault is returned only after more faults
pub tries_most : {R : Type 0} (least most : ℕ) (old new : FlashState) (r : Result R DeviceErr)
    → (IsErrOf r Fault → old.faults + most ≤ new.faults) → Tries least old new r → Tries most old new r
tries_most least most old new r many tries = record {
  ok = tries.ok;
  lost = tries.lost;
  fault = λ e. ((tries.fault e).0, many e);
}

-- no call takes a fault back
pub tries_faults : {R : Type 0} (least : ℕ) (old new : FlashState) (r : Result R DeviceErr) → Tries least old new r
    → old.faults ≤ new.faults
tries_faults least old new (Ok x) tries = (tries.ok refl).faults
tries_faults least old new (Err PowerLost) tries = (tries.lost refl).faults
tries_faults least old new (Err Fault) tries = (tries.fault refl).0.faults

-- a Fault that is handed on
pub fault_handed : {S R : Type 0} (r : Result R DeviceErr) (e : DeviceErr) → IsErrAnd r (λ f. f ≡ e) → IsErrOf r Fault
    → IsErrOf {T = S} (Err e) Fault
fault_handed (Ok x) e is fault = absurd is
fault_handed (Err f) e is fault = ap Err (sym is ∙ ap error_of fault)
  where
    error_of : {R : Type 0} → Result R DeviceErr → DeviceErr
    error_of (Ok x) = Fault
    error_of (Err f) = f

-- the free slots, where some are known
pub free_known : {T : Type 0} (slots : ℕ) (p : PageMap T) → 0 < free_slots slots p
    → (p.ready ≡ true) × (free_slots slots p ≡ slots - p.next)
free_known slots p = by_test p.ready
  where
    by_test : (b : Bool) → 0 < (if b then slots - p.next else 0)
        → (b ≡ true) × ((if b then slots - p.next else 0) ≡ slots - p.next)
    by_test true some = (refl, refl)
    by_test false some = absurd (omega (arith, some))

pub free_unknown : {T : Type 0} (slots : ℕ) (p : PageMap T) → p.ready ≡ false → free_slots slots p ≡ 0
free_unknown slots p unready = ap (λ (b : Bool). if b then slots - p.next else 0) unready

-- Where no step is due before a write, each of its tries has a slot beside those of the steps.
pub tries_fit : {T : Type 0} (pages slots sectors : ℕ) (p q : PageMap T) (tried : ℕ) → steps_of pages < sectors
    → sector_lead sectors < free_slots slots p → tried < TRIES → q.next ≡ p.next + tried
    → ¬ (slots ≤ place_steps pages sectors q + q.next)
tries_fit pages slots sectors p q tried left calm few next = λ full.
    let most = sector_steps_most pages sectors q.turn q.erased q.copied left in
    let is = (free_known slots p (omega (arith, calm))).1 in
    omega (arith, most, is, calm, few, next, full)

-- as many steps are left, where the move has come as far
pub same_steps : {T : Type 0} (pages sectors : ℕ) (p q : PageMap T) → StaysAtStep p q
    → place_steps pages sectors q ≡ place_steps pages sectors p
same_steps pages sectors p q same = ap (λ (t : ℕ). sector_steps pages sectors t q.erased q.copied) same.turn
    ∙ ap (λ (e : ℕ). sector_steps pages sectors p.turn e q.copied) same.erased
    ∙ ap (λ (c : ℕ). sector_steps pages sectors p.turn p.erased c) same.copied

-- the steps that a log knows to be left, and the copy that may be older
pub steps_known : {T : Type 0} (pages sectors : ℕ) (p : PageMap T) → p.ready ≡ true
    → known_sector_steps pages sectors p ≡ place_steps pages sectors p
steps_known pages sectors p ready = ap (λ (b : Bool). if b then place_steps pages sectors p else 0) ready

pub older_known : {T : Type 0} (p : PageMap T) → p.ready ≡ true → known_older p ≡ p.older
older_known p ready = ap (λ (b : Bool). if b then p.older else 0) ready

pub free_is : {T : Type 0} (slots : ℕ) (p : PageMap T) → p.ready ≡ true → free_slots slots p ≡ slots - p.next
free_is slots p ready = ap (λ (b : Bool). if b then slots - p.next else 0) ready

-- a log that knows its pages has a free slot for each step that is left
pub steps_fit : {T : Type 0} (entries : T → List ℕ) (pages slots sectors : ℕ) (start : ℕ → ℕ) (m : List ℕ)
    (p : PageMap T) → p.ready ≡ true → KeepsStep entries pages slots sectors start m p
    → (0 < free_slots slots p) × (known_sector_steps pages sectors p ≤ free_slots slots p)
steps_fit entries pages slots sectors start m p ready keeps =
    let free = free_is slots p ready in
    let steps = steps_known pages sectors p ready in
    let room = keeps.room in
    let most = keeps.place.spare.most in
    (omega (arith, free, room, most), omega (arith, free, steps, room))

-- what a look finds, as the log knows it
pub fewest_known : {T : Type 0} (pages slots sectors : ℕ) (start : ℕ → ℕ) (m : List ℕ) (p : PageMap T) (turn : ℕ)
    → (p.ready ≡ true → p.turn ≡ turn)
    → HasFewestSteps pages slots sectors start m p.turn (slots - p.next) (place_steps pages sectors p)
    → HasFewestSteps pages slots sectors start m turn (free_slots slots p) (known_sector_steps pages sectors p)
fewest_known pages slots sectors start m p turn is few = record {
  fewest = λ e c o spare fits near. by_bool p.ready
      (λ ready.
      let same = is ready in
      let free = free_is slots p ready in
      let known = steps_known pages sectors p ready in
      let there : IsSectorSpare pages slots sectors start m p.turn e c o =
      subst (λ (t : ℕ). IsSectorSpare pages slots sectors start m t e c o) (sym same) spare in
      let turned : sector_steps pages sectors p.turn e c ≡ sector_steps pages sectors turn e c =
      ap (λ (t : ℕ). sector_steps pages sectors t e c) same in
      let most = few.fewest e c o there (omega (arith, fits, free, turned)) (omega (arith, near, free, turned)) in
      omega (arith, most, known, turned))
      (λ unready.
      let none : known_sector_steps pages sectors p ≡ 0 =
      ap (λ (b : Bool). if b then place_steps pages sectors p else 0) unready in
      omega (arith, none));
}

-- where the place stays, and the words of the flash, so does all that contracts know, but the flash
pub value_stays : {T : Type 0} (pages slots sectors : ℕ) (s t : FlashState) (p q : PageMap T)
    → (p.ready ≡ true → q ≡ p) → t.words ≡ s.words → 0 < free_slots slots p
    → sector_log_value pages slots sectors t q
    ≡ record (sector_log_value pages slots sectors s p) { flash = state_of pages slots t }
value_stays pages slots sectors s t p q same words some =
    ap (λ (r : PageMap _). sector_log_value pages slots sectors t r) (same (free_known slots p some).0)
    ∙ ap (λ (m : List ℕ). record (sector_log_value pages slots sectors t p) { raw = m }) words

module _ {T : Type 0} (pages slots sectors : ℕ) (p q : PageMap T) where
  -- a step that is taken leaves its slot to the record, and one that failed has a fault
  pub beside_taken : (before after : ℕ) → steps_of pages < sectors → before ≤ after
      → EndsSectorStep pages slots sectors p q → HasBeside pages slots sectors before after p q
  beside_taken before after left more ends =
      let most = sector_steps_most pages sectors q.turn q.erased q.copied left in record {
        beside = ⊎_elim
            (λ (z : (place_steps pages sectors q + 1 ≤ place_steps pages sectors p) × (q.next ≡ p.next)).
            let fewer = z.0 in
            let next = z.1 in
            let x : place_steps pages sectors q + q.next + 1 + before ≤ place_steps pages sectors p + p.next + after =
            omega (arith, fewer, next, more) in
            inl x)
            (λ (many : q.next + sector_lead sectors < slots).
            let x : place_steps pages sectors q + q.next + TRIES + 1 + before ≤ slots + after =
            omega (arith, many, most, more) in
            inr x)
            ends.fewer;
      }

  pub beside_failed : (before after : ℕ) → before + 1 ≤ after → StaysAtStep p q
      → HasBeside pages slots sectors before after p q
  beside_failed before after more same =
      let steps = same_steps pages sectors p q same in
      let next = same.next in
      let x : place_steps pages sectors q + q.next + 1 + before ≤ place_steps pages sectors p + p.next + after =
      omega (arith, steps, next, more) in
      record { beside = inl x }

  -- a record that failed takes a slot, and has a fault
  pub beside_again : (before mid after : ℕ) (r : PageMap T) → HasBeside pages slots sectors before mid p q
      → r.next ≡ q.next + 1 → place_steps pages sectors r ≡ place_steps pages sectors q → mid + 1 ≤ after
      → HasBeside pages slots sectors before after p r
  beside_again before mid after r was next steps more = record {
    beside = ⊎_elim
        (λ (z : place_steps pages sectors q + q.next + 1 + before ≤ place_steps pages sectors p + p.next + mid).
        let x : place_steps pages sectors r + r.next + 1 + before ≤ place_steps pages sectors p + p.next + after =
        omega (arith, z, next, steps, more) in
        inl x)
        (λ (z : place_steps pages sectors q + q.next + TRIES + 1 + before ≤ slots + mid).
        let x : place_steps pages sectors r + r.next + TRIES + 1 + before ≤ slots + after =
        omega (arith, z, next, steps, more) in
        inr x)
        was.beside;
  }

  -- where no slot is left beside those of the steps, more tries failed than there were, or as many as a write has
  pub beside_spent : {S : Type 0} (before after k : ℕ) → HasBeside pages slots sectors before after p q
      → q.ready ≡ true → place_steps pages sectors q + q.next ≤ slots → q.copied < steps_of pages
      → slots ≤ place_steps pages sectors q + q.next → 0 < free_slots slots p
      → known_sector_steps pages sectors p + k ≤ free_slots slots p
      → (before + TRIES ≤ after)
      ⊎ (((before + k < after) × (0 < free_slots slots q)
      × (free_slots slots q ≤ known_sector_steps pages sectors q)) ⊎ S)
  beside_spent before after k was ready fits more full some room =
      let known = free_known slots p some in
      let free = known.1 in
      let steps = steps_known pages sectors p known.0 in
      ⊎_elim
      (λ (z : place_steps pages sectors q + q.next + 1 + before ≤ place_steps pages sectors p + p.next + after).
      let x : before + k < after = omega (arith, z, full, free, steps, room, some) in
      let new_free = free_is slots q ready in
      let new_steps = steps_known pages sectors q ready in
      let none : free_slots slots q ≤ known_sector_steps pages sectors q = omega (arith, full, new_free, new_steps) in
      let left : 0 < free_slots slots q = omega (arith, fits, more, new_free) in
      inr (inl (x, left, none)))
      (λ (z : place_steps pages sectors q + q.next + TRIES + 1 + before ≤ slots + after).
      let x : before + TRIES ≤ after = omega (arith, z, full) in
      inl x)
      was.beside

  -- as many slots stay beside those of the steps, behind a record
  pub beside_put : (s t : FlashState) (mid : ℕ) (r : PageMap T) → HasBeside pages slots sectors s.faults mid p q
      → (r.ready ≡ true → (r.next ≡ q.next + 1)
      × (place_steps pages sectors r ≡ place_steps pages sectors q)) → mid ≤ t.faults
      → 0 < free_slots slots p → 0 < free_slots slots r
      → KeepsBeside (sector_log_value pages slots sectors s p) (sector_log_value pages slots sectors t r)
  beside_put s t mid r was put more some left =
      let known = free_known slots p some in
      let free = known.1 in
      let steps = steps_known pages sectors p known.0 in
      let there = free_known slots r left in
      let new_free = there.1 in
      let new_steps = steps_known pages sectors r there.0 in
      let next = (put there.0).0 in
      let same = (put there.0).1 in record {
        beside = ⊎_elim
            (λ (z : place_steps pages sectors q + q.next + 1 + s.faults
            ≤ place_steps pages sectors p + p.next + mid).
            let x : known_sector_steps pages sectors r + free_slots slots p + s.faults
            ≤ known_sector_steps pages sectors p + free_slots slots r + t.faults =
            omega (arith, z, free, steps, new_free, new_steps, next, same, more, some, left) in
            inl x)
            (λ (z : place_steps pages sectors q + q.next + TRIES + 1 + s.faults ≤ slots + mid).
            let x : known_sector_steps pages sectors r + TRIES + s.faults ≤ free_slots slots r + t.faults =
            omega (arith, z, new_free, new_steps, next, same, more, left) in
            inr x)
            was.beside;
      }

  -- or behind a step that failed
  pub beside_stays : (s t : FlashState) → (p.ready ≡ true → q.ready ≡ true → StaysAtStep p q) → s.faults ≤ t.faults
      → 0 < free_slots slots p → 0 < free_slots slots q
      → KeepsBeside (sector_log_value pages slots sectors s p) (sector_log_value pages slots sectors t q)
  beside_stays s t stays more some left =
      let known = free_known slots p some in
      let free = known.1 in
      let steps = steps_known pages sectors p known.0 in
      let there = free_known slots q left in
      let new_free = there.1 in
      let new_steps = steps_known pages sectors q there.0 in
      let same = stays known.0 there.0 in
      let next = same.next in
      let as_many = same_steps pages sectors p q same in
      let x : known_sector_steps pages sectors q + free_slots slots p + s.faults
      ≤ known_sector_steps pages sectors p + free_slots slots q + t.faults =
      omega (arith, free, steps, new_free, new_steps, next, as_many, more, some, left) in
      record { beside = inl x }

  -- a write stops where another copy may be older, by why its step failed
  pub stops_at : (start : ℕ → ℕ) (s t : FlashState) (page : ℕ) → p.ready ≡ true → StaysAtStep p q → q.older ≢ 0
      → q.older ≢ page + 1
      → ((n : ℕ) → n < TRIES → HoldsSlots pages slots sectors start n → p.older ≢ 0
      → (s.faults + n ≤ t.faults) ⊎ (t.operations ≤ s.operations + 1))
      → StopsAtStep pages slots sectors start page (sector_log_value pages slots sectors s p)
      (sector_log_value pages slots sectors t q)
  stops_at start s t page ready same some other why =
      let old_older = older_known p ready in
      let new_older = older_known q same.ready in
      let older = same.older in record {
        some = λ e. some (omega (arith, e, old_older, older));
        other = λ e. other (omega (arith, e, old_older, older));
        older = omega (arith, old_older, new_older, older);
        steps = steps_known pages sectors q same.ready ∙ same_steps pages sectors p q same
            ∙ sym (steps_known pages sectors p ready);
        free = free_is slots q same.ready ∙ ap (λ (n : ℕ). slots - n) same.next ∙ sym (free_is slots p ready);
        why = λ n few holds. why n few holds (λ e. some (older ∙ e));
      }
