-- Laws of what a read finds, and what it leaves.
use Rattle.std.specs.Prelude.{◌≡◌, ◌-◌, ◌&&◌, ℕ, Bool, true, false, not, nat_eq, List, if◌then◌else◌}
use Rattle.std.proofs.Common.{sym, ◌∙◌, ap, subst, arith}
use Rattle.std.proofs.lemmas.Bool.{false_from_ne_true}
use Rattle.flash_device.specs.FlashCalls.{FlashState}
use Rattle.flash_device.specs.FlashLogs.{base_in, turn_of}
use Rattle.flash_device.specs.PageTables.{AreFree}
use Rattle.flash_moves.specs.declared.place.PageMap.{PageMap}
use Rattle.flash_moves.specs.Paces.{free_slots}
use Rattle.flash_moves.specs.Places.{state_of}
use Rattle.flash_log.specs.SlotsInTurn.{IsNextSlot}
use Rattle.sector_moves.specs.SectorPlaces.{IsFirstFrom, IsSectorLog, KeepsStep, place_steps}
use Rattle.sector_moves.specs.SectorSpares.{HasOlderCopy, IsSectorSpare, sector_steps}
use Rattle.sector_log.specs.SectorLogs.{FindsSteps, SectorLogState, sector_log_value}
use Rattle.sector_log.specs.laws.Trying.{free_is, older_known, steps_fit, steps_known}

-- A log that knows its pages knows a free slot.
pub none_known : {T : Type 0} (entries : T → List ℕ) (pages slots sectors : ℕ) (start : ℕ → ℕ) (m : List ℕ)
    (p : PageMap T) → IsSectorLog entries pages slots sectors start m p → free_slots slots p ≡ 0 → p.ready ≡ false
none_known entries pages slots sectors start m p log none = false_from_ne_true p.ready (λ ready.
    let some = (steps_fit entries pages slots sectors start m p ready (log.known ready)).0 in
    absurd (omega (arith, none, some)))

-- What a search finds is the next slot.
pub next_known : {T : Type 0} (entries : T → List ℕ) (pages slots sectors : ℕ) (start : ℕ → ℕ) (m : List ℕ)
    (q : PageMap T) (tried : ℕ) → q.ready ≡ true → KeepsStep entries pages slots sectors start m q → q.tried ≡ tried
    → IsFirstFrom slots m (base_in slots q.turn) tried q.next → IsNextSlot slots m tried (slots - free_slots slots q)
next_known entries pages slots sectors start m q tried ready keeps same first =
    let place = keeps.place in
    let n = slots - free_slots slots q in
    let is = free_is slots q ready in
    let within = place.free.within in
    let next : q.next ≡ n = omega (arith, is, within) in
    let base : base_in slots q.turn ≡ base_in slots (turn_of slots m) = ap (base_in slots) place.turn in
    let passed = keeps.passed in
    record {
      free = subst (λ (b : ℕ). AreFree m b n slots) base
          (subst (λ (k : ℕ). AreFree m (base_in slots q.turn) k slots) next place.free);
      passed = omega (arith, passed, same, next);
      first = λ s are from.
          let least = first s (subst (λ (b : ℕ). AreFree m b s slots) (sym base) are) from in
          omega (arith, least, next);
    }

-- So is the progress that it finds.
pub finds_known : {T : Type 0} (entries : T → List ℕ) (pages slots sectors : ℕ) (start : ℕ → ℕ) (s : FlashState)
    (q : PageMap T) → q.ready ≡ true → KeepsStep entries pages slots sectors start s.words q
    → HasOlderCopy slots sectors start s.words q.turn q.copied q.older
    → FindsSteps pages slots sectors start (sector_log_value pages slots sectors s q)
finds_known entries pages slots sectors start s q ready keeps differs =
    let m = s.words in
    let place = keeps.place in
    let same = sym (older_known q ready) in
    record {
      shows = record {
        erased = q.erased;
        copied = q.copied;
        spare = subst (λ (o : ℕ). IsSectorSpare pages slots sectors start m (turn_of slots m) q.erased q.copied o) same
            (subst (λ (t : ℕ). IsSectorSpare pages slots sectors start m t q.erased q.copied q.older) place.turn
            place.spare);
        steps = steps_known pages sectors q ready
            ∙ ap (λ (t : ℕ). sector_steps pages sectors t q.erased q.copied) place.turn;
      };
      older = subst (λ (o : ℕ). HasOlderCopy slots sectors start m (turn_of slots m) q.copied o) same
          (subst (λ (t : ℕ). HasOlderCopy slots sectors start m t q.copied q.older) place.turn differs);
    }

-- A search that failed leaves all that contracts know, but the flash.
pub waits_same : {T : Type 0} (pages slots sectors : ℕ) (old new : FlashState) (p q : PageMap T) → p.ready ≡ false
    → q.ready ≡ false → q.tried ≡ p.tried → new.words ≡ old.words
    → sector_log_value pages slots sectors new q
    ≡ record (sector_log_value pages slots sectors old p) { flash = state_of pages slots new }
waits_same {T} pages slots sectors old new p q unready lost tried words =
    ap (λ (b : Bool). known_by b q q.tried new.words) lost
    ∙ ap (λ (t : ℕ). known_by false q t new.words) tried
    ∙ ap (λ (l : List ℕ). known_by false p p.tried l) words
    ∙ sym (ap (λ (b : Bool). known_by b p p.tried old.words) unready)
  where
    -- what the log knows, by whether it knows its pages
    known_by : Bool → PageMap T → ℕ → List ℕ → SectorLogState
    known_by b x t l = record {
      flash = state_of pages slots new;
      fresh = not b && nat_eq t 0;
      tried = t;
      free = if b then slots - x.next else 0;
      steps = if b then place_steps pages sectors x else 0;
      older = if b then x.older else 0;
      raw = l;
    }
