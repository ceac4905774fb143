-- Laws of the steps that are left of a move.
use Rattle.std.specs.Prelude.{◌≡◌, ◌<◌, ◌≤◌, ◌+◌, ◌-◌, ◌*◌, ℕ, Bool, true, false, List, if◌then◌else◌, max, min}
use Rattle.std.specs.Prelude.{nat_eq}
use Rattle.std.proofs.Common.{refl, sym, ◌∙◌, ap, subst, arith}
use Rattle.std.proofs.Math.Nat.{le-max_left, le-max_right, max-le, min-eq_left, min-le_right}
use Rattle.nvm_board.specs.declared.board.TheConstants.{LEAST_PAGES}
use Rattle.flash_device.specs.FlashBlocks.{area_size, steps_of, witness_start}
use Rattle.flash_device.specs.FlashLogs.{base_in, find}
use Rattle.flash_device.specs.PageTables.{AreFree, IsFirstFreeSlot}
use Rattle.flash_device.specs.laws.Indexing.{find_zero, free_later}
use Rattle.flash_area.specs.Spares.{spare_in, spare_sector}
use Rattle.flash_area.specs.laws.Sectors.{spare_first}
use Rattle.flash_moves.specs.declared.place.PageMap.{PageMap}
use Rattle.sector_moves.specs.SectorPlaces.{IsSectorPlace, KeepsStep, place_steps}
use Rattle.sector_moves.specs.SectorSpares.{HasRoomForSteps, IsSectorSpare, sector_steps, spare_slots}

-- a move has no more steps than sectors, and one
pub sector_steps_most : (pages sectors turn erased copied : ℕ) → steps_of pages < sectors
    → sector_steps pages sectors turn erased copied ≤ sectors + 1
sector_steps_most pages sectors turn erased copied left = by_test (nat_eq turn 1)
  where
    by_test : (b : Bool) → (if b then 1 else 0) + (sectors - steps_of pages - erased) + (steps_of pages - copied)
        ≤ sectors + 1
    by_test true = omega (arith, left)
    by_test false = omega (arith, left)

-- behind the slots that were tried all are free too
pub free_behind : (m : List ℕ) (base first tried slots next : ℕ) → next ≡ max first (min tried slots)
    → AreFree m base first slots → AreFree m base next slots
free_behind m base first tried slots next is free =
    let least = le-max_left first (min tried slots) in
    let within = free.within in
    let most : max first (min tried slots) ≤ slots = max-le within (min-le_right tried slots) in
    free_later m base first next slots free (omega (arith, is, least)) (omega (arith, is, most))

module _ (pages slots sectors : ℕ) (start : ℕ → ℕ) where
  -- any words show a move that has not begun
  pub none_begun : start 0 ≡ 0 → start sectors ≡ area_size slots → start (2 * sectors) ≡ witness_start slots
      → LEAST_PAGES ≤ pages → (m : List ℕ) (turn : ℕ) → IsSectorSpare pages slots sectors start m turn 0 0 0
  none_begun first second third least m turn = record {
    within = omega arith;
    most = omega (arith, least);
    idle = λ is. refl;
    fresh = λ lt. refl;
    few = omega arith;
    blank = record { each = λ k lt. absurd (omega (arith, lt)) };
    copies = record {
      each = λ p k lt. absurd (omega (arith, lt));
      left = λ p from below none. ap (λ (n : ℕ). find m (spare_in slots turn) n p) slots_none
          ∙ find_zero m (spare_in slots turn) p;
    };
  }
    where
      begins : start (spare_sector sectors turn + 0) ≡ spare_in slots turn
      begins =
          let e : spare_sector sectors turn + 0 ≡ spare_sector sectors turn = omega arith in
          ap start e ∙ spare_first start slots sectors first second third turn

      slots_none : spare_slots slots sectors start turn 0 ≡ 0
      slots_none = let e = begins in omega (arith, e)

  module _ {T : Type 0} (entries : T → List ℕ) (m : List ℕ) (p : PageMap T) where
    -- What is found at the first free slot, or behind the slots that were tried, has room where any progress does.
    pub found_keeps : (first : ℕ) → IsSectorPlace entries pages slots sectors start m p
        → IsFirstFreeSlot m (base_in slots p.turn) first slots → p.next ≡ max first (min p.tried slots)
        → ((e c o : ℕ) → IsSectorSpare pages slots sectors start m p.turn e c o
        → sector_steps pages sectors p.turn e c + p.next ≤ slots → place_steps pages sectors p + p.next ≤ slots)
        → HasRoomForSteps pages slots sectors start m p.tried → KeepsStep entries pages slots sectors start m p
    found_keeps first place least next fits is =
        let turn = place.turn in
        let free : AreFree m (base_in slots p.turn) is.next slots =
        subst (λ (t : ℕ). AreFree m (base_in slots t) is.next slots) (sym turn) is.free in
        let spare : IsSectorSpare pages slots sectors start m p.turn is.erased is.copied is.older =
        subst (λ (t : ℕ). IsSectorSpare pages slots sectors start m t is.erased is.copied is.older) (sym turn)
        is.spare in
        let room : sector_steps pages sectors p.turn is.erased is.copied + is.next ≤ slots =
        subst (λ (t : ℕ). sector_steps pages sectors t is.erased is.copied + is.next ≤ slots) (sym turn) is.room in
        let passed = is.passed in
        let within = free.within in
        let all : min p.tried slots ≡ p.tried = min-eq_left (omega (arith, passed, within)) in
        let found = least.first is.next free in
        let most : max first (min p.tried slots) ≤ is.next = max-le found (omega (arith, all, passed)) in
        let reached : min p.tried slots ≤ max first (min p.tried slots) = le-max_right first (min p.tried slots) in
        record {
          place = place;
          room = fits is.erased is.copied is.older spare (fewer _ room (omega (arith, next, most)));
          passed = omega (arith, next, all, reached);
        }
      where
        fewer : (n : ℕ) {a b : ℕ} → n + b ≤ slots → a ≤ b → n + a ≤ slots
        fewer n room less = omega (arith, room, less)
