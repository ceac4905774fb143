-- Laws of the two steps of a move that pass the turn: where the mark failed, it may have passed or not.
use Rattle.std.specs.Prelude.{◌≡◌, ◌≢◌, ◌⊎◌, ◌<◌, ◌≤◌, ◌+◌, ◌*◌, ℕ, true, false, List}
use Rattle.std.proofs.Common.{sym, ◌∙◌, ap, ⊎_elim, subst, arith, true≢false}
use Rattle.nvm_board.specs.declared.board.TheConstants.{LEAST_PAGES}
use Rattle.flash_device.specs.declared.layout.TheConstants.{STEP_PAGES}
use Rattle.flash_device.specs.FlashBlocks.{area_size, steps_of, witness_start}
use Rattle.flash_device.specs.FlashCalls.{SameElsewhere}
use Rattle.flash_device.specs.FlashLogs.{base_in, close_b, close_of, turn_of}
use Rattle.flash_device.specs.PageTables.{AreFree, IsPageTable}
use Rattle.flash_area.specs.Spares.{spare_in}
use Rattle.flash_area.specs.laws.Copying.{area_free}
use Rattle.flash_moves.specs.declared.place.PageMap.{PageMap}
use Rattle.flash_moves.specs.Rings.{IsRing}
use Rattle.flash_moves.specs.laws.Moving.{witness_area}
use Rattle.sector_moves.specs.laws.Keeping.{in_step_from, pass_free, pass_has_ring, pass_moved, pass_other, pass_spare}
use Rattle.sector_moves.specs.laws.Keeping.{passed_in_step}
use Rattle.sector_moves.specs.laws.Stepping.{none_begun, sector_steps_most}
use Rattle.sector_moves.specs.SectorPlaces.{IsSectorLog, KeepsStep}
use Rattle.sector_moves.specs.SectorSpares.{HasMovedSteps, HasRoomForSteps, IsSectorSpare, sector_lead, sector_steps}
use Rattle.sector_moves.specs.SectorSpares.{spare_slot}

module _ (pages slots sectors : ℕ) (start : ℕ → ℕ) (first : start 0 ≡ 0) (second : start sectors ≡ area_size slots)
    (third : start (2 * sectors) ≡ witness_start slots) (left : steps_of pages < sectors)
    (least : LEAST_PAGES ≤ pages) {T : Type 0} (entries : T → List ℕ) (m after : List ℕ) (p : PageMap T)
    (keeps : KeepsStep entries pages slots sectors start m p) where
  -- The mark that passes the turn to the witness.
  module _ (is : p.turn ≡ 1) (ring : IsRing slots after) (h : SameElsewhere m (close_b slots) 4 after) where
    home : base_in slots p.turn ≡ area_size slots
    home = ap (base_in slots) is

    free : AreFree after (area_size slots) p.next slots
    free = area_free slots m after (area_size slots) (witness_area pages slots m after h) p.next
        (subst (λ (b : ℕ). AreFree m b p.next slots) home keeps.place.free)

    no_erased : p.erased ≡ 0
    no_erased = keeps.place.spare.idle is

    no_copied : p.copied ≡ 0
    no_copied = let none = no_erased in keeps.place.spare.fresh (omega (arith, none, left))

    no_older : p.older ≡ 0
    no_older = let few = keeps.place.spare.few in let none = no_copied in omega (arith, few, none)

    room : sector_steps pages sectors 1 p.erased p.copied + p.next ≤ slots
    room = subst (λ (t : ℕ). sector_steps pages sectors t p.erased p.copied + p.next ≤ slots) is keeps.room

    begun : (turn : ℕ) → IsSectorSpare pages slots sectors start after turn 0 0 0
    begun = none_begun pages slots sectors start first second third least after

    -- the pages have to be found again
    pub witness_unknown : (turn_of slots after ≡ 1) ⊎ (turn_of slots after ≡ 2) → (table : T)
        → IsSectorLog entries pages slots sectors start after (record p { ready = false; table = table })
    witness_unknown passes table = let fits = room in let no_sector = no_erased in let no_page = no_copied in record {
      ring = ring;
      known = λ e. absurd (true≢false (sym e));
      found = λ e. ⊎_elim
          (λ (one : turn_of slots after ≡ 1). in_step_from pages slots sectors start after p.tried 1 0 0 0 p.next
          (sym one) (begun 1) free (omega (arith, fits, no_sector, no_page)) keeps.passed)
          (λ (two : turn_of slots after ≡ 2). in_step_from pages slots sectors start after p.tried 2 0 0 0 p.next
          (sym two) (begun 2) free (omega (arith, fits, no_sector, no_page)) keeps.passed)
          passes;
    }

    -- or the turn stays
    pub witness_stays : turn_of slots after ≡ 1 → (table : T)
        → IsPageTable pages after (area_size slots) slots (entries table)
        → IsSectorLog entries pages slots sectors start after (record p { ready = true; table = table })
    witness_stays one table index = record {
      ring = ring;
      known = λ e. record {
        place = record {
          turn = is ∙ sym one;
          small = keeps.place.small;
          index = subst (λ (b : ℕ). IsPageTable pages after b slots (entries table)) (sym home) index;
          free = subst (λ (b : ℕ). AreFree after b p.next slots) (sym home) free;
          spare = subst (λ (e : ℕ). IsSectorSpare pages slots sectors start after p.turn e p.copied p.older)
              (sym no_erased)
              (subst (λ (c : ℕ). IsSectorSpare pages slots sectors start after p.turn 0 c p.older) (sym no_copied)
              (subst (λ (o : ℕ). IsSectorSpare pages slots sectors start after p.turn 0 0 o) (sym no_older)
              (begun p.turn)));
          goes_on = keeps.place.goes_on;
        };
        room = keeps.room;
        passed = keeps.passed;
      };
      found = λ e. absurd (true≢false e);
    }

    -- or it has passed
    pub witness_passed : turn_of slots after ≡ 2 → (table : T)
        → IsPageTable pages after (area_size slots) slots (entries table)
        → IsSectorLog entries pages slots sectors start after
        (record p { ready = true; table = table; turn = 2; erased = 0; copied = 0; older = 0 })
    witness_passed two table index = let fits = room in let no_sector = no_erased in let no_page = no_copied in record {
      ring = ring;
      known = λ e. record {
        place = record {
          turn = sym two;
          small = omega arith;
          index = index;
          free = free;
          spare = begun 2;
          goes_on = λ some. absurd (omega (arith, some));
        };
        room = omega (arith, fits, no_sector, no_page);
        passed = keeps.passed;
      };
      found = λ e. absurd (true≢false e);
    }

  -- The mark that passes the turn to the other area, which has all pages.
  module _ (rise : (s : ℕ) → start s ≤ start (s + 1)) (whole : pages ≡ STEP_PAGES * steps_of pages)
      (fits : spare_slot slots sectors start p.turn (steps_of pages) + sector_lead sectors < slots)
      (moved : HasMovedSteps pages slots sectors start m p.turn) (ring : IsRing slots m) (other : p.turn ≢ 1)
      (h : SameElsewhere m (close_of slots p.turn) 2 after) where
    ring_after : IsRing slots after
    ring_after = pass_has_ring pages slots sectors start rise first second third left whole m p.turn fits moved after
        ring keeps.place.turn keeps.place.small other h

    in_step : HasRoomForSteps pages slots sectors start m 0
    in_step = in_step_from pages slots sectors start m 0 p.turn p.erased p.copied p.older p.next keeps.place.turn
        keeps.place.spare keeps.place.free keeps.room (omega arith)

    -- the pages have to be found again
    pub turn_unknown : (q : PageMap T) → q.ready ≡ false → q.tried ≡ 0
        → IsSectorLog entries pages slots sectors start after q
    turn_unknown q unready none = record {
      ring = ring_after;
      known = λ e. absurd (true≢false (sym e ∙ unready));
      found = λ e. subst (λ (t : ℕ). HasRoomForSteps pages slots sectors start after t) (sym none)
          (passed_in_step pages slots sectors start rise first second third left whole m p.turn fits moved after ring
          keeps.place.turn keeps.place.small other h least in_step);
    }

    -- or the turn stays
    pub turn_stays : turn_of slots after ≡ p.turn → (table : T) (tried behind : ℕ) → tried ≡ 0
        → IsPageTable pages after (base_in slots p.turn) slots (entries table)
        → IsSectorLog entries pages slots sectors start after
        (record p { ready = true; table = table; tried = tried; behind = behind })
    turn_stays same table tried behind none index = record {
      ring = ring_after;
      known = λ e. record {
        place = record {
          turn = sym same;
          small = keeps.place.small;
          index = index;
          free = pass_free pages slots sectors start rise first second third left whole m p.turn fits moved after ring
              keeps.place.turn keeps.place.small other h p.next keeps.place.free;
          spare = pass_spare pages slots sectors start rise first second third left whole m p.turn fits moved after
              ring keeps.place.turn keeps.place.small other h p.erased p.copied p.older keeps.place.spare;
          goes_on = keeps.place.goes_on;
        };
        room = keeps.room;
        passed = omega (arith, none);
      };
      found = λ e. absurd (true≢false e);
    }

    -- or it has passed
    pub turn_passed : (turn next : ℕ) → turn ≡ turn_of slots after → turn < 3 → turn ≢ p.turn
        → next ≡ spare_slot slots sectors start p.turn (steps_of pages) → (table : T) (tried behind : ℕ) → tried ≡ 0
        → IsPageTable pages after (base_in slots turn) slots (entries table)
        → IsSectorLog entries pages slots sectors start after (record p {
          ready = true;
          table = table;
          turn = turn;
          next = next;
          tried = tried;
          erased = 0;
          copied = 0;
          behind = behind;
          older = 0;
        })
    turn_passed turn next found small differs behind_steps table tried behind none index =
        let base : base_in slots turn ≡ spare_in slots p.turn = ap (base_in slots) found
        ∙ pass_other pages slots sectors start rise first second third left whole m p.turn fits moved after ring
        keeps.place.turn keeps.place.small other h (λ e. differs (found ∙ e)) in
        let most = sector_steps_most pages sectors turn 0 0 left in record {
          ring = ring_after;
          known = λ e. record {
            place = record {
              turn = found;
              small = small;
              index = index;
              free = subst (λ (n : ℕ). AreFree after (base_in slots turn) n slots) (sym behind_steps)
                  (subst (λ (b : ℕ). AreFree after b (spare_slot slots sectors start p.turn (steps_of pages)) slots)
                  (sym base) (pass_moved pages slots sectors start rise first second third left whole m p.turn fits
                  moved after ring keeps.place.turn keeps.place.small other h));
              spare = none_begun pages slots sectors start first second third least after turn;
              goes_on = λ some. absurd (omega (arith, some));
            };
            room = omega (arith, most, behind_steps, fits);
            passed = omega (arith, none);
          };
          found = λ e. absurd (true≢false e);
        }
