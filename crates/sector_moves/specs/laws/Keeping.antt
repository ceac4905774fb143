-- Laws of the steps of a move: what each leaves as it was, and how far the move has come behind it.
use Rattle.std.specs.Prelude.{◌≡◌, ◌≢◌, ◌⊎◌, ◌<◌, ◌≤◌, ◌+◌, ◌-◌, ◌*◌, ℕ, Bool, true, false, List, nat_eq, slice_index}
use Rattle.std.specs.Prelude.{◌&&◌}
use Rattle.std.proofs.Common.{refl, sym, ◌∙◌, ap, inl, inr, ⊎_elim, subst, arith, true≢false}
use Rattle.nvm_board.specs.declared.board.TheConstants.{LEAST_PAGES}
use Rattle.flash_device.specs.declared.flash.TheConstants.{BLANK}
use Rattle.flash_device.specs.declared.layout.TheConstants.{FIRST_MARK, SECOND_MARK, STEP_PAGES}
use Rattle.flash_device.specs.FlashBlocks.{area_size, steps_of, witness_start}
use Rattle.flash_device.specs.FlashCalls.{AreFilled, SameElsewhere}
use Rattle.flash_device.specs.FlashLogs.{base_in, close_of, find, is_marked, slot_of, turn_of, word_of, words_of}
use Rattle.flash_device.specs.PageTables.{AreFree}
use Rattle.flash_device.specs.laws.Finding.{find-past}
use Rattle.flash_device.specs.laws.Marks.{elsewhere_wider, filled_open}
use Rattle.flash_device.specs.laws.Putting.{holds_none}
use Rattle.flash_device.specs.laws.Rising.{rises_to, sectors_filled}
use Rattle.flash_area.specs.Spares.{HasCopies, spare_in, spare_sector}
use Rattle.flash_area.specs.laws.Copying.{SameArea, area_found, area_free, area_page}
use Rattle.flash_area.specs.laws.Sectors.{spare_end}
use Rattle.flash_moves.specs.declared.place.PageMap.{PageMap}
use Rattle.flash_moves.specs.Paces.{HasMoved}
use Rattle.flash_moves.specs.Places.{IsPlaceOf}
use Rattle.flash_moves.specs.Rings.{IsRing}
use Rattle.flash_moves.specs.laws.Moving.{Stays}
use Rattle.flash_moves.specs.laws.Sparing.{SameBlock, block_area, index_same, pass_block, pass_home, pass_ring}
use Rattle.flash_moves.specs.laws.Sparing.{pass_turns, pass_words, spare_leaves, spare_stays}
use Rattle.sector_moves.specs.laws.Sizing.{sector_high, sector_low}
use Rattle.sector_moves.specs.laws.Stepping.{none_begun, sector_steps_most}
use Rattle.sector_moves.specs.SectorPlaces.{HasTakenStep, IsSectorLog, KeepsStep}
use Rattle.sector_moves.specs.SectorSpares.{HasMovedSteps, HasSectorCopies, HasStepCopies, HasRoomForSteps}
use Rattle.sector_moves.specs.SectorSpares.{IsSectorSpare, last_sectors, last_start, sector_lead, sector_steps}
use Rattle.sector_moves.specs.SectorSpares.{spare_slot, spare_slots}

-- What a step leaves that changes one sector of the other area, and no word elsewhere.
pub record LeavesSector {T : Type 0} (entries : T → List ℕ) (pages slots sectors : ℕ) (start : ℕ → ℕ) (m : List ℕ)
    (p : PageMap T) (n : ℕ) (after : List ℕ) : Type 0 where
  pub stays : Stays pages slots m after
  pub failed : IsSectorLog entries pages slots sectors start after p
  pub erased : n ≡ steps_of pages + p.erased → p.erased < last_sectors pages sectors
      → AreFilled after (start (spare_sector sectors p.turn + n))
      (start (spare_sector sectors p.turn + (n + 1)) - start (spare_sector sectors p.turn + n)) BLANK
      → IsSectorLog entries pages slots sectors start after (record p { erased = p.erased + 1 })
  pub copied : p.erased ≡ last_sectors pages sectors → p.copied + 1 < steps_of pages
      → slots ≤ p.next + sector_lead sectors → HasStepCopies pages slots sectors start after p.turn (p.copied + 1) 0
      → IsSectorLog entries pages slots sectors start after (record p { copied = p.copied + 1; older = 0 })
  pub moved : p.erased ≡ last_sectors pages sectors → p.copied + 1 ≡ steps_of pages
      → HasStepCopies pages slots sectors start after p.turn (p.copied + 1) 0
      → HasMovedSteps pages slots sectors start after p.turn

-- the copies stay where the slots do that have them, and the area in use loses no page
pub copies_stay : (pages slots : ℕ) (m after words : List ℕ) (home base below copied older : ℕ)
    → SameArea below m after base
    → ((p : ℕ) → find after home slots p ≡ 0 → find m home slots p ≡ 0)
    → HasSectorCopies pages slots m words home base below copied older
    → HasSectorCopies pages slots after words home base below copied older
copies_stay pages slots m after words home base below copied older same held has = record {
  each = λ p k lt but few. area_page below m after base same p k few ∙ has.each p k lt but few;
  left = λ p from lt none. area_found below m after base same p ∙ has.left p from lt (held p none);
}

-- a mark whose second word is blank is none
second_mark : (m : List ℕ) (at : ℕ) → slice_index m (at + 1) ≡ BLANK → is_marked m at ≡ false
unfolding is_marked
second_mark m at e = ap (λ (w : ℕ). nat_eq (slice_index m at) FIRST_MARK && nat_eq w SECOND_MARK) e
    ∙ and_none (nat_eq (slice_index m at) FIRST_MARK)
  where
    and_none : (b : Bool) → (b && false) ≡ false
    and_none true = refl
    and_none false = refl

module _ (pages slots sectors : ℕ) (start : ℕ → ℕ) where
  -- the area in use has a free slot for each step that is left, by the turn
  pub in_step_from : (m : List ℕ) (tried turn erased copied older next : ℕ) → turn ≡ turn_of slots m
      → IsSectorSpare pages slots sectors start m turn erased copied older
      → AreFree m (base_in slots turn) next slots
      → sector_steps pages sectors turn erased copied + next ≤ slots → tried ≤ next
      → HasRoomForSteps pages slots sectors start m tried
  in_step_from m tried turn erased copied older next is spare free room passed = record {
    erased = erased;
    copied = copied;
    older = older;
    next = next;
    spare = subst (λ (t : ℕ). IsSectorSpare pages slots sectors start m t erased copied older) is spare;
    free = subst (λ (t : ℕ). AreFree m (base_in slots t) next slots) is free;
    room = subst (λ (t : ℕ). sector_steps pages sectors t erased copied + next ≤ slots) is room;
    passed = passed;
  }

  module _ (rise : (s : ℕ) → start s ≤ start (s + 1)) (first : start 0 ≡ 0) (second : start sectors ≡ area_size slots)
      (third : start (2 * sectors) ≡ witness_start slots) where
    -- a sector of the other area lies in it
    sector_from : (turn n : ℕ) → spare_in slots turn ≤ start (spare_sector sectors turn + n)
    sector_from = sector_low start slots sectors rise first second third

    sector_to : (turn n : ℕ) → n ≤ sectors
        → start (spare_sector sectors turn + n) ≤ spare_in slots turn + area_size slots
    sector_to = sector_high start slots sectors rise first second third

    -- the slots that end before a sector
    slots_end : (turn n : ℕ) → spare_in slots turn + 20 * spare_slots slots sectors start turn n
        ≤ start (spare_sector sectors turn + n)
    slots_end turn n = let low = sector_from turn n in omega (arith, low)

    -- a change of one sector is one of the other area
    sector_wide : (m after : List ℕ) (turn n : ℕ) → n < sectors
        → SameElsewhere m (start (spare_sector sectors turn + n))
        (start (spare_sector sectors turn + (n + 1)) - start (spare_sector sectors turn + n)) after
        → SameElsewhere m (spare_in slots turn) (area_size slots) after
    sector_wide m after turn n lt h =
        let f = spare_sector sectors turn in
        let low = sector_from turn n in
        let high = sector_to turn (n + 1) (omega (arith, lt)) in
        let up : start (f + n) ≤ start (f + (n + 1)) = rises_to start rise (f + n) (f + (n + 1)) (omega arith) in
        elsewhere_wider m after (start (f + n)) (start (f + (n + 1)) - start (f + n)) (spare_in slots turn)
        (area_size slots) low (omega (arith, high, up)) h

    -- What changes is the sector of the next step, or one of the last sectors that isn't counted as erased.
    module _ {T : Type 0} (entries : T → List ℕ) (left : steps_of pages < sectors) (m after : List ℕ) (p : PageMap T)
        (n : ℕ) (log : IsSectorLog entries pages slots sectors start m p) (ready : p.ready ≡ true) (other : p.turn ≢ 1)
        (apart : ((p.copied ≤ n) × (n < steps_of pages)) ⊎ ((steps_of pages + p.erased ≤ n) × (n < sectors)))
        (h : SameElsewhere m (start (spare_sector sectors p.turn + n))
        (start (spare_sector sectors p.turn + (n + 1)) - start (spare_sector sectors p.turn + n)) after) where
      at : KeepsStep entries pages slots sectors start m p
      at = log.known ready

      spare : IsSectorSpare pages slots sectors start m p.turn p.erased p.copied p.older
      spare = at.place.spare

      within : (p.copied ≤ n) × (n < sectors)
      within = let most = spare.most in ⊎_elim
          (λ (z : (p.copied ≤ n) × (n < steps_of pages)). let lt = z.1 in (z.0, omega (arith, lt, left)))
          (λ (z : (steps_of pages + p.erased ≤ n) × (n < sectors)). let ge = z.0 in (omega (arith, ge, most), z.1))
          apart

      wide : SameElsewhere m (spare_in slots p.turn) (area_size slots) after
      wide = sector_wide m after p.turn n within.1 h

      stays : Stays pages slots m after
      stays = spare_stays pages slots m after p.turn log.ring at.place.turn at.place.small other wide

      area : SameArea slots m after (base_in slots p.turn)
      area = spare_leaves slots m after p.turn wide

      up : start (spare_sector sectors p.turn + n) ≤ start (spare_sector sectors p.turn + (n + 1))
      up = rises_to start rise (spare_sector sectors p.turn + n) (spare_sector sectors p.turn + (n + 1)) (omega arith)

      blank : AreFilled after (last_start pages sectors start p.turn 0)
          (last_start pages sectors start p.turn p.erased - last_start pages sectors start p.turn 0) BLANK
      blank = record {
        each = λ k few.
            let f = spare_sector sectors p.turn in
            let first_word = last_start pages sectors start p.turn 0 in
            h.same (first_word + k) (⊎_elim
            (λ (z : (p.copied ≤ n) × (n < steps_of pages)).
            let lt = z.1 in
            let high : start (f + (n + 1)) ≤ first_word =
            rises_to start rise (f + (n + 1)) (f + (steps_of pages + 0)) (omega (arith, lt)) in
            let mid = up in
            let x : start (f + n) + (start (f + (n + 1)) - start (f + n)) ≤ first_word + k =
            omega (arith, high, mid) in
            inr x)
            (λ (z : (steps_of pages + p.erased ≤ n) × (n < sectors)).
            let ge = z.0 in
            let low : start (f + (steps_of pages + p.erased)) ≤ start (f + n) =
            rises_to start rise (f + (steps_of pages + p.erased)) (f + n) (omega (arith, ge)) in
            let x : first_word + k < start (f + n) = omega (arith, low, few) in inl x)
            apart)
            ∙ spare.blank.each k few;
      }

      copied_area : SameArea (spare_slots slots sectors start p.turn p.copied) m after (spare_in slots p.turn)
      copied_area = record {
        each = λ k low high.
            let f = spare_sector sectors p.turn in
            let ends = slots_end p.turn p.copied in
            let from = within.0 in
            let past : start (f + p.copied) ≤ start (f + n) =
            rises_to start rise (f + p.copied) (f + n) (omega (arith, from)) in
            let x : k < start (f + n) = omega (arith, high, ends, past) in h.same k (inl x);
      }

      copies : HasStepCopies pages slots sectors start after p.turn p.copied p.older
      copies = subst (λ (l : List ℕ). HasSectorCopies pages slots after l (base_in slots p.turn)
          (spare_in slots p.turn) (spare_slots slots sectors start p.turn p.copied) (STEP_PAGES * p.copied) p.older)
          (sym (stays.words))
          (copies_stay pages slots m after (words_of pages slots m) (base_in slots p.turn) (spare_in slots p.turn)
          (spare_slots slots sectors start p.turn p.copied) (STEP_PAGES * p.copied) p.older copied_area
          (λ q none. sym (area_found slots m after (base_in slots p.turn) area q) ∙ none) spare.copies)

      unmoved : IsSectorSpare pages slots sectors start after p.turn p.erased p.copied p.older
      unmoved = record {
        within = spare.within;
        most = spare.most;
        idle = spare.idle;
        fresh = spare.fresh;
        few = spare.few;
        blank = blank;
        copies = copies;
      }

      placed : (erased copied older : ℕ) → IsSectorSpare pages slots sectors start after p.turn erased copied older
          → (0 < copied → slots ≤ p.next + sector_lead sectors)
          → sector_steps pages sectors p.turn erased copied + p.next ≤ slots
          → IsSectorLog entries pages slots sectors start after
          (record p { erased = erased; copied = copied; older = older })
      placed erased copied older new goes_on room = record {
        ring = stays.ring;
        known = λ e. record {
          place = record {
            turn = at.place.turn ∙ sym (stays.turn);
            small = at.place.small;
            index = index_same slots pages m after (entries p.table) (base_in slots p.turn) area at.place.index;
            free = area_free slots m after (base_in slots p.turn) area p.next at.place.free;
            spare = new;
            goes_on = goes_on;
          };
          room = room;
          passed = at.passed;
        };
        found = λ e. absurd (true≢false (sym ready ∙ e));
      }

      one_erased : n ≡ steps_of pages + p.erased → p.erased < last_sectors pages sectors
          → AreFilled after (start (spare_sector sectors p.turn + n))
          (start (spare_sector sectors p.turn + (n + 1)) - start (spare_sector sectors p.turn + n)) BLANK
          → IsSectorSpare pages slots sectors start after p.turn (p.erased + 1) p.copied p.older
      one_erased e lt done =
          let f = spare_sector sectors p.turn in
          let steps = steps_of pages in
          let there : f + (n + 1) ≡ f + n + 1 = omega arith in
          let next : f + n + 1 ≡ f + (steps + (p.erased + 1)) = omega (arith, e) in
          let here : f + (steps + p.erased) ≡ f + n = omega (arith, e) in
          let was : AreFilled m (start (f + (steps + 0))) (start (f + n) - start (f + (steps + 0))) BLANK =
          subst (λ (s : ℕ). AreFilled m (start (f + (steps + 0))) (start s - start (f + (steps + 0))) BLANK) here
          spare.blank in
          let run : SameElsewhere m (start (f + n)) (start (f + n + 1) - start (f + n)) after =
          subst (λ (s : ℕ). SameElsewhere m (start (f + n)) (start s - start (f + n)) after) there h in
          let filled : AreFilled after (start (f + n)) (start (f + n + 1) - start (f + n)) BLANK =
          subst (λ (s : ℕ). AreFilled after (start (f + n)) (start s - start (f + n)) BLANK) there done in
          let all : AreFilled after (start (f + (steps + 0))) (start (f + n + 1) - start (f + (steps + 0))) BLANK =
          sectors_filled start rise m after (f + (steps + 0)) (f + n) BLANK (omega (arith, e)) was run filled in
          record {
            within = omega (arith, lt);
            most = spare.most;
            idle = λ one. absurd (other one);
            fresh = λ less. spare.fresh lt;
            few = spare.few;
            blank = subst (λ (s : ℕ). AreFilled after (start (f + (steps + 0))) (start s - start (f + (steps + 0)))
                BLANK) next all;
            copies = copies;
          }

      one_copied : p.erased ≡ last_sectors pages sectors → p.copied + 1 < steps_of pages
          → HasStepCopies pages slots sectors start after p.turn (p.copied + 1) 0
          → IsSectorSpare pages slots sectors start after p.turn p.erased (p.copied + 1) 0
      one_copied all more has = record {
        within = spare.within;
        most = more;
        idle = spare.idle;
        fresh = λ lt. absurd (omega (arith, lt, all));
        few = omega arith;
        blank = blank;
        copies = has;
      }

      -- the turn and the words stay, and the log goes on behind a step that fails, or is taken
      pub sector_stays : LeavesSector entries pages slots sectors start m p n after
      sector_stays = record {
        stays = stays;
        failed = record {
          ring = stays.ring;
          known = λ e. record {
            place = record {
              turn = at.place.turn ∙ sym (stays.turn);
              small = at.place.small;
              index = index_same slots pages m after (entries p.table) (base_in slots p.turn) area at.place.index;
              free = area_free slots m after (base_in slots p.turn) area p.next at.place.free;
              spare = unmoved;
              goes_on = at.place.goes_on;
            };
            room = at.room;
            passed = at.passed;
          };
          found = λ e. absurd (true≢false (sym ready ∙ e));
        };
        erased = λ e lt done. let room = at.room in
            placed (p.erased + 1) p.copied p.older (one_erased e lt done) at.place.goes_on (omega (arith, room, lt));
        copied = λ all more due has. let room = at.room in
            placed p.erased (p.copied + 1) 0 (one_copied all more has) (λ some. due) (omega (arith, room, more));
        moved = λ all last has. record {
          copies = subst (λ (c : ℕ). HasStepCopies pages slots sectors start after p.turn c 0) last has;
          blank = subst (λ (e : ℕ). AreFilled after (last_start pages sectors start p.turn 0)
              (last_start pages sectors start p.turn e - last_start pages sectors start p.turn 0) BLANK) all blank;
        };
      }

    -- What changes lies in the area in use, or behind both areas, and the area in use loses no page.
    module _ (left : steps_of pages < sectors) (m after : List ℕ) (turn erased copied older : ℕ)
        (spare : IsSectorSpare pages slots sectors start m turn erased copied older)
        (same : SameBlock slots m after (spare_in slots turn))
        (held : (p : ℕ) → find after (base_in slots turn) slots p ≡ 0 → find m (base_in slots turn) slots p ≡ 0)
      where
        same_blank : AreFilled after (last_start pages sectors start turn 0)
            (last_start pages sectors start turn erased - last_start pages sectors start turn 0) BLANK
        same_blank = record {
          each = λ k few.
              let at = last_start pages sectors start turn 0 in
              let low = sector_from turn (steps_of pages + 0) in
              let within = spare.within in
              let high = sector_to turn (steps_of pages + erased) (omega (arith, within, left)) in
              same.each (at + k) (omega (arith, low)) (omega (arith, few, high)) ∙ spare.blank.each k few;
        }

        same_slots : SameArea (spare_slots slots sectors start turn copied) m after (spare_in slots turn)
        same_slots = record {
          each = λ k low high.
              let ends = slots_end turn copied in
              let most = spare.most in
              let top = sector_to turn copied (omega (arith, most, left)) in
              same.each k low (omega (arith, high, ends, top));
        }

        same_copies : HasSectorCopies pages slots after (words_of pages slots m) (base_in slots turn)
            (spare_in slots turn) (spare_slots slots sectors start turn copied) (STEP_PAGES * copied) older
        same_copies = copies_stay pages slots m after (words_of pages slots m) (base_in slots turn)
            (spare_in slots turn) (spare_slots slots sectors start turn copied) (STEP_PAGES * copied) older same_slots
            held spare.copies

        -- the move has come as far, but another copy may be older
        pub block_spare : (o : ℕ) → o ≤ STEP_PAGES * copied
            → ((p k : ℕ) → p < STEP_PAGES * copied → p + 1 ≢ o → k < 16
            → (p + 1 ≢ older) × (slice_index (words_of pages slots after) (16 * p + k)
            ≡ slice_index (words_of pages slots m) (16 * p + k)))
            → IsSectorSpare pages slots sectors start after turn erased copied o
        block_spare o few words = record {
          within = spare.within;
          most = spare.most;
          idle = spare.idle;
          fresh = spare.fresh;
          few = few;
          blank = same_blank;
          copies = record {
            each = λ p k lt but small. let z = words p k lt but small in
                same_copies.each p k lt z.0 small ∙ sym z.1;
            left = same_copies.left;
          };
        }

        -- where all words stay, it is the same copy
        pub block_stays : words_of pages slots after ≡ words_of pages slots m
            → IsSectorSpare pages slots sectors start after turn erased copied older
        block_stays is = block_spare older spare.few (λ p k lt but small.
            (but, ap (λ (l : List ℕ). slice_index l (16 * p + k)) is))

    -- All steps have copied pages.
    module _ (left : steps_of pages < sectors) (whole : pages ≡ STEP_PAGES * steps_of pages) (m : List ℕ) (turn : ℕ)
        (room : spare_slot slots sectors start turn (steps_of pages) + sector_lead sectors < slots)
        (moved : HasMovedSteps pages slots sectors start m turn) where
      -- behind the sectors of the steps the other area is blank
      moved_blank : (k : ℕ) → start (spare_sector sectors turn + steps_of pages) ≤ k
          → k < spare_in slots turn + area_size slots → slice_index m k ≡ BLANK
      moved_blank k low high =
          let f = spare_sector sectors turn in
          let at = last_start pages sectors start turn 0 in
          let begins : f + (steps_of pages + 0) ≡ f + steps_of pages = omega arith in
          let begin : at ≡ start (f + steps_of pages) = ap start begins in
          let ends : f + (steps_of pages + last_sectors pages sectors) ≡ f + sectors = omega (arith, left) in
          let end : last_start pages sectors start turn (last_sectors pages sectors) ≡ start (f + sectors) =
          ap start ends in
          let all = spare_end start slots sectors first second third turn in
          let place : k ≡ at + (k - at) = omega (arith, low, begin) in
          ap (λ (j : ℕ). slice_index m j) place
          ∙ moved.blank.each (k - at) (omega (arith, low, high, begin, end, all))

      moved_begins : start (spare_sector sectors turn + steps_of pages)
          ≤ spare_in slots turn + 20 * spare_slot slots sectors start turn (steps_of pages)
      moved_begins = let low = sector_from turn (steps_of pages) in omega (arith, low)

      -- so a page is found among the slots before that
      moved_found : (p : ℕ) → find m (spare_in slots turn) slots p
          ≡ find m (spare_in slots turn) (spare_slots slots sectors start turn (steps_of pages)) p
      moved_found p =
          let base = spare_in slots turn in
          let below = spare_slots slots sectors start turn (steps_of pages) in
          let low = sector_from turn (steps_of pages) in
          let high = sector_to turn (steps_of pages) (omega (arith, left)) in
          find-past m base slots p below (omega (arith, low, high))
          (λ t from lt. holds_none m base t p (second_mark m (slot_of base t + 18)
          (moved_blank (slot_of base t + 18 + 1) (omega (arith, from, low)) (omega (arith, lt)))))

      moved_free : AreFree m (spare_in slots turn) (spare_slot slots sectors start turn (steps_of pages)) slots
      moved_free = record {
        within = omega (arith, room);
        free = λ s from lt. record {
          each = λ k few. let begins = moved_begins in
              moved_blank (slot_of (spare_in slots turn) s + k) (omega (arith, begins, from)) (omega (arith, lt, few));
        };
      }

      -- the other area has all pages
      pub moved_copies : HasCopies pages slots m (words_of pages slots m) (base_in slots turn) (spare_in slots turn)
          pages (spare_slot slots sectors start turn (steps_of pages)) 0
      moved_copies = record {
        opened = filled_open m (spare_in slots turn + 20 * slots) (record {
          each = λ k few. let begins = moved_begins in
              moved_blank (spare_in slots turn + 20 * slots + k) (omega (arith, begins, room)) (omega (arith, few));
        });
        free = moved_free;
        each = λ p k lt below but few.
            ap (λ (f : ℕ). word_of m (spare_in slots turn) f k) (moved_found p)
            ∙ moved.copies.each p k (omega (arith, lt, whole)) but few;
        left = λ p from below none. absurd (omega (arith, from, below));
      }

      -- The mark that passes the turn, whole or torn.
      module _ (after : List ℕ) (ring : IsRing slots m) (is : turn ≡ turn_of slots m) (small : turn < 3)
          (other : turn ≢ 1) (h : SameElsewhere m (close_of slots turn) 2 after) where
        abbrev behind : ℕ
        behind = spare_slot slots sectors start turn (steps_of pages)

        -- where the turn stays, the move has come as far, and as many slots are free
        pub pass_spare : (erased copied older : ℕ)
            → IsSectorSpare pages slots sectors start m turn erased copied older
            → IsSectorSpare pages slots sectors start after turn erased copied older
        pass_spare erased copied older spare =
            let home = pass_home pages slots m after turn behind ring is small other moved_copies h in
            let block = pass_block pages slots m after turn behind ring is small other moved_copies h in
            let words = pass_words pages slots m after turn behind ring is small other moved_copies h in
            block_stays left m after turn erased copied older spare block
            (λ p none. sym (area_found slots m after (base_in slots turn) home p) ∙ none) words

        pub pass_free : (next : ℕ) → AreFree m (base_in slots turn) next slots
            → AreFree after (base_in slots turn) next slots
        pass_free next free = area_free slots m after (base_in slots turn)
            (pass_home pages slots m after turn behind ring is small other moved_copies h) next free

        -- the other area is free behind the slots of the steps
        pub pass_moved : AreFree after (spare_in slots turn) behind slots
        pass_moved = area_free slots m after (spare_in slots turn)
            (block_area slots m after (spare_in slots turn)
            (pass_block pages slots m after turn behind ring is small other moved_copies h)) behind moved_free

        -- the other area keeps the copies of all steps
        pub pass_steps : HasMovedSteps pages slots sectors start after turn
        pass_steps =
            let home = pass_home pages slots m after turn behind ring is small other moved_copies h in
            let block = pass_block pages slots m after turn behind ring is small other moved_copies h in
            let words = pass_words pages slots m after turn behind ring is small other moved_copies h in
            let steps = steps_of pages in
            let below = spare_slots slots sectors start turn steps in
            let ends = slots_end turn steps in
            let top = sector_to turn steps (omega (arith, left)) in
            let area : SameArea below m after (spare_in slots turn) = record {
              each = λ k low high. block.each k low (omega (arith, high, ends, top));
            } in
            let at = last_start pages sectors start turn 0 in
            let from = sector_from turn (steps + 0) in
            let to = sector_to turn (steps + last_sectors pages sectors) (omega (arith, left)) in record {
              copies = subst (λ (l : List ℕ). HasSectorCopies pages slots after l (base_in slots turn)
                  (spare_in slots turn) below (STEP_PAGES * steps) 0) (sym words)
                  (copies_stay pages slots m after (words_of pages slots m) (base_in slots turn) (spare_in slots turn)
                  below (STEP_PAGES * steps) 0 area
                  (λ p none. sym (area_found slots m after (base_in slots turn) home p) ∙ none) moved.copies);
              blank = record {
                each = λ k few. block.each (at + k) (omega (arith, from)) (omega (arith, few, to))
                    ∙ moved.blank.each k few;
              };
            }

        pub pass_has_ring : IsRing slots after
        pass_has_ring = pass_ring pages slots m after turn behind ring is small other moved_copies h

        -- a turn that does not stay is that of the other area
        pub pass_other : turn_of slots after ≢ turn → base_in slots (turn_of slots after) ≡ spare_in slots turn
        pass_other differs = ⊎_elim (λ (same : turn_of slots after ≡ turn). absurd (differs same)) (λ e. e)
            (pass_turns pages slots m after turn behind ring is small other moved_copies h)

        old_in_step : HasRoomForSteps pages slots sectors start m 0 → turn_of slots after ≡ turn
            → HasRoomForSteps pages slots sectors start after 0
        old_in_step was e = in_step_from after 0 turn was.erased was.copied was.older was.next (sym e)
            (pass_spare was.erased was.copied was.older
            (subst (λ (t : ℕ). IsSectorSpare pages slots sectors start m t was.erased was.copied was.older) (sym is)
            was.spare))
            (pass_free was.next (subst (λ (t : ℕ). AreFree m (base_in slots t) was.next slots) (sym is) was.free))
            (subst (λ (t : ℕ). sector_steps pages sectors t was.erased was.copied + was.next ≤ slots) (sym is)
            was.room)
            (omega arith)

        new_in_step : LEAST_PAGES ≤ pages → base_in slots (turn_of slots after) ≡ spare_in slots turn
            → HasRoomForSteps pages slots sectors start after 0
        new_in_step least e =
            let most = sector_steps_most pages sectors (turn_of slots after) 0 0 left in
            in_step_from after 0 (turn_of slots after) 0 0 0 behind refl
            (none_begun pages slots sectors start first second third least after (turn_of slots after))
            (subst (λ (b : ℕ). AreFree after b behind slots) (sym e) pass_moved)
            (omega (arith, most, room)) (omega arith)

        -- at every exit the area in use has a free slot for each step that is left
        pub passed_in_step : LEAST_PAGES ≤ pages → HasRoomForSteps pages slots sectors start m 0
            → HasRoomForSteps pages slots sectors start after 0
        passed_in_step least was = ⊎_elim (old_in_step was) (new_in_step least)
            (pass_turns pages slots m after turn behind ring is small other moved_copies h)

    -- The turn has passed to the other area.
    module _ {T : Type 0} (entries : T → List ℕ) (left : steps_of pages < sectors) (m : List ℕ) (p : PageMap T)
        (behind : ℕ) (room : behind + sector_lead sectors < slots) (fresh : HasMoved p behind) (none : p.older ≡ 0)
      where
        pub moved_room : sector_steps pages sectors p.turn p.erased p.copied + p.next < slots
        moved_room =
            let most = sector_steps_most pages sectors p.turn p.erased p.copied left in
            let free = fresh.free in
            omega (arith, most, free, room)

        -- the next move has not begun
        pub moved_place : LEAST_PAGES ≤ pages → IsPlaceOf entries pages slots sectors start m p
            → KeepsStep entries pages slots sectors start m p
        moved_place least at = record {
          place = record {
            turn = at.turn;
            small = at.small;
            index = at.index;
            free = at.free;
            spare = subst (λ (e : ℕ). IsSectorSpare pages slots sectors start m p.turn e p.copied p.older)
                (sym fresh.erased)
                (subst (λ (c : ℕ). IsSectorSpare pages slots sectors start m p.turn 0 c p.older) (sym fresh.copied)
                (subst (λ (o : ℕ). IsSectorSpare pages slots sectors start m p.turn 0 0 o) (sym none)
                (none_begun pages slots sectors start first second third least m p.turn)));
            goes_on = λ some. let zero_copied = fresh.copied in absurd (omega (arith, some, zero_copied));
          };
          room = let fits = moved_room in omega (arith, fits);
          passed = let zero_tried = fresh.tried in omega (arith, zero_tried);
        }

        pub moved_step : HasTakenStep pages slots sectors p
        moved_step = record { ready = fresh.ready; older = none; room = moved_room }
