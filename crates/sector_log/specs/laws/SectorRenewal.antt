-- Laws of a renewal: it leaves the area in use free behind the slots of its copies.
use Rattle.std.specs.Prelude.{◌≡◌, ◌<◌, ◌≤◌, ◌+◌, ◌*◌, ℕ, false, List}
use Rattle.std.proofs.Common.{sym, ◌∙◌, ⊎_elim, subst, arith, true≢false}
use Rattle.std.proofs.lemmas.Bool.{cases_lt}
use Rattle.nvm_board.specs.declared.board.TheConstants.{LEAST_PAGES}
use Rattle.flash_device.specs.declared.layout.TheConstants.{SPARES}
use Rattle.flash_moves.specs.declared.place.PageMap.{PageMap}
use Rattle.flash_device.specs.FlashBlocks.{area_size, steps_of, witness_start}
use Rattle.flash_device.specs.FlashLogs.{base_in, turn_of}
use Rattle.flash_device.specs.PageTables.{AreFree}
use Rattle.flash_moves.specs.Paces.{KeepsRoom}
use Rattle.flash_moves.specs.Rings.{IsRing}
use Rattle.sector_moves.specs.laws.Stepping.{none_begun, sector_steps_most}
use Rattle.sector_moves.specs.SectorPlaces.{IsSectorLog}
use Rattle.sector_moves.specs.SectorSpares.{HasRoomForSteps, sector_lead}

module _ (pages slots sectors : ℕ) (start : ℕ → ℕ) (least : LEAST_PAGES ≤ pages) (first : start 0 ≡ 0)
    (second : start sectors ≡ area_size slots) (third : start (2 * sectors) ≡ witness_start slots)
    (left : steps_of pages < sectors) where
  -- With no step taken, the area in use has a free slot for each step, behind one from which on it is free.
  pub begun_in_step : (m : List ℕ) (n : ℕ) → AreFree m (base_in slots (turn_of slots m)) n slots
      → n + sector_lead sectors ≤ slots → HasRoomForSteps pages slots sectors start m 0
  begun_in_step m n free room = record {
    erased = 0;
    copied = 0;
    older = 0;
    next = n;
    spare = none_begun pages slots sectors start first second third least m (turn_of slots m);
    free = free;
    room = let most = sector_steps_most pages sectors (turn_of slots m) 0 0 left in omega (arith, most, room);
    passed = omega arith;
  }

  -- behind a renewal, at every exit of it
  pub renewed_in_step : (m after : List ℕ) (next : ℕ) → AreFree m (base_in slots (turn_of slots m)) next slots
      → next + sector_lead sectors < slots → pages + SPARES + sector_lead sectors ≤ slots
      → KeepsRoom pages slots m after → HasRoomForSteps pages slots sectors start after 0
  renewed_in_step m after next free room copies keeps = ⊎_elim
      (λ (early : next < pages + SPARES). begun_in_step after (pages + SPARES)
      (keeps (pages + SPARES) (omega arith) (record {
        within = omega (arith, copies);
        free = λ s from lt. free.free s (omega (arith, early, from)) lt;
      }))
      copies)
      (λ (far : pages + SPARES ≤ next). begun_in_step after next (keeps next far free) (omega (arith, room)))
      (cases_lt next (pages + SPARES))

  -- a log that has to find its pages behind it
  pub renewed_log : {T : Type 0} (entries : T → List ℕ) (m after : List ℕ) (next : ℕ) (q : PageMap T)
      → q.ready ≡ false → q.tried ≡ 0 → AreFree m (base_in slots (turn_of slots m)) next slots
      → next + sector_lead sectors < slots → pages + SPARES + sector_lead sectors ≤ slots → IsRing slots after
      → KeepsRoom pages slots m after → IsSectorLog entries pages slots sectors start after q
  renewed_log entries m after next q unready none free room copies ring keeps = record {
    ring = ring;
    known = λ ready. absurd (true≢false (sym ready ∙ unready));
    found = λ _. subst (HasRoomForSteps pages slots sectors start after) (sym none)
        (renewed_in_step m after next free room copies keeps);
  }
