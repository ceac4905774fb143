-- Laws of a record that a write puts: the move has come as far, but the copy of its page may be older.
use Rattle.std.specs.Prelude.{◌≡◌, ◌≢◌, ◌⊎◌, ◌<◌, ◌≤◌, ◌+◌, ◌*◌, ℕ, true, false, List, length, slice_index}
use Rattle.std.proofs.Common.{refl, sym, ◌∙◌, ap, ⊎_elim, arith, true≢false}
use Rattle.std.proofs.lemmas.Bool.{cases_lt}
use Rattle.nvm_board.specs.History.{written}
use Rattle.flash_device.specs.declared.layout.TheConstants.{STEP_PAGES}
use Rattle.flash_device.specs.FlashBlocks.{area_size, steps_of, witness_start}
use Rattle.flash_device.specs.FlashCalls.{SameElsewhere}
use Rattle.flash_device.specs.FlashLogs.{base_in, find, words_of}
use Rattle.flash_device.specs.PageTables.{AreFree, IsPageTable}
use Rattle.flash_area.specs.laws.Words.{written_other}
use Rattle.flash_moves.specs.declared.place.PageMap.{PageMap}
use Rattle.flash_moves.specs.Rings.{IsRing, SameMarks}
use Rattle.flash_moves.specs.laws.Sparing.{home_leaves}
use Rattle.flash_moves.specs.laws.Turns.{ring_same, turn_same}
use Rattle.sector_moves.specs.SectorPlaces.{IsSectorLog, IsSectorPlace}
use Rattle.sector_moves.specs.SectorSpares.{HasRoomForSteps, IsSectorSpare, sector_steps}
use Rattle.sector_moves.specs.laws.Keeping.{block_spare, in_step_from}

-- A run of a page is written, or torn, in a slot of the area in use.
module _ (pages slots sectors : ℕ) (start : ℕ → ℕ) (rise : (s : ℕ) → start s ≤ start (s + 1)) (first : start 0 ≡ 0)
    (second : start sectors ≡ area_size slots) (third : start (2 * sectors) ≡ witness_start slots)
    {T : Type 0} (entries : T → List ℕ) (left : steps_of pages < sectors) (m after : List ℕ) (p : PageMap T)
    (at : IsSectorPlace entries pages slots sectors start m p)
    (elsewhere : SameElsewhere m (base_in slots p.turn) (20 * slots) after)
    (held : (q : ℕ) → find after (base_in slots p.turn) slots q ≡ 0
    → find m (base_in slots p.turn) slots q ≡ 0)
    (page from : ℕ) (older : (p.older ≡ 0) ⊎ (p.older ≡ page + 1)) (run : List ℕ)
    (fits : from + length run ≤ 16) where
  others : (words_of pages slots after ≡ words_of pages slots m)
      ⊎ (words_of pages slots after ≡ written (words_of pages slots m) (16 * page + from) run)
      → (q k : ℕ) → q ≢ page → k < 16
      → slice_index (words_of pages slots after) (16 * q + k) ≡ slice_index (words_of pages slots m) (16 * q + k)
  others whole q k other small = ⊎_elim
      (λ (same : words_of pages slots after ≡ words_of pages slots m).
      ap (λ (l : List ℕ). slice_index l (16 * q + k)) same)
      (λ (done : words_of pages slots after ≡ written (words_of pages slots m) (16 * page + from) run).
      ap (λ (l : List ℕ). slice_index l (16 * q + k)) done
      ∙ written_other (words_of pages slots m) run page from q k other small fits)
      whole

  not_older : (q : ℕ) → q ≢ page → q + 1 ≢ p.older
  not_older q other = λ e. ⊎_elim (λ (none : p.older ≡ 0). absurd (omega (arith, e, none)))
      (λ (one : p.older ≡ page + 1). other (omega (arith, e, one))) older

  -- whether it is written or torn, the copy of its page may be older, if it has one
  pub run_spare : (o : ℕ) → (page < STEP_PAGES * p.copied → o ≡ page + 1)
      → (STEP_PAGES * p.copied ≤ page → o ≡ 0)
      → (words_of pages slots after ≡ words_of pages slots m)
      ⊎ (words_of pages slots after ≡ written (words_of pages slots m) (16 * page + from) run)
      → IsSectorSpare pages slots sectors start after p.turn p.erased p.copied o
  run_spare o one zero whole =
      let most : o ≤ STEP_PAGES * p.copied = ⊎_elim
      (λ (lt : page < STEP_PAGES * p.copied). let is = one lt in omega (arith, is, lt))
      (λ (ge : STEP_PAGES * p.copied ≤ page). let is = zero ge in omega (arith, is))
      (cases_lt page (STEP_PAGES * p.copied)) in
      block_spare pages slots sectors start rise first second third left m after p.turn p.erased p.copied p.older
      at.spare (home_leaves slots m after p.turn elsewhere) held o most
      (λ q k lt but small.
      let other : q ≢ page = λ is. let named = one (omega (arith, is, lt)) in but (omega (arith, is, named)) in
      (not_older q other, others whole q k other small))

  -- so the area in use has a free slot for each step that is left
  pub run_in_step : (tried : ℕ) → tried ≤ p.next + 1
      → sector_steps pages sectors p.turn p.erased p.copied + p.next < slots
      → SameMarks slots m after → AreFree after (base_in slots p.turn) (p.next + 1) slots
      → (words_of pages slots after ≡ words_of pages slots m)
      ⊎ (words_of pages slots after ≡ written (words_of pages slots m) (16 * page + from) run)
      → HasRoomForSteps pages slots sectors start after tried
  run_in_step tried passed room marks free whole = ⊎_elim
      (λ (lt : page < STEP_PAGES * p.copied).
      put (page + 1) (run_spare (page + 1) (λ is. refl) (λ ge. absurd (omega (arith, lt, ge))) whole))
      (λ (ge : STEP_PAGES * p.copied ≤ page).
      put 0 (run_spare 0 (λ lt. absurd (omega (arith, lt, ge))) (λ is. refl) whole))
      (cases_lt page (STEP_PAGES * p.copied))
    where
      put : (o : ℕ) → IsSectorSpare pages slots sectors start after p.turn p.erased p.copied o
          → HasRoomForSteps pages slots sectors start after tried
      put o spare = in_step_from pages slots sectors start after tried p.turn p.erased p.copied o (p.next + 1)
          (at.turn ∙ sym (turn_same slots m after marks)) spare free (omega (arith, room)) passed

  -- The record takes a slot beside those of the steps.
  module _ (ring : IsRing slots m)
      (room : sector_steps pages sectors p.turn p.erased p.copied + p.next < slots)
      (marks : SameMarks slots m after) (free : AreFree after (base_in slots p.turn) (p.next + 1) slots)
      (whole : (words_of pages slots after ≡ words_of pages slots m)
      ⊎ (words_of pages slots after ≡ written (words_of pages slots m) (16 * page + from) run)) where
    -- the log has to find its pages again
    pub run_unknown : (table : T) → IsSectorLog entries pages slots sectors start after
        (record p { ready = false; table = table; tried = p.next + 1 })
    run_unknown table = record {
      ring = ring_same slots m after marks ring;
      known = λ e. absurd (true≢false (sym e));
      found = λ e. run_in_step (p.next + 1) (omega arith) room marks free whole;
    }

    -- or it knows them, by a table of the area
    pub run_known : (table : T) (o : ℕ) → (page < STEP_PAGES * p.copied → o ≡ page + 1)
        → (STEP_PAGES * p.copied ≤ page → o ≡ 0)
        → IsPageTable pages after (base_in slots p.turn) slots (entries table)
        → IsSectorLog entries pages slots sectors start after
        (record p { ready = true; table = table; next = p.next + 1; tried = p.next + 1; older = o })
    run_known table o one zero index = record {
      ring = ring_same slots m after marks ring;
      known = λ e. record {
        place = record {
          turn = at.turn ∙ sym (turn_same slots m after marks);
          small = at.small;
          index = index;
          free = free;
          spare = run_spare o one zero whole;
          goes_on = λ some. let due = at.goes_on some in omega (arith, due);
        };
        room = omega (arith, room);
        passed = omega arith;
      };
      found = λ e. absurd (true≢false e);
    }
