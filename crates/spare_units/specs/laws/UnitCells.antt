-- Laws of the calls of a log with units on a device with spare sectors.
use Rattle.std.specs.Prelude.{◌≡◌, ◌≢◌, ◌⊎◌, ◌<◌, ◌≤◌, ◌+◌, ◌-◌, ◌*◌, ◌/◌, ◌%◌, ◌^◌, ℕ, List, Ok}
use Rattle.std.specs.Prelude.{Err, is_ok, length, slice_index, Result}
use Rattle.std.proofs.Common.{sym, ◌∙◌, ap, ap₂, inl, inr, subst, ⊎_elim, arith, true≢false}
use Rattle.std.proofs.Math.Nat.{mul_assoc}
use Rattle.std.proofs.lemmas.Bool.{cases_eq}
use Rattle.nvm_board.specs.declared.board.DeviceErr.{DeviceErr}
use Rattle.flash_device.specs.FlashCalls.{AreFilled, IsThere, Lights, SameElsewhere}
use Rattle.flash_device.specs.FlashLogs.{find}
use Rattle.flash_device.specs.PageTables.{AreFree, IsPageTable}
use Rattle.spare_units.specs.SpareFrames.{TakesFrames, frame_sector, sector_frame, unit_cell, unit_list}
use Rattle.spare_units.specs.SpareFrames.{without_spare_units, word_sector, word_start}
use Rattle.spare_sectors.specs.SpareMaps.{MovesOnly}
use Rattle.spare_sectors.specs.SparePlaces.{all_sectors, lies_by, lies_in}
use Rattle.spare_sectors.specs.SpareStates.{SpareState}
use Rattle.program_units.specs.UnitFrames.{AreUnits, IsFrameRun, IsPartRun, IsUnit, device_size, span_of}
use Rattle.spare_units.specs.laws.FrameParts.{frame_run, frames_lie}
use Rattle.spare_units.specs.laws.MovedWords.{cell_within, erased_elsewhere, erased_filled, run_blank}
use Rattle.spare_units.specs.laws.MovedWords.{run_elsewhere, run_filled, run_there, run_within}
use Rattle.spare_units.specs.laws.MovedWords.{taken_elsewhere, taken_filled, words_stay}
use Rattle.spare_sectors.specs.laws.SpareSteps.{lies_table}

module _ (slots sectors each spares : ℕ) (takes : TakesFrames slots sectors each spares) where
  -- the place of a word by the table
  module _ (map table : List ℕ) (index : IsPageTable (2 * sectors + 1) map 0 spares table) (at : ℕ)
      (lt : at < device_size slots) where
    pub sector_most : (s : ℕ) → s ≡ frame_sector slots sectors each (at / 32) → s ≤ 2 * sectors
    unfolding word_sector
    sector_most s is =
        subst (λ (t : ℕ). t ≤ 2 * sectors) (sym is) ((frames_lie slots sectors each spares takes).most at lt)

    pub sector_low : (s first : ℕ) → s ≡ frame_sector slots sectors each (at / 32)
        → first ≡ sector_frame slots sectors each s → 32 * first ≤ at
    unfolding word_sector
    sector_low s first is begins =
        let low = (frames_lie slots sectors each spares takes).low at lt in
        let e = begins ∙ ap (sector_frame slots sectors each) is in omega (arith, low, e)

    pub cell_is : (s first many lies : ℕ) → s ≡ frame_sector slots sectors each (at / 32)
        → first ≡ sector_frame slots sectors each s → many ≡ each → lies ≡ lies_by sectors (slice_index table s) s
        → 32 * many * lies + (at - 32 * first) ≡ unit_cell slots sectors each spares map at
    unfolding word_sector
    cell_is s first many lies is begins all there =
        let here : lies ≡ lies_in sectors spares map (frame_sector slots sectors each (at / 32)) =
        there ∙ lies_table sectors spares map table index s (sector_most s is) ∙ ap (lies_in sectors spares map) is in
        let from : first ≡ sector_frame slots sectors each (frame_sector slots sectors each (at / 32)) =
        begins ∙ ap (sector_frame slots sectors each) is in
        ap (λ (w : ℕ). 32 * w * lies + (at - 32 * first)) all
        ∙ ap₂ (λ (l f : ℕ). 32 * each * l + (at - 32 * f)) here from

    pub cell_inside : (cell : ℕ) → cell ≡ unit_cell slots sectors each spares map at
        → cell < 32 * each * all_sectors sectors spares
    cell_inside cell is =
        let x = cell_within (word_sector slots sectors each) (word_start slots sectors each) (device_size slots)
        (32 * each) sectors spares (frames_lie slots sectors each spares takes) map at lt in omega (arith, is, x)

    pub cell_fits : (cell : ℕ) → cell ≡ unit_cell slots sectors each spares map at → cell < 2 ^ 32
    cell_fits cell is = let x = cell_inside cell is in let most = takes.places in omega (arith, x, most)

  -- a run in one frame
  module _ (map : List ℕ) (at n cell : ℕ) (fits : at + n ≤ device_size slots) (run : IsFrameRun at n)
      (is : cell ≡ unit_cell slots sectors each spares map at) where
    low : word_start slots sectors each (word_sector slots sectors each at) ≤ at
    low = (frames_lie slots sectors each spares takes).low at (let some = run.some in omega (arith, fits, some))

    place : cell ≡ 32 * (each * lies_in sectors spares map (word_sector slots sectors each at))
        + (at - word_start slots sectors each (word_sector slots sectors each at))
    place =
        let e : 32 * each * lies_in sectors spares map (word_sector slots sectors each at)
        ≡ 32 * (each * lies_in sectors spares map (word_sector slots sectors each at)) =
        mul_assoc 32 each (lies_in sectors spares map (word_sector slots sectors each at)) in omega (arith, is, e)

    pub units_run : IsFrameRun cell n
    units_run = let few = run.fits in record { some = run.some; fits = omega (arith, few, place, low) }

    pub units_part : (unit : ℕ) → IsPartRun unit at n → IsPartRun unit cell n
    units_part unit part = record {
      is = ⊎_elim
          (λ (x : (at % 32 ≡ 0) × (n ≡ span_of unit 18)). let e = x.0 in
          let begins : cell % 32 ≡ 0 = omega (arith, e, place, low) in inl (begins, x.1))
          (λ (x : (at % 32 ≡ 24) × (n ≡ span_of unit 2)). let e = x.0 in
          let begins : cell % 32 ≡ 24 = omega (arith, e, place, low) in inr (begins, x.1))
          part.is;
    }

    pub units_there : (unit : ℕ) → IsUnit unit → AreUnits unit at n → AreUnits unit cell n
    units_there unit fit are = record { begins = begins; ends = are.ends }
      where
        by_size : (u : ℕ) → ((u ≡ 1) ⊎ (u ≡ 2)) ⊎ ((u ≡ 4) ⊎ (u ≡ 8)) → at % u ≡ 0 → cell % u ≡ 0
        by_size u size begins = ⊎_elim
            (λ (small : (u ≡ 1) ⊎ (u ≡ 2)). ⊎_elim
            (λ (e : u ≡ 1). at_size u 1 e (λ b. omega (arith, b, place, low)) begins)
            (λ (e : u ≡ 2). at_size u 2 e (λ b. omega (arith, b, place, low)) begins) small)
            (λ (large : (u ≡ 4) ⊎ (u ≡ 8)). ⊎_elim
            (λ (e : u ≡ 4). at_size u 4 e (λ b. omega (arith, b, place, low)) begins)
            (λ (e : u ≡ 8). at_size u 8 e (λ b. omega (arith, b, place, low)) begins) large)
            size
          where
            at_size : (u v : ℕ) → u ≡ v → (at % v ≡ 0 → cell % v ≡ 0) → at % u ≡ 0 → cell % u ≡ 0
            at_size u v e f b = subst (λ (w : ℕ). cell % w ≡ 0) (sym e) (f (subst (λ (w : ℕ). at % w ≡ 0) e b))

        begins : cell % unit ≡ 0
        begins = by_size unit fit.is are.begins

    same : (k : ℕ) → k < n → word_sector slots sectors each (at + k) ≡ word_sector slots sectors each at
    same k lt = frame_run slots sectors each at n k run.fits lt

    pub units_blank : (m : List ℕ) (word : ℕ) → AreFilled (unit_list slots sectors each spares m map) at n word
        → AreFilled m cell n word
    units_blank m word all = subst (λ (k : ℕ). AreFilled m k n word) (sym is)
        (run_blank (word_sector slots sectors each) (word_start slots sectors each) (device_size slots) (32 * each)
        sectors spares (frames_lie slots sectors each spares takes) map at n fits same m word all)

    pub units_filled : (m : List ℕ) (word : ℕ) → AreFilled m cell n word
        → AreFilled (unit_list slots sectors each spares m map) at n word
    units_filled m word all =
        run_filled (word_sector slots sectors each) (word_start slots sectors each) (device_size slots) (32 * each)
        sectors spares (frames_lie slots sectors each spares takes) map at n fits same m word
        (subst (λ (k : ℕ). AreFilled m k n word) is all)

    pub units_written : (m words : List ℕ) → length words ≡ n → IsThere m cell words
        → IsThere (unit_list slots sectors each spares m map) at words
    units_written m words size there =
        run_there (word_sector slots sectors each) (word_start slots sectors each) (device_size slots) (32 * each)
        sectors spares (frames_lie slots sectors each spares takes) map at n fits same m words size
        (subst (λ (k : ℕ). IsThere m k words) is there)

    pub units_within : cell + n ≤ 32 * each * all_sectors sectors spares
    units_within = subst (λ (k : ℕ). k + n ≤ 32 * each * all_sectors sectors spares) (sym is)
        (run_within (word_sector slots sectors each) (word_start slots sectors each) (device_size slots) (32 * each)
        sectors spares (frames_lie slots sectors each spares takes) map at n fits same run.some)

    pub units_elsewhere : (m after : List ℕ) → SameElsewhere m cell n after
        → SameElsewhere (unit_list slots sectors each spares m map) at n (unit_list slots sectors each spares after
        map)
    units_elsewhere m after change =
        run_elsewhere (word_sector slots sectors each) (word_start slots sectors each) (device_size slots) (32 * each)
        sectors spares (frames_lie slots sectors each spares takes) map at n fits same m after run.some
        (subst (λ (k : ℕ). SameElsewhere m k n after) is change)

  -- the words of a sector
  sector_span : (s : ℕ) → word_start slots sectors each (s + 1) - word_start slots sectors each s
      ≡ 32 * (sector_frame slots sectors each (s + 1) - sector_frame slots sectors each s)
  sector_span s = omega arith

  by_frames : (T : ℕ → Type 0) (s : ℕ) → T (word_start slots sectors each (s + 1) - word_start slots sectors each s)
      → T (32 * (sector_frame slots sectors each (s + 1) - sector_frame slots sectors each s))
  by_frames T s t = subst T (sector_span s) t

  -- an erase of a sector where it lies
  module _ (m after map : List ℕ) (s : ℕ) (most : s ≤ 2 * sectors)
      (change : SameElsewhere m (32 * each * lies_in sectors spares map s) (32 * each) after) where
    pub erased_others : SameElsewhere (unit_list slots sectors each spares m map)
        (word_start slots sectors each s)
        (32 * (sector_frame slots sectors each (s + 1) - sector_frame slots sectors each s))
        (unit_list slots sectors each spares after map)
    erased_others = by_frames (λ n. SameElsewhere (unit_list slots sectors each spares m map)
        (word_start slots sectors each s) n (unit_list slots sectors each spares after map)) s
        (erased_elsewhere (word_sector slots sectors each) (word_start slots sectors each) (device_size slots) (32 *
        each)
        sectors spares (frames_lie slots sectors each spares takes) m after map s most change)

    pub erased_units : (word : ℕ) → AreFilled after (32 * each * lies_in sectors spares map s) (32 * each) word
        → AreFilled (unit_list slots sectors each spares after map) (word_start slots sectors each s)
        (32 * (sector_frame slots sectors each (s + 1) - sector_frame slots sectors each s)) word
    erased_units word all = by_frames (λ n. AreFilled (unit_list slots sectors each spares after map)
        (word_start slots sectors each s) n word) s
        (erased_filled (word_sector slots sectors each) (word_start slots sectors each) (device_size slots) (32 * each)
        sectors spares (frames_lie slots sectors each spares takes) m after map s most change word all)

    -- the same by the map behind the erase
    pub erased_behind : (word : ℕ) (behind : List ℕ) → behind ≡ map
        → AreFilled after (32 * each * lies_in sectors spares map s) (32 * each) word
        → AreFilled (unit_list slots sectors each spares after behind) (word_start slots sectors each s)
        (32 * (sector_frame slots sectors each (s + 1) - sector_frame slots sectors each s)) word
    erased_behind word behind same all = subst (λ (l : List ℕ). AreFilled (unit_list slots sectors each spares after l)
        (word_start slots sectors each s)
        (32 * (sector_frame slots sectors each (s + 1) - sector_frame slots sectors each s)) word) (sym same)
        (erased_units word all)

  -- a sector that is put into a spare
  module _ (m after map moved : List ℕ) (s entry : ℕ) (most : s ≤ 2 * sectors) (below : entry < spares)
      (are : AreFree map 0 entry spares)
      (change : SameElsewhere m (32 * each * (2 * sectors + 1 + entry)) (32 * each) after) where
    pub taken_others : MovesOnly spares map s moved → SameElsewhere (unit_list slots sectors each spares m map)
        (word_start slots sectors each s)
        (32 * (sector_frame slots sectors each (s + 1) - sector_frame slots sectors each s))
        (unit_list slots sectors each spares after moved)
    taken_others moves = by_frames (λ n. SameElsewhere (unit_list slots sectors each spares m map)
        (word_start slots sectors each s) n (unit_list slots sectors each spares after moved)) s
        (taken_elsewhere (word_sector slots sectors each) (word_start slots sectors each) (device_size slots) (32 *
        each)
        sectors spares (frames_lie slots sectors each spares takes) m after map moved s entry most change are below
        moves)

    pub taken_units : (word : ℕ) → find moved 0 spares s ≡ entry + 1
        → AreFilled after (32 * each * (2 * sectors + 1 + entry)) (32 * each) word
        → AreFilled (unit_list slots sectors each spares after moved) (word_start slots sectors each s)
        (32 * (sector_frame slots sectors each (s + 1) - sector_frame slots sectors each s)) word
    taken_units word found all = by_frames (λ n. AreFilled (unit_list slots sectors each spares after moved)
        (word_start slots sectors each s) n word) s
        (taken_filled (word_sector slots sectors each) (word_start slots sectors each) (device_size slots) (32 * each)
        sectors spares (frames_lie slots sectors each spares takes) m after map moved s entry most change word found
        all)

    pub kept_units : ((t : ℕ) → find moved 0 spares t ≡ find map 0 spares t)
        → unit_list slots sectors each spares after moved ≡ unit_list slots sectors each spares m map
    kept_units found = words_stay (word_sector slots sectors each) (word_start slots sectors each) (device_size slots)
        (32 * each) sectors spares (frames_lie slots sectors each spares takes) m after map moved s entry most change
        are below found

-- if no other sector moves, and this one doesn't, none does
pub none_moves : (spares : ℕ) (map : List ℕ) (s : ℕ) (moved : List ℕ) → MovesOnly spares map s moved
    → find moved 0 spares s ≡ find map 0 spares s → (t : ℕ) → find moved 0 spares t ≡ find map 0 spares t
none_moves spares map s moved moves kept t = ⊎_elim
    (λ (e : t ≡ s). subst (λ (n : ℕ). find moved 0 spares n ≡ find map 0 spares n) (sym e) kept)
    (λ (other : t ≢ s). moves.others t other) (cases_eq t s)

-- Ok is no error
pub no_error : {T E : Type 0} (value : T) (error : E) (r : Result T E) → r ≡ Ok value → r ≡ Err error → ⊥
no_error value error r is failed = true≢false (sym (ap is_ok is) ∙ ap is_ok failed)

-- a call of the device is one of the layer
pub lights_units : {T : Type 0} (slots sectors each spares absorbed : ℕ) (old new : SpareState)
    (result : Result T DeviceErr) → absorbed ≤ old.flash.faults → Lights old.flash new.flash result
    → Lights (without_spare_units slots sectors each spares absorbed old).flash
    (without_spare_units slots sectors each spares absorbed new).flash result
lights_units slots sectors each spares absorbed old new result le light = record {
  ok = λ is. let x = light.ok is in record {
    lit = x.lit;
    due = x.due;
    faults = ap (λ (n : ℕ). n - absorbed) x.faults;
  };
  lost = λ is. let x = light.lost is in record {
    dark = x.dark;
    due = x.due;
    faults = ap (λ (n : ℕ). n - absorbed) x.faults;
  };
  fault = λ is. let x = light.fault is in let f = x.faults in record {
    lit = x.lit;
    due = x.due;
    faults = omega (arith, f, le);
  };
}
