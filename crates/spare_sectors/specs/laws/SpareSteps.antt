-- Laws of the calls of a log on a device with spare sectors.
use Rattle.std.specs.Prelude.{◌≡◌, ◌≢◌, ◌<◌, ◌≤◌, ◌+◌, ◌-◌, ◌*◌, ◌^◌, ℕ, zero, suc, false, List, length}
use Rattle.std.specs.Prelude.{slice_index, slice_set, Result}
use Rattle.std.proofs.Common.{refl, sym, ◌∙◌, ap, ap₂, subst, ⊎_elim, arith, true≢false}
use Rattle.std.proofs.Common.{get_or-set_same, get_or-set_other}
use Rattle.std.proofs.lemmas.Bool.{cases_eq}
use Rattle.nvm_board.specs.declared.board.DeviceErr.{DeviceErr}
use Rattle.flash_device.specs.FlashBlocks.{flash_size}
use Rattle.flash_device.specs.FlashCalls.{AreFilled, Lights, SameElsewhere}
use Rattle.flash_device.specs.FlashLogs.{find, is_marked, slot_of}
use Rattle.flash_device.specs.PageTables.{AreFree, IsPageTable}
use Rattle.flash_device.specs.laws.Finding.{find-tells}
use Rattle.flash_device.specs.laws.Indexing.{find_most}
use Rattle.flash_device.specs.laws.Marks.{blank_slot}
use Rattle.flash_device.specs.laws.Putting.{holds_none}
use Rattle.spare_sectors.specs.SpareMaps.{MovesOnly, without_spares}
use Rattle.spare_sectors.specs.SparePlaces.{TakesLog, all_sectors, cell_of, lies_by, lies_in, part_start}
use Rattle.spare_sectors.specs.SparePlaces.{sector_of, spare_words}
use Rattle.spare_sectors.specs.SpareStates.{SpareState}
use Rattle.spare_sectors.specs.laws.SpareImages.{cell_within, lie_apart, lies_own, lies_spare, moved_elsewhere}
use Rattle.spare_sectors.specs.laws.SpareImages.{moved_filled}
use Rattle.spare_sectors.specs.laws.SpareParts.{lies_in_part}

module _ (sectors spares : ℕ) (map table : List ℕ) (index : IsPageTable (2 * sectors + 1) map 0 spares table) where
  -- a sector lies where the table says
  pub lies_table : (s : ℕ) → s ≤ 2 * sectors → lies_by sectors (slice_index table s) s ≡ lies_in sectors spares map s
  unfolding lies_in
  lies_table s le = ap (λ (f : ℕ). lies_by sectors f s) (index.each s (omega (arith, le)))

  pub table_most : (s : ℕ) → s ≤ 2 * sectors → slice_index table s ≤ spares
  table_most s le = subst (λ (n : ℕ). n ≤ spares) (sym (index.each s (omega (arith, le)))) (find_most map 0 spares s)

  -- and so it does when it has a spare more
  pub index_moved : (after : List ℕ) (s entry : ℕ) → s < length table → MovesOnly spares map s after
      → find after 0 spares s ≡ entry + 1
      → IsPageTable (2 * sectors + 1) after 0 spares (slice_set table s (entry + 1))
  index_moved after s entry below moves found = record {
    each = λ t lt. ⊎_elim
        (λ (e : t ≡ s). ap (λ (k : ℕ). slice_index (slice_set table s (entry + 1)) k) e
        ∙ get_or-set_same table s (entry + 1) 0 below ∙ sym (ap (find after 0 spares) e ∙ found))
        (λ (other : t ≢ s). get_or-set_other table s t (entry + 1) 0 other ∙ index.each t lt
        ∙ sym (moves.others t other))
        (cases_eq t s);
  }

module _ (sectors spares : ℕ) (map : List ℕ) where
  -- no sector lies in a spare whose entry is free
  pub free_apart : (entry t : ℕ) → AreFree map 0 entry spares → entry < spares → t ≤ 2 * sectors
      → lies_in sectors spares map t ≢ 2 * sectors + 1 + entry
  free_apart entry t are below le = by_found (find map 0 spares t) refl
    where
      by_found : (f : ℕ) → find map 0 spares t ≡ f → lies_in sectors spares map t ≢ 2 * sectors + 1 + entry
      by_found zero e = λ same. let x = sym (lies_own sectors spares map t e) ∙ same in absurd (omega (arith, x, le))
      by_found (suc k) e = λ same.
          let x = sym (lies_spare sectors spares map t k e) ∙ same in
          let one : entry ≡ k = omega (arith, x) in
          let none : is_marked map (slot_of 0 k + 18) ≡ false =
          subst (λ (j : ℕ). is_marked map (slot_of 0 j + 18) ≡ false) one
          (blank_slot map (slot_of 0 entry) (are.free entry (omega arith) below)) in
          absurd (true≢false (sym (find-tells map 0 spares t k e).held ∙ holds_none map 0 k t none))

  pub lies_stays : (after : List ℕ) (s t : ℕ) → MovesOnly spares map s after → t ≢ s
      → lies_in sectors spares after t ≡ lies_in sectors spares map t
  unfolding lies_in
  lies_stays after s t moves other = ap (λ (f : ℕ). lies_by sectors f t) (moves.others t other)

  pub lies_same : (after : List ℕ) (s : ℕ) → find after 0 spares s ≡ find map 0 spares s
      → lies_in sectors spares after s ≡ lies_in sectors spares map s
  unfolding lies_in
  lies_same after s found = ap (λ (f : ℕ). lies_by sectors f s) found

  pub lies_taken : (s entry : ℕ) → find map 0 spares s ≡ entry + 1 → lies_in sectors spares map s ≡ 2 * sectors + 1 +
      entry
  lies_taken s entry found =
      let one : entry + 1 ≡ suc entry = omega arith in
      let place : 2 * sectors + suc entry ≡ 2 * sectors + 1 + entry = omega arith in
      lies_spare sectors spares map s entry (found ∙ one) ∙ place

module _ (slots sectors each size spares : ℕ) (takes : TakesLog slots sectors each size spares)
    (m after map : List ℕ) (s : ℕ) (most : s ≤ 2 * sectors) where
  -- an erase of a sector where it lies
  module _ (change : SameElsewhere m (size * lies_in sectors spares map s) size after) where
    pub erased_elsewhere : SameElsewhere (spare_words slots sectors each size spares m map)
        (part_start slots sectors each s) (part_start slots sectors each (s + 1) - part_start slots sectors each s)
        (spare_words slots sectors each size spares after map)
    erased_elsewhere = moved_elsewhere slots sectors each size spares takes m after map map s
        (lies_in sectors spares map s) most change (λ t le other. refl)
        (λ t le other. lie_apart sectors spares map t s le most other)

    pub erased_filled : (word : ℕ) → AreFilled after (size * lies_in sectors spares map s) size word
        → AreFilled (spare_words slots sectors each size spares after map) (part_start slots sectors each s)
        (part_start slots sectors each (s + 1) - part_start slots sectors each s) word
    erased_filled word all = moved_filled slots sectors each size spares takes m after map map s
        (lies_in sectors spares map s) most change word refl all

  -- a sector that moves to a spare
  module _ (moved : List ℕ) (entry : ℕ) (change : SameElsewhere m (size * (2 * sectors + 1 + entry)) size after) where
    pub taken_elsewhere : AreFree map 0 entry spares → entry < spares → MovesOnly spares map s moved
        → SameElsewhere (spare_words slots sectors each size spares m map)
        (part_start slots sectors each s) (part_start slots sectors each (s + 1) - part_start slots sectors each s)
        (spare_words slots sectors each size spares after moved)
    taken_elsewhere are below moves = moved_elsewhere slots sectors each size spares takes m after map moved s
        (2 * sectors + 1 + entry) most change (λ t le other. lies_stays sectors spares map moved s t moves other)
        (λ t le other. free_apart sectors spares map entry t are below le)

    pub taken_filled : (word : ℕ) → find moved 0 spares s ≡ entry + 1
        → AreFilled after (size * (2 * sectors + 1 + entry)) size word
        → AreFilled (spare_words slots sectors each size spares after moved) (part_start slots sectors each s)
        (part_start slots sectors each (s + 1) - part_start slots sectors each s) word
    taken_filled word found all = moved_filled slots sectors each size spares takes m after map moved s
        (2 * sectors + 1 + entry) most change word (lies_taken sectors spares moved s entry found) all

-- the place of a word by the table
module _ (slots sectors each size spares : ℕ) (takes : TakesLog slots sectors each size spares) (map table : List ℕ)
    (index : IsPageTable (2 * sectors + 1) map 0 spares table) (at : ℕ) (lt : at < flash_size slots) where
  pub place_is : (sector offset words lies : ℕ) → sector ≡ sector_of slots sectors each at
      → offset ≡ at - part_start slots sectors each (sector_of slots sectors each at) → words ≡ size
      → lies ≡ lies_by sectors (slice_index table sector) sector
      → words * lies + offset ≡ cell_of slots sectors each size spares map at
  place_is sector offset words lies is off all there =
      let most = subst (λ (s : ℕ). s ≤ 2 * sectors) (sym is)
      (lies_in_part slots sectors each size spares takes at lt).most in
      let here : lies ≡ lies_in sectors spares map (sector_of slots sectors each at) =
      there ∙ lies_table sectors spares map table index sector most ∙ ap (lies_in sectors spares map) is in
      ap (λ (w : ℕ). w * lies + offset) all ∙ ap₂ (λ (l o : ℕ). size * l + o) here off

  pub place_within : (place : ℕ) → place ≡ cell_of slots sectors each size spares map at
      → place < size * all_sectors sectors spares
  place_within place is = let x = cell_within slots sectors each size spares takes map at lt in omega (arith, is, x)

  pub place_fits : (place : ℕ) → place ≡ cell_of slots sectors each size spares map at → place < 2 ^ 32
  place_fits place is = let x = place_within place is in let most = takes.places in omega (arith, x, most)

-- a call of the device is one of the layer
pub lights_same : {T : Type 0} (slots sectors each size spares absorbed : ℕ) (old new : SpareState)
    (result : Result T DeviceErr) → absorbed ≤ old.flash.faults → Lights old.flash new.flash result
    → Lights (without_spares slots sectors each size spares absorbed old)
    (without_spares slots sectors each size spares absorbed new) result
lights_same slots sectors each size spares absorbed old new result le light = record {
  ok = λ is. let x = light.ok is in record {
    lit = x.lit;
    due = x.due;
    faults = ap (λ (n : ℕ). n - absorbed) x.faults;
  };
  lost = λ is. let x = light.lost is in record {
    dark = x.dark;
    due = x.due;
    faults = ap (λ (n : ℕ). n - absorbed) x.faults;
  };
  fault = λ is. let x = light.fault is in let f = x.faults in record {
    lit = x.lit;
    due = x.due;
    faults = omega (arith, f, le);
  };
}
