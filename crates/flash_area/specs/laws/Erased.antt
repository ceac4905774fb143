-- Laws of an area that is blank.
use Rattle.std.specs.Prelude.{◌≡◌, ◌≢◌, ◌<◌, ◌+◌, ◌*◌, ℕ, false, List, slice_index}
use Rattle.std.proofs.Common.{sym, ◌∙◌, ap, ⊎_elim, arith}
use Rattle.std.proofs.lemmas.Bool.{cases_eq}
use Rattle.flash_device.specs.declared.flash.TheConstants.{BLANK}
use Rattle.flash_device.specs.FlashBlocks.{area_size}
use Rattle.flash_device.specs.FlashCalls.{AreFilled}
use Rattle.flash_device.specs.FlashLogs.{base_in, close_of, is_closed, slot_of}
use Rattle.flash_device.specs.PageTables.{AreFree}
use Rattle.flash_device.specs.laws.Marks.{blank_open}
use Rattle.flash_area.specs.Spares.{HasCopies}
use Rattle.flash_area.specs.laws.Copying.{none_found}

-- the blocks of the two areas
pub record IsArea (slots to : ℕ) : Type 0 where
  pub close : close_of slots to ≡ base_in slots to + 20 * slots

module _ (pages slots : ℕ) where
  -- an area that was erased has free slots, and is open
  pub erased_free : (m : List ℕ) (base : ℕ) → AreFilled m base (area_size slots) BLANK → AreFree m base 0 slots
  erased_free m base all = record {
    within = omega arith;
    free = λ s from lt. record {
      each = λ k few.
          let place : base + (20 * s + k) ≡ slot_of base s + k = omega arith in
          ap (λ (j : ℕ). slice_index m j) (sym place) ∙ all.each (20 * s + k) (omega (arith, lt, few));
    };
  }

  pub erased_open : (m : List ℕ) (base : ℕ) → AreFilled m base (area_size slots) BLANK
      → is_closed m (base + 20 * slots) ≡ false
  erased_open m base all =
      let next : base + (20 * slots + 1) ≡ base + 20 * slots + 1 = omega arith in
      blank_open m (base + 20 * slots) (all.each (20 * slots) (omega arith))
      (ap (λ (k : ℕ). slice_index m k) (sym next) ∙ all.each (20 * slots + 1) (omega arith))

  pub is_area : (to : ℕ) → to < 2 → IsArea slots to
  is_area to lt = ⊎_elim
      (λ (z : to ≡ 0). record {
        close = let here : 20 * slots ≡ 0 + 20 * slots = omega arith in
            ap (close_of slots) z ∙ here ∙ sym (ap (λ (t : ℕ). base_in slots t + 20 * slots) z);
      })
      (λ (n : to ≢ 0). let o : to ≡ 1 = omega (arith, n, lt) in record {
        close = ap (close_of slots) o ∙ sym (ap (λ (t : ℕ). base_in slots t + 20 * slots) o);
      })
      (cases_eq to 0)

  -- an area that was erased has no page
  pub copies_none : (m words : List ℕ) (home base : ℕ) → AreFilled m base (area_size slots) BLANK
      → HasCopies pages slots m words home base 0 0 0
  copies_none m words home base all = let free = erased_free m base all in record {
    opened = erased_open m base all;
    free = free;
    each = λ p k lt below other few. absurd (omega (arith, lt));
    left = λ p from below none. none_found slots m base p free;
  }
