use Rattle.std.proofs.Common.{◌≡◌, ◌<◌, ◌≤◌, ◌+◌, ◌*◌, ◌^◌, ℕ, List, length, replicate, slice_index, ap, sym}
use Rattle.std.proofs.Common.{subst, ◌∙◌, ⊎_elim, arith}
use Rattle.std.proofs.Math.ListN.{length-replicate}
use Rattle.std.proofs.lemmas.Bool.{cases_lt}
use Rattle.std.proofs.lemmas.List.{get_or-replicate, get_or_past}
use Rattle.std.proofs.lemmas.List.Elements.{All-replicate}
use Rattle.nvm_board.specs.Facts.{AreWords}
use Rattle.flash_device.specs.declared.flash.TheConstants.{BLANK}
use Rattle.flash_device.specs.FlashLogs.{slot_of}
use Rattle.spare_units.specs.SpareFrames.{unit_list, word_sector, word_start}
use Rattle.program_units.specs.UnitFrames.{device_size, place_in}
use Rattle.spare_units.specs.laws.MovedWords.{index-moved_words, length-moved_words}
use Rattle.simulated_chips.specs.declared.sim_spare_units.TheConstants.{ALL_FRAMES, MAP_WORDS}
use Rattle.simulated_chips.proofs.sim_spare_units.SimSpareUnits.new.Goals as goal

-- no count is other than 0, wherever it is looked for
none_counted : (k : ℕ) → slice_index (replicate ALL_FRAMES 0) k ≡ 0
none_counted k = ⊎_elim
    (λ (lt : k < ALL_FRAMES). get_or-replicate ALL_FRAMES k 0 0 lt)
    (λ (ge : ALL_FRAMES ≤ k).
    let zeros : List ℕ = replicate ALL_FRAMES 0 in
    let n : length zeros ≡ ALL_FRAMES = length-replicate {A = ℕ} ALL_FRAMES 0 in
    let past : length zeros ≤ k = omega (arith, n, ge) in get_or_past zeros k 0 past)
    (cases_lt k ALL_FRAMES)

-- and none of those that the log sees
none_moved : (m map : List ℕ) → ((k : ℕ) → slice_index m k ≡ 0) → (a : ℕ)
    → slice_index (unit_list 1280 2 641 2 m map) a ≡ 0
none_moved m map zeros a = ⊎_elim
    (λ (lt : a < device_size 1280).
    index-moved_words (word_sector 1280 2 641) (word_start 1280 2 641) (device_size 1280) (32 * 641) 2 2 m map a lt
    ∙ zeros _)
    (λ (ge : device_size 1280 ≤ a).
    let n = length-moved_words (word_sector 1280 2 641) (word_start 1280 2 641) (device_size 1280) (32 * 641) 2 2 m map
    in
    let past : length (unit_list 1280 2 641 2 m map) ≤ a = omega (arith, n, ge) in
    get_or_past (unit_list 1280 2 641 2 m map) a 0 past)
    (cases_lt a (device_size 1280))

pub invariant_of-result : goal.invariant_of-result
invariant_of-result g c =
    let same : c.in_ok-vec.field-0.items ≡ replicate ALL_FRAMES BLANK =
    c.in_ok-vec.ensures.items_if_clones_equal (λ y is_blank. is_blank) in
    let none : c.in_ok-vec-2.field-0.items ≡ replicate ALL_FRAMES 0 =
    c.in_ok-vec-2.ensures.items_if_clones_equal (λ y is_zero. is_zero) in
    let same_2 : c.in_ok-vec-3.field-0.items ≡ replicate MAP_WORDS BLANK =
    c.in_ok-vec-3.ensures.items_if_clones_equal (λ y is_blank. is_blank) in
    let fits : BLANK < 2 ^ 32 = omega arith in
    record {
      sized = ap (λ (l : List ℕ). length l) same ∙ length-replicate {A = ℕ} ALL_FRAMES BLANK;
      counted = ap (λ (l : List ℕ). length l) none ∙ length-replicate {A = ℕ} ALL_FRAMES 0;
      mapped = ap (λ (l : List ℕ). length l) same_2 ∙ length-replicate {A = ℕ} MAP_WORDS BLANK;
      words_fit = subst (λ (l : List ℕ). AreWords l) (sym same)
          (All-replicate (λ w. w < 2 ^ 32) ALL_FRAMES BLANK fits);
      free = record {
        within = omega arith;
        free = λ s from lt. record {
          each = λ k below. ap (λ (l : List ℕ). slice_index l (slot_of 0 s + k)) same_2
              ∙ get_or-replicate MAP_WORDS (slot_of 0 s + k) BLANK 0 (omega (arith, lt, below));
        };
      };
    }

pub returns-clause-fresh : goal.returns-clause-fresh
returns-clause-fresh g c =
    let none : c.in_ok-vec-2.field-0.items ≡ replicate ALL_FRAMES 0 =
    c.in_ok-vec-2.ensures.items_if_clones_equal (λ y is_zero. is_zero) in
    record {
      each = λ f r n part looks. record {
        each = λ k lt. none_moved _ _
            (λ i. ap (λ (l : List ℕ). slice_index l i) none ∙ none_counted i) (place_in f r + k);
      };
    }
