use Rattle.std.proofs.Common.{◌≡◌, ◌<◌, ◌^◌, ℕ, List, length, replicate, ap, sym, subst, ◌∙◌, arith}
use Rattle.std.proofs.Math.ListN.{length-replicate}
use Rattle.std.proofs.lemmas.List.Elements.{All-replicate}
use Rattle.nvm_board.specs.Facts.{AreWords}
use Rattle.flash_device.specs.declared.flash.TheConstants.{BLANK}
use Rattle.simulated_chips.specs.declared.small_sectors.TheConstants.{SMALL_FLASH_WORDS}
use Rattle.simulated_chips.proofs.small_sectors.SmallSectorFlash.new.Goals as goal

pub invariant_of-result : goal.invariant_of-result
invariant_of-result c =
    let same : c.in_ok-vec.field-0.items ≡ replicate SMALL_FLASH_WORDS BLANK =
    c.in_ok-vec.ensures.items_if_clones_equal (λ y is_blank. is_blank) in
    let fits : BLANK < 2 ^ 32 = omega arith in
    record {
      sized = ap (λ (l : List ℕ). length l) same ∙ length-replicate {A = ℕ} SMALL_FLASH_WORDS BLANK;
      words_fit = subst (λ (l : List ℕ). AreWords l) (sym same)
          (All-replicate (λ w. w < 2 ^ 32) SMALL_FLASH_WORDS BLANK fits);
    }
