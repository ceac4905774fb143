-- Why the words of a simulated flash are no card's. It never fails, and loses no power that isn't due.
use Rattle.std.specs.Prelude.{◌≡◌, ◌+◌, List, ℕ, Err, IfErr, Result}
use Rattle.std.proofs.Common.{arith, subst}
use Rattle.nvm_board.specs.Facts.{IsMemory}
use Rattle.nvm_board.specs.laws.Sizes.{memory_of_pages}
use Rattle.flash_device.specs.FlashCalls.{FlashState}
use Rattle.flash_log.specs.Openings.{OpenStopsBy}
use Rattle.flash_moves.specs.Rings.{IsRing}
use Rattle.flash_log.specs.declared.flash_log.FlashFault.{FlashFault}
use Rattle.flash_log.specs.declared.flash_log.FlashFault.TheVariants.{NoLog, PowerLost, Fault}
use Rattle.flash_area.specs.laws.Words.{length-words}
use Rattle.simulated_flashes.specs.declared.garbling_flash.TheConstants.{FLASH_PAGES}
use Rattle.card_boards.specs.FlashImages.{FlashKind, words_on_flash}
use Rattle.card_boards.specs.Images.{IsRefusedRightly}
use Rattle.card_boards.specs.declared.image.NoCard.{NoCard}

-- a flash on which no power loss is set, and that doesn't fail, is refused since it has no log
pub has_no_log : (slots : ℕ) (fault : FlashFault) (old new : FlashState) → old.due ≡ 0 → new.faults ≡ old.faults
    → OpenStopsBy slots fault old new → ¬ IsRing slots old.words
has_no_log slots NoLog old new due faults stops = stops.1
has_no_log slots PowerLost old new due faults stops = let spent = stops.0.due in absurd (omega (arith, due, spent))
has_no_log slots Fault old new due faults stops = let rises = stops.0.faults in absurd (omega (arith, faults, rises))

-- the words of its board are a memory
pub are_memory : (kind : FlashKind) (m : List ℕ) → IsMemory (words_on_flash kind m)
are_memory kind m =
    (memory_of_pages (words_on_flash kind m) FLASH_PAGES (omega arith) (omega arith)
    (length-words FLASH_PAGES kind.slots m)).0

-- a refusal of words is for a reason that is so
pub rightly_told : {B : Type 0} (words : List ℕ) (r : Result B NoCard) (why told : NoCard)
    → IfErr r (λ e. IsRefusedRightly e words) → r ≡ Err why → why ≡ told → IsRefusedRightly told words
rightly_told {B} words r why told rightly is same = subst (λ (e : NoCard). IsRefusedRightly e words) same
    (subst (λ (result : Result B NoCard). IfErr result (λ e. IsRefusedRightly e words)) is rightly)
