use Rattle.std.proofs.Common.{◌≡◌, List, ℕ, ap, subst, sym, ◌∙◌}
use Rattle.nvm_board.specs.Facts.{IsMemory}
use Rattle.command_base.specs.Finding.{HasCard}
use Rattle.flash_device.specs.FlashBlocks.{flash_size}
use Rattle.card_boards.specs.FlashImages.{words_on_flash}
use Rattle.card_boards.proofs.FlashReading.{are_memory, rightly_told}
use Rattle.card_boards.proofs.flash_image.check_card.Goals as goal

pub returns-in-Err-Memory-clause-none : goal.returns-in-Err-Memory-clause-none
returns-in-Err-Memory-clause-none g c = c.requires.size ∙ ap flash_size (sym g.met.S.CardSizes.slots_are)

pub returns-in-Err-Size-clause-none : goal.returns-in-Err-Size-clause-none
returns-in-Err-Size-clause-none g c =
    let kind = g.S.CardSizes.kind in
    let m = c.args.words.items in
    let pages = c.in_ok-pages.pages.items in
    let same : pages ≡ words_on_flash kind m = c.in_ok-pages.ensures.board in
    let rightly = rightly_told pages c.image_board.result c.in-Err-Size.field-0 _ c.image_board.ensures.none
    c.in-Err-Size.is c.in-Err-Size.field-0-is in
    absurd (subst (λ (l : List ℕ). ¬ IsMemory l) same rightly (are_memory kind m))

pub returns-in-Err-Start-clause-none : goal.returns-in-Err-Start-clause-none
returns-in-Err-Start-clause-none g c =
    let kind = g.S.CardSizes.kind in
    let m = c.args.words.items in
    let pages = c.in_ok-pages.pages.items in
    let same : pages ≡ words_on_flash kind m = c.in_ok-pages.ensures.board in
    let rightly = rightly_told pages c.image_board.result c.in-Err-Start.field-0 _ c.image_board.ensures.none
    c.in-Err-Start.is c.in-Err-Start.field-0-is in (
      c.requires.size ∙ ap flash_size (sym g.met.S.CardSizes.slots_are),
      c.in_ok-pages.ensures.log,
      subst (λ (l : List ℕ). ¬ HasCard l) same rightly.1,
    )
