use Rattle.std.proofs.Common.{List, ℕ, ap, subst, sym, ◌∙◌}
use Rattle.card_start.specs.declared.memory_format.MemoryFormat.TheVariants.{Two}
use Rattle.card_start.specs.Factory.{IsFactory, factory_card}
use Rattle.command_base.specs.Finding.{Finds}
use Rattle.flash_board.specs.FlashFacts.{made_of}
use Rattle.flash_device.specs.FlashCalls.{FlashState}
use Rattle.flash_moves.specs.Rings.{IsRing}
use Rattle.sector_log.specs.SectorLogs.{SectorLogState}
use Rattle.sector_moves.specs.SectorSpares.{HasRoomForSteps}
use Rattle.simulated_flashes.specs.GarblingStates.{garbling_state}
use Rattle.simulated_flashes.specs.declared.garbling_flash.TheConstants.{FLASH_PAGES}
use Rattle.card_boards.specs.FlashImages.{kind_start, small_kind, words_on_flash}
use Rattle.card_boards.proofs.BlankFlash.{blank_is_new}
use Rattle.card_boards.proofs.card_sizes.SmallSectorsCardSizes.factory_words.Goals as goal

pub with_factory_card-requires : goal.with_factory_card-requires
with_factory_card-requires c =
    let blank = c.in_ok-flash.ensures.blank in
    c.new-2.ensures.facts ∙ ap (λ (l : SectorLogState). made_of l.flash) c.new.ensures.is
    ∙ blank_is_new 1024 2048 (garbling_state c.in_ok-flash.flash) blank.blank blank.ready.uncut

pub returns-clause-card : goal.returns-clause-card
returns-clause-card c =
    let given = c.into_words.ensures in
    let same = ap (words_on_flash small_kind) given ∙ ap (λ (s : FlashState). s.words) c.into_flash.ensures.is
    ∙ c.into_log.ensures.words in
    record {
      log = record {
        ring = subst (λ (m : List ℕ). IsRing 2048 m) (sym given) c.into_flash.ensures.ring;
        in_step = λ small. subst (λ (m : List ℕ). HasRoomForSteps FLASH_PAGES 2048 80 (kind_start small_kind) m 0)
            (sym given) c.into_flash.ensures.in_step;
      };
      card = subst (λ (m : List ℕ). Finds m (factory_card 896)) (sym same) c.in_ok-board.ensures.card;
      words = subst (λ (m : List ℕ). IsFactory Two m) (sym same) c.in_ok-board.ensures.words;
    }
