-- Images of a simulated flash: those that have a card, and why words are none.
use Rattle.std.specs.Prelude.{◌≡◌, ◌≢◌, ◌<◌, ◌*◌, ℕ, Bool, true, false, List, length, slice_index}
use Rattle.command_base.specs.Finding.{Finds, HasCard}
use Rattle.card_start.specs.declared.memory_format.MemoryFormat.TheVariants.{Two}
use Rattle.card_start.specs.Factory.{IsFactory, factory_card}
use Rattle.flash_device.specs.FlashBlocks.{area_size, flash_size}
use Rattle.flash_device.specs.FlashCalls.{FlashState}
use Rattle.flash_device.specs.FlashLogs.{words_of}
use Rattle.flash_moves.specs.Rings.{IsRing}
use Rattle.sector_moves.specs.SectorSpares.{HasRoomForSteps}
use Rattle.simulated_flashes.specs.EvenSectors.{even_sector}
use Rattle.simulated_flashes.specs.declared.garbling_flash.TheConstants.{FLASH_PAGES}
use Rattle.card_boards.specs.declared.flash_image.NoFlashCard.{NoFlashCard}
use Rattle.card_boards.specs.declared.flash_image.NoFlashCard.TheVariants as why

-- A kind of simulated flash: the slots and the sectors of an area, the words of a sector, and whether the log is that
-- of small sectors.
pub record FlashKind : Type 0 where
  pub slots : ℕ
  pub sectors : ℕ
  pub sector_words : ℕ
  pub small : Bool

-- 51 sectors of 502 words in each area
abbrev pub large_kind : FlashKind
large_kind = record { slots = 1280; sectors = 51; sector_words = 502; small = false }

-- 80 sectors of 512 words in each area, the last one with two more
abbrev pub small_kind : FlashKind
small_kind = record { slots = 2048; sectors = 80; sector_words = 512; small = true }

-- where a sector begins
abbrev pub kind_start : FlashKind → ℕ → ℕ
kind_start kind = even_sector kind.sector_words (area_size kind.slots) kind.sectors

-- the words of the board on a flash with these words
abbrev pub words_on_flash : FlashKind → List ℕ → List ℕ
words_on_flash kind m = words_of FLASH_PAGES kind.slots m

-- If sectors are small, a slot is free for each step that is left of the move.
abbrev pub HasStepsLeft : FlashKind → List ℕ → Type 0
HasStepsLeft kind m = kind.small ≡ true → HasRoomForSteps FLASH_PAGES kind.slots kind.sectors (kind_start kind) m 0

-- The flash has a log: one in step, if its sectors are small.
pub record HasFlashLog (kind : FlashKind) (m : List ℕ) : Type 0 where
  pub ring : IsRing kind.slots m
  pub in_step : HasStepsLeft kind m

-- The flash has a log, and its board a card state after recovery.
pub record HasCardOnFlash (kind : FlashKind) (m : List ℕ) : Type 0 where
  pub log : HasFlashLog kind m
  pub card : HasCard (words_on_flash kind m)

-- The flash has power, no power loss is set, and what follows it has all operations.
pub record IsFlashReady (s : FlashState) : Type 0 where
  pub lit : s.dark ≡ false
  pub uncut : s.due ≡ 0
  pub kept : s.kept ≡ true

-- A flash with so many slots in an area is ready, and all words of its board are 0.
pub record IsBlankFlash (slots : ℕ) (s : FlashState) : Type 0 where
  pub ready : IsFlashReady s
  pub blank : (i : ℕ) → i < 16 * FLASH_PAGES → slice_index (words_of FLASH_PAGES slots s.words) i ≡ 0

-- The flash has the factory card in format 2, on 896 blocks.
pub record IsFactoryFlash (kind : FlashKind) (m : List ℕ) : Type 0 where
  pub log : HasFlashLog kind m
  pub card : Finds (words_on_flash kind m) (factory_card 896)
  pub words : IsFactory Two (words_on_flash kind m)

-- Why words are no card's: a flash of this kind has another number of words, they have no log, or one out of step, as
-- only small sectors may, or recovery finds no card in those of the board. Too little memory is reported only of as
-- many words as a flash has.
abbrev pub IsFlashRefusal : FlashKind → NoFlashCard → List ℕ → Type 0
IsFlashRefusal kind why.Memory m = length m ≡ flash_size kind.slots
IsFlashRefusal kind why.Size m = length m ≢ flash_size kind.slots
IsFlashRefusal kind why.Log m = (length m ≡ flash_size kind.slots) × ¬ IsRing kind.slots m
IsFlashRefusal kind why.OutOfStep m =
    (length m ≡ flash_size kind.slots) × IsRing kind.slots m × (kind.small ≡ true) × ¬ HasStepsLeft kind m
IsFlashRefusal kind why.Card m =
    (length m ≡ flash_size kind.slots) × HasFlashLog kind m × ¬ HasCard (words_on_flash kind m)
