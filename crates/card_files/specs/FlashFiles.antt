-- The flash that a command line asks for, and why there is none.
use Rattle.std.specs.Prelude.{◌≡◌, ◌≢◌, ◌*◌, ℕ, Bool, true, List, Option, None, Some, IfSome, option_map, take}
use Rattle.std.specs.Prelude.{if◌then◌else◌}
use Rattle.std.specs.declared.fs.File.{File}
use Rattle.nvm_board.specs.Facts.{AreWords}
use Rattle.flash_device.specs.FlashBlocks.{flash_size}
use Rattle.simulated_flashes.specs.Complements.{IsFirstRandom}
use Rattle.simulated_flashes.specs.KeptFlashes.{kept_flash_state}
use Rattle.simulated_flashes.specs.declared.kept_flash.KeptFlash.{KeptFlash}
use Rattle.card_boards.specs.FlashImages.{FlashKind, IsFactoryFlash, IsFlashReady, IsFlashRefusal}
use Rattle.card_boards.specs.declared.flash_image.NoFlashCard.{NoFlashCard}
use Rattle.card_boards.specs.declared.flash_image.NoFlashCard.TheVariants as why
use Rattle.card_boards.specs.Images.{image_bytes}
use Rattle.card_files.specs.CommandLines.{pages_number}
use Rattle.card_files.specs.FileRefusals.{IsFileFault, IsShorter}
use Rattle.card_files.specs.declared.flash_file.FlashCardFault.{FlashCardFault}
use Rattle.card_files.specs.declared.flash_file.FlashCardFault.TheVariants as flash_fault
use Rattle.card_files.specs.declared.flash_file.NoFlash.{NoFlash}
use Rattle.card_files.specs.declared.flash_file.NoFlash.TheVariants as no_flash
use Rattle.card_files.specs.declared.image_words.TheConstants.{WORD_BYTES}
use Rattle.card_files.specs.declared.kept_file.KeptFile.{KeptFile}
use Rattle.card_files.specs.declared.opening.CardFault.TheVariants as fault
use Rattle.card_files.specs.declared.options.Asked.{Asked}
use Rattle.card_files.specs.declared.options.Asked.TheVariants as asked
use Rattle.card_files.specs.declared.options.CardOptions.{CardOptions}

-- whether each operation waits until the disk has it, if a file follows the flash and gets the next operation
abbrev pub flash_syncs : {S : Type 0} {g : _} → KeptFlash KeptFile S g → Option Bool
flash_syncs flash = if flash.follows then option_map (λ file. file.sync) flash.follower else None

-- the file that follows a flash, if one does
abbrev pub flash_follower_file : {S : Type 0} {g : _} → KeptFlash KeptFile S g → Option File
flash_follower_file flash = option_map (λ file. file.file) flash.follower

-- Without `--card` the flash has the factory card, and no file follows it. A file follows the flash of a card in a
-- file, gets its next operation, and waits for the disk as the options ask. They give no number of pages. There is no
-- flash for unknown words.
abbrev pub IsFlashOf : {S : Type 0} {g : _} → FlashKind → Asked → KeptFlash KeptFile S g → Type 0
IsFlashOf kind asked.Factory flash = (flash.follower ≡ None) × IsFactoryFlash kind (kept_flash_state flash).words
IsFlashOf kind (asked.Card options) flash =
    (flash_syncs flash ≡ Some options.sync) × (pages_number options.pages ≡ None)
IsFlashOf kind asked.Unknown flash = ⊥

-- The flash is ready for a run, and its seed chose the first random number of its garbage.
pub record IsSeededFlash {S : Type 0} {g : _} (seed : ℕ) (flash : KeptFlash KeptFile S g) : Type 0 where
  pub ready : IsFlashReady (kept_flash_state flash)
  pub random : IsFirstRandom seed flash.flash.random

-- the bytes of the image of such a flash
abbrev pub flash_image_size : FlashKind → ℕ
flash_image_size kind = WORD_BYTES * flash_size kind.slots

-- The first bytes of a reader are those of words that meet this, if the bytes are known.
abbrev pub HoldsWords : (List ℕ → Type 0) → Option (List ℕ) → ℕ → Type 0
HoldsWords meet known size = IfSome known (λ bytes. (words : List ℕ) × AreWords words
    × (image_bytes words ≡ take size bytes) × meet words)

-- The bytes of such a flash are those of words that are refused for this.
abbrev pub IsToldOf : FlashKind → NoFlashCard → ℕ → Option (List ℕ) → Type 0
IsToldOf kind why size known = (size ≡ flash_image_size kind) × HoldsWords (IsFlashRefusal kind why) known size

-- Why a reader with a file of `size` bytes gives no flash of a kind with a card. Such a flash has another number of
-- bytes, or the reader has fewer. Its bytes hold no log, or one out of step, or no card. Of the size of such a flash it
-- failed, or there was too little memory.
abbrev pub IsFlashReadFault : FlashKind → ℕ → Option (List ℕ) → FlashCardFault → Type 0
IsFlashReadFault kind size known (flash_fault.Size bytes wanted) =
    (bytes ≡ size) × (wanted ≡ flash_image_size kind) × (size ≡ wanted → IsShorter known size)
IsFlashReadFault kind size known flash_fault.Log = IsToldOf kind why.Log size known
IsFlashReadFault kind size known flash_fault.OutOfStep = (kind.small ≡ true) × IsToldOf kind why.OutOfStep size known
IsFlashReadFault kind size known flash_fault.Card = IsToldOf kind why.Card size known
IsFlashReadFault kind size known (flash_fault.File (fault.Read error)) = size ≡ flash_image_size kind
IsFlashReadFault kind size known (flash_fault.File fault.Memory) = size ≡ flash_image_size kind
IsFlashReadFault kind size known (flash_fault.File other) = ⊥
IsFlashReadFault kind size known flash_fault.Usage = ⊥

-- A card in a file is refused by the usage exactly if the options give a number of pages. The size that is told is that
-- of a flash of this kind, and only a log of small sectors is out of step.
abbrev pub IsFlashFaultOf : FlashKind → CardOptions → FlashCardFault → Type 0
IsFlashFaultOf kind options flash_fault.Usage = pages_number options.pages ≢ None
IsFlashFaultOf kind options (flash_fault.File why) = (pages_number options.pages ≡ None) × IsFileFault options why
IsFlashFaultOf kind options (flash_fault.Size bytes wanted) =
    (pages_number options.pages ≡ None) × (wanted ≡ flash_image_size kind)
IsFlashFaultOf kind options flash_fault.OutOfStep = (pages_number options.pages ≡ None) × (kind.small ≡ true)
IsFlashFaultOf kind options other = pages_number options.pages ≡ None

-- Why there is no flash. The factory card needs memory alone, unknown words are told by the usage, and a card in a file
-- by a reason of its own.
abbrev pub IsFlashRefusedAs : FlashKind → Asked → NoFlash → Type 0
IsFlashRefusedAs kind asked.Factory why = why ≡ no_flash.Memory
IsFlashRefusedAs kind asked.Unknown why = why ≡ no_flash.Card flash_fault.Usage
IsFlashRefusedAs kind (asked.Card options) no_flash.Memory = ⊥
IsFlashRefusedAs kind (asked.Card options) (no_flash.Card why) = IsFlashFaultOf kind options why
