-- Why a file is not taken as a card's.
use Rattle.std.specs.Prelude.{◌≡◌, ◌<◌, ◌/◌, ℕ, List, Option, Some, IfSome, length, take}
use Rattle.nvm_board.specs.Facts.{AreWords, pages_of}
use Rattle.command_base.specs.Finding.{HasCard}
use Rattle.card_files.specs.CommandLines.{pages_number}
use Rattle.card_boards.specs.Images.{image_bytes}
use Rattle.card_files.specs.ImageParts.{IsImageSize}
use Rattle.card_files.specs.declared.image_words.TheConstants.{PAGE_BYTES}
use Rattle.card_files.specs.declared.opening.CardFault.{CardFault}
use Rattle.card_files.specs.declared.opening.CardFault.TheVariants as fault
use Rattle.card_files.specs.declared.opening.NoBoard.{NoBoard}
use Rattle.card_files.specs.declared.opening.NoBoard.TheVariants as no_board
use Rattle.card_files.specs.declared.options.Asked.{Asked}
use Rattle.card_files.specs.declared.options.Asked.TheVariants as asked
use Rattle.card_files.specs.declared.options.CardOptions.{CardOptions}

-- the number of pages that the options give, if they give one
abbrev pub AreAskedPages : CardOptions → ℕ → Type 0
AreAskedPages options pages = (number : ℕ) → pages_number options.pages ≡ Some number → pages ≡ number

-- the memory has as many pages as the options give, if they give a number
abbrev pub HasPagesOf : CardOptions → List ℕ → Type 0
HasPagesOf options words = AreAskedPages options (pages_of words)

-- The reader's bytes are fewer, if they are known.
abbrev pub IsShorter : Option (List ℕ) → ℕ → Type 0
IsShorter known size = IfSome known (λ bytes. length bytes < size)

-- The first bytes of a reader are those of words, which are no card's, if the bytes are known.
abbrev pub HoldsNoCard : Option (List ℕ) → ℕ → Type 0
HoldsNoCard known size = IfSome known (λ bytes. (words : List ℕ) × AreWords words
    × (image_bytes words ≡ take size bytes) × ¬ HasCard words)

-- Why a reader with a file of `size` bytes gives no card. No memory has as many bytes, or the options give another
-- number of pages. Of a size that is neither the reader has fewer bytes, they hold no card, it failed, or there was too
-- little memory.
abbrev pub IsReadFault : CardOptions → ℕ → Option (List ℕ) → CardFault → Type 0
IsReadFault options size known (fault.Size bytes) =
    (bytes ≡ size) × (IsImageSize size → AreAskedPages options (size / PAGE_BYTES) × IsShorter known size)
IsReadFault options size known (fault.OtherPages pages) =
    IsImageSize size × (pages ≡ size / PAGE_BYTES) × ¬ AreAskedPages options pages
IsReadFault options size known fault.NoCard =
    IsImageSize size × AreAskedPages options (size / PAGE_BYTES) × HoldsNoCard known size
IsReadFault options size known (fault.Read error) = IsImageSize size × AreAskedPages options (size / PAGE_BYTES)
IsReadFault options size known fault.Memory = IsImageSize size × AreAskedPages options (size / PAGE_BYTES)
IsReadFault options size known fault.Usage = ⊥
IsReadFault options size known (fault.Open error) = ⊥
IsReadFault options size known (fault.Make error) = ⊥
IsReadFault options size known fault.NotAFile = ⊥
IsReadFault options size known fault.InUse = ⊥
IsReadFault options size known (fault.Lock error) = ⊥

-- Why a size is refused: no memory has as many bytes, or the options give another number of pages.
abbrev pub IsSizeFault : CardOptions → ℕ → CardFault → Type 0
IsSizeFault options size (fault.Size bytes) = (bytes ≡ size) × ¬ IsImageSize size
IsSizeFault options size (fault.OtherPages pages) =
    IsImageSize size × (pages ≡ size / PAGE_BYTES) × ¬ AreAskedPages options pages
IsSizeFault options size other = ⊥

-- Why the file of a card that options ask for is refused. It is never by the usage, and by a number of pages only if
-- the options give another one.
abbrev pub IsFileFault : CardOptions → CardFault → Type 0
IsFileFault options fault.Usage = ⊥
IsFileFault options (fault.OtherPages pages) = ¬ AreAskedPages options pages
IsFileFault options other = Unit {0}

-- Why there is no board. The factory card needs memory alone, unknown words are told by the usage, and a card in a file
-- by a reason of its own.
abbrev pub IsRefusedAs : Asked → NoBoard → Type 0
IsRefusedAs asked.Factory why = why ≡ no_board.Memory
IsRefusedAs asked.Unknown why = why ≡ no_board.Card fault.Usage
IsRefusedAs (asked.Card options) no_board.Memory = ⊥
IsRefusedAs (asked.Card options) (no_board.Card why) = IsFileFault options why
