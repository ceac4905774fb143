-- Why the bytes of a reader are refused as those of a flash.
use Rattle.std.specs.Prelude.{◌≢◌, Err, IfErr, Result, is_some}
use Rattle.std.proofs.Common.{◌≡◌, ◌≤◌, ◌<◌, ◌*◌, ℕ, List, Option, None, Some, length, take}
use Rattle.std.proofs.Common.{ap, arith, refl, subst, sym, true, false, true≢false, length-take, ⊎_elim}
use Rattle.std.proofs.lemmas.Bool.{cases_lt}
use Rattle.nvm_board.specs.Facts.{AreWords}
use Rattle.flash_device.specs.FlashBlocks.{flash_size}
use Rattle.card_boards.specs.FlashImages.{FlashKind, IsFlashRefusal}
use Rattle.card_boards.specs.Images.{image_bytes}
use Rattle.card_boards.specs.declared.flash_image.NoFlashCard.{NoFlashCard}
use Rattle.card_files.specs.CommandLines.{pages_number}
use Rattle.card_files.specs.FileRefusals.{IsFileFault, IsShorter}
use Rattle.card_files.specs.FlashFiles.{HoldsWords, IsFlashFaultOf, IsFlashReadFault, flash_image_size}
use Rattle.card_files.specs.ImageParts.{AreWordsIn}
use Rattle.card_files.specs.declared.opening.CardFault.{CardFault}
use Rattle.card_files.specs.declared.opening.CardFault.TheVariants as fault
use Rattle.card_files.specs.declared.flash_file.FlashCardFault.{FlashCardFault}
use Rattle.card_files.specs.declared.flash_file.FlashCardFault.TheVariants as flash_fault
use Rattle.card_files.specs.declared.options.CardOptions.{CardOptions}
use Rattle.card_files.specs.declared.page_count.PageCount.{PageCount}
use Rattle.card_files.proofs.Refused.{length-image}

-- words that are not as many as a flash has are those of fewer bytes
pub flash_is_shorter : (kind : FlashKind) (known : Option (List ℕ)) (size : ℕ) (words : List ℕ)
    → AreWordsIn known size words → size ≡ flash_image_size kind → length words ≢ flash_size kind.slots
    → IsShorter known size
flash_is_shorter kind None size words are is other = tt
flash_is_shorter kind (Some bytes) size words are is other = ⊎_elim (λ (fewer : length bytes < size). fewer)
    (λ enough.
    let taken = length-take size bytes in
    let same : length (image_bytes words) ≡ length (take size bytes) = ap length are in
    let image_length = length-image words in
    let all : length words ≡ flash_size kind.slots = omega (arith, enough, taken, same, image_length, is) in
    absurd (other all))
    (cases_lt (length bytes) size)

-- words that meet this
pub holds_words : (meet : List ℕ → Type 0) (known : Option (List ℕ)) (size : ℕ) (words : List ℕ) → AreWords words
    → AreWordsIn known size words → meet words → HoldsWords meet known size
holds_words meet None size words fit are so = tt
holds_words meet (Some bytes) size words fit are so = (words, fit, are, so)

-- a refusal is for a reason that is so
pub flash_refused_rightly : {B : Type 0} (kind : FlashKind) (words : List ℕ) (r : Result B NoFlashCard)
    (why told : NoFlashCard) → IfErr r (λ e. IsFlashRefusal kind e words) → r ≡ Err why → why ≡ told
    → IsFlashRefusal kind told words
flash_refused_rightly {B} kind words r why told rightly is same =
    subst (λ (e : NoFlashCard). IsFlashRefusal kind e words) same
    (subst (λ (result : Result B NoFlashCard). IfErr result (λ e. IsFlashRefusal kind e words)) is rightly)

-- no number of pages is given
pub no_number : (pages : Option PageCount) → is_some pages ≡ false → pages_number pages ≡ None
no_number None is = refl
no_number (Some count) is = absurd (true≢false is)

-- a number of pages is given
pub some_number : (pages : Option PageCount) → is_some pages ≡ true → pages_number pages ≢ None
some_number None is = absurd (true≢false (sym is))
some_number (Some count) is = λ none. true≢false (ap is_some none)

-- a failing reader and too little memory are faults of a file
is_file_fault : (kind : FlashKind) (options : CardOptions) (size : ℕ) (known : Option (List ℕ)) (why : CardFault)
    → IsFlashReadFault kind size known (flash_fault.File why) → IsFileFault options why
is_file_fault kind options size known fault.Usage read = absurd read
is_file_fault kind options size known (fault.Open error) read = tt
is_file_fault kind options size known (fault.Read error) read = tt
is_file_fault kind options size known (fault.Make error) read = tt
is_file_fault kind options size known fault.NotAFile read = tt
is_file_fault kind options size known fault.InUse read = tt
is_file_fault kind options size known (fault.Lock error) read = tt
is_file_fault kind options size known (fault.Size bytes) read = tt
is_file_fault kind options size known (fault.OtherPages pages) read = absurd read
is_file_fault kind options size known fault.NoCard read = tt
is_file_fault kind options size known fault.Memory read = tt

-- a reader's bytes are not refused by the usage
pub is_own_fault : (kind : FlashKind) (options : CardOptions) (size : ℕ) (known : Option (List ℕ))
    (why : FlashCardFault) → pages_number options.pages ≡ None → IsFlashReadFault kind size known why
    → IsFlashFaultOf kind options why
is_own_fault kind options size known (flash_fault.File why) none read =
    (none, is_file_fault kind options size known why read)
is_own_fault kind options size known flash_fault.Usage none read = absurd read
is_own_fault kind options size known (flash_fault.Size bytes wanted) none read = (none, read.1)
is_own_fault kind options size known flash_fault.Log none read = none
is_own_fault kind options size known flash_fault.OutOfStep none read = (none, read.0)
is_own_fault kind options size known flash_fault.Card none read = none
