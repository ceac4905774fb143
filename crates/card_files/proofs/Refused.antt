-- Why the bytes of a reader are refused.
use Rattle.std.specs.Prelude.{◌≢◌, ◌%◌, ◌/◌, IfErr, IfSome, IsErrAnd, Ok, Err, Result}
use Rattle.std.proofs.Common.{◌≡◌, ◌≤◌, ◌<◌, ◌*◌, ℕ, List, [], ◌∷◌, Option, None, Some, length, take}
use Rattle.std.proofs.Common.{ap, arith, refl, subst, sym, take_all, length-take, ⊎_elim, ◌∙◌}
use Rattle.std.proofs.lemmas.Bool.{cases_lt}
use Rattle.nvm_board.specs.Facts.{AreWords, IsMemory, pages_of}
use Rattle.card_boards.specs.declared.image.NoCard.{NoCard}
use Rattle.card_boards.specs.Images.{IsRefusedRightly}
use Rattle.command_base.specs.Finding.{HasCard}
use Rattle.card_boards.specs.Images.{image_bytes}
use Rattle.card_files.specs.ImageParts.{AreAllWordsIn, AreWordsIn, IsImageSize}
use Rattle.card_files.specs.FileRefusals.{HoldsNoCard, IsFileFault, IsReadFault, IsShorter}
use Rattle.card_files.specs.declared.opening.CardFault.{CardFault}
use Rattle.card_files.specs.declared.opening.CardFault.TheVariants as fault
use Rattle.card_files.specs.declared.options.CardOptions.{CardOptions}
use Rattle.card_files.specs.declared.image_words.TheConstants.{PAGE_BYTES, WORD_BYTES}

-- four bytes for each word
pub length-image : (words : List ℕ) → length (image_bytes words) ≡ 4 * length words
length-image [] = refl
length-image (word ∷ words) = let rest = length-image words in omega (arith, rest)

-- the faults of a reader's bytes are faults of their file
pub reads_own_fault : (options : CardOptions) (size : ℕ) (known : Option (List ℕ)) (why : CardFault)
    → IsReadFault options size known why → IsFileFault options why
reads_own_fault options size known fault.Usage read = absurd read
reads_own_fault options size known (fault.Open error) read = absurd read
reads_own_fault options size known (fault.Read error) read = tt
reads_own_fault options size known (fault.Make error) read = absurd read
reads_own_fault options size known fault.NotAFile read = absurd read
reads_own_fault options size known fault.InUse read = absurd read
reads_own_fault options size known (fault.Lock error) read = absurd read
reads_own_fault options size known (fault.Size bytes) read = tt
reads_own_fault options size known (fault.OtherPages pages) read = read.2
reads_own_fault options size known fault.NoCard read = tt
reads_own_fault options size known fault.Memory read = tt

-- the fault of a file is passed on as it is
pub hands_fault : {T : Type 0} (r : Result T CardFault) (options : CardOptions) (why : CardFault)
    → IsErrAnd r (λ told. told ≡ why) → IsFileFault options why → IfErr r (IsFileFault options)
hands_fault {T} (Ok x) options why is fault = tt
hands_fault {T} (Err told) options why is fault = subst (IsFileFault options) (sym is) fault

-- words of so many bytes are a memory
pub memory_of_image : (words : List ℕ) (size : ℕ) → 4 * length words ≡ size → IsImageSize size
    → IsMemory words × (pages_of words ≡ size / PAGE_BYTES)
memory_of_image words size bytes image =
    let whole = image.whole in let least = image.least in let most = image.most in
    let pages : pages_of words ≡ size / PAGE_BYTES = omega (arith, bytes, whole) in (
      record {
        whole = omega (arith, bytes, whole);
        least = omega (arith, pages, least);
        most = omega (arith, pages, most);
      },
      pages,
    )

-- a memory has an image of so many bytes
pub image_of_memory : (words : List ℕ) → IsMemory words → length (image_bytes words) ≤ 262144
image_of_memory words memory =
    let bytes = length-image words in let whole = memory.whole in let most = memory.most in
    omega (arith, bytes, whole, most)

-- words that are no memory with as many pages are those of fewer bytes
pub is_shorter : (known : Option (List ℕ)) (size : ℕ) (words : List ℕ) → AreWordsIn known size words
    → IsImageSize size → ¬ (IsMemory words × (pages_of words ≡ size / PAGE_BYTES)) → IsShorter known size
is_shorter None size words are image none = tt
is_shorter (Some bytes) size words are image none = ⊎_elim (λ (fewer : length bytes < size). fewer)
    (λ enough.
    let taken = length-take size bytes in
    let same : length (image_bytes words) ≡ length (take size bytes) = ap length are in
    let image_length = length-image words in
    let all : 4 * length words ≡ size = omega (arith, enough, taken, same, image_length) in
    absurd (none (memory_of_image words size all image)))
    (cases_lt (length bytes) size)

-- a refusal is for a reason that is so
pub refused_rightly : {B : Type 0} (words : List ℕ) (r : Result B NoCard) (why told : NoCard)
    → IfErr r (λ e. IsRefusedRightly e words) → r ≡ Err why → why ≡ told → IsRefusedRightly told words
refused_rightly {B} words r why told rightly is same = subst (λ (e : NoCard). IsRefusedRightly e words) same
    (subst (λ (result : Result B NoCard). IfErr result (λ e. IsRefusedRightly e words)) is rightly)

-- words that are no card's
pub holds_no_card : (known : Option (List ℕ)) (size : ℕ) (words : List ℕ) → AreWords words
    → AreWordsIn known size words → ¬ HasCard words → HoldsNoCard known size
holds_no_card None size words fit are none = tt
holds_no_card (Some bytes) size words fit are none = (words, fit, are, none)

-- bytes of no whole words are no image
pub parts_are_no_image : (known : Option (List ℕ)) (limit : ℕ) → 262144 < limit
    → IfSome known (λ bytes. length (take limit bytes) % WORD_BYTES ≢ 0)
    → IfSome known (λ bytes. ¬ IsImageSize (length bytes))
parts_are_no_image None limit large parts = tt
parts_are_no_image (Some bytes) limit large parts = λ image.
    let taken = length-take limit bytes in
    let whole = image.whole in let most = image.most in
    parts (omega (arith, taken, whole, most, large))

-- all bytes of a reader that has no more than a memory's
all_bytes : (bytes : List ℕ) (limit : ℕ) → length (take limit bytes) < limit → take limit bytes ≡ bytes
all_bytes bytes limit short =
    let taken = length-take limit bytes in
    take_all limit bytes (omega (arith, taken, short))

-- the words of a memory are all that a reader has
pub all_words : (known : Option (List ℕ)) (limit : ℕ) (words : List ℕ) → 262144 < limit
    → AreWordsIn known limit words → IsMemory words → AreAllWordsIn known words
all_words None limit words large are memory = tt
all_words (Some bytes) limit words large are memory =
    let most = image_of_memory words memory in
    let same : length (image_bytes words) ≡ length (take limit bytes) = ap length are in
    are ∙ all_bytes bytes limit (omega (arith, most, same, large))

-- words that are no memory are those of no image
pub no_memory_is_no_image : (known : Option (List ℕ)) (limit : ℕ) (words : List ℕ) → 262144 < limit
    → AreWordsIn known limit words → ¬ IsMemory words → IfSome known (λ bytes. ¬ IsImageSize (length bytes))
no_memory_is_no_image None limit words large are none = tt
no_memory_is_no_image (Some bytes) limit words large are none = λ image.
    let taken = length-take limit bytes in
    let same : length (image_bytes words) ≡ length (take limit bytes) = ap length are in
    let most = image.most in let whole = image.whole in
    let image_length = length-image words in
    let all : 4 * length words ≡ length bytes = omega (arith, taken, same, most, whole, image_length, large) in
    none (memory_of_image words (length bytes) all image).0

-- the words of all bytes, which are no card's
pub all_hold_no_card : (known : Option (List ℕ)) (limit : ℕ) (words : List ℕ) → 262144 < limit → AreWords words
    → AreWordsIn known limit words → IsMemory words → ¬ HasCard words
    → IfSome known (λ bytes. (some : List ℕ) × AreWords some × (image_bytes some ≡ bytes) × ¬ HasCard some)
all_hold_no_card None limit words large fit are memory none = tt
all_hold_no_card (Some bytes) limit words large fit are memory none =
    (words, fit, all_words (Some bytes) limit words large are memory, none)
