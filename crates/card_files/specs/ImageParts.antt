-- The bytes of a memory in an image.
use Rattle.std.specs.Prelude.{◌≡◌, ◌≤◌, ◌/◌, ◌%◌, ℕ, List, take, Option, IfSome}
use Rattle.card_boards.specs.Images.{image_bytes}
use Rattle.nvm_board.specs.declared.board.TheConstants.{LEAST_PAGES, MOST_PAGES}
use Rattle.card_files.specs.declared.image_words.TheConstants.{PAGE_BYTES}

-- the words in the first bytes of a reader, at most `size` of them, if its bytes are known
abbrev pub AreWordsIn : Option (List ℕ) → ℕ → List ℕ → Type 0
AreWordsIn known size words = IfSome known (λ bytes. image_bytes words ≡ take size bytes)

-- the words in all bytes of a reader, if they are known
abbrev pub AreAllWordsIn : Option (List ℕ) → List ℕ → Type 0
AreAllWordsIn known words = IfSome known (λ bytes. image_bytes words ≡ bytes)

-- A memory's image has so many bytes: 64 for each page, and 1,024 to 4,096 pages.
pub record IsImageSize (size : ℕ) : Type 0 where
  pub whole : size % PAGE_BYTES ≡ 0
  pub least : LEAST_PAGES ≤ size / PAGE_BYTES
  pub most : size / PAGE_BYTES ≤ MOST_PAGES
