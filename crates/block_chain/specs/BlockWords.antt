-- The words of a memory by page and index, and the bytes of a block. The most significant byte of a word is first.
use Rattle.std.specs.Prelude.{ℕ, ◌<◌, ◌≤◌, ◌/◌, ◌%◌, List, [], ◌∷◌, drop, take, slice_index}
use Rattle.std.specs.List.{flat_map}
use Rattle.nvm_board.specs.Facts.{address, pages_of}
use Rattle.nvm_board.specs.declared.board.TheConstants.{PAGE_WORDS}
use Rattle.block_chain.specs.declared.layout.TheConstants.{FIRST_BLOCK_PAGE}

-- A word, by its page and its index in the page.
abbrev pub word : List ℕ → ℕ → ℕ → ℕ
word m page place = slice_index m (address page place)

-- The words of a page.
unfoldable pub page_words : List ℕ → ℕ → List ℕ
page_words m page = take PAGE_WORDS (drop (address page 0) m)

-- The four bytes of a word, each below 256 whatever the number is.
abbrev pub word_bytes : ℕ → List ℕ
word_bytes w = w / 0x1000000 % 0x100 ∷ w / 0x10000 % 0x100 ∷ w / 0x100 % 0x100 ∷ w % 0x100 ∷ []

-- A page of the memory that can be a block.
abbrev pub IsBlock : List ℕ → ℕ → Type 0
IsBlock m page = (FIRST_BLOCK_PAGE ≤ page) × (page < pages_of m)

-- The page of the next block, or 0.
abbrev pub link : List ℕ → ℕ → ℕ
link m page = word m page 0

-- The bytes of a block: those of all its words but the first, which is the link.
abbrev pub block_bytes : List ℕ → ℕ → List ℕ
block_bytes m page = flat_map word_bytes (drop 1 (page_words m page))
