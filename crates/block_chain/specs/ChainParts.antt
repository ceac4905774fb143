-- Steps inside the calls on chains. No public clause uses these definitions.
use Rattle.std.specs.Prelude.{◌≡◌, ◌<◌, ◌≤◌, ◌+◌, ◌-◌, ◌&&◌, ℕ, List, length, slice_index, nat_le, nat_lt}
use Rattle.std.specs.Prelude.{if◌then◌else◌, ◌*◌, ◌%◌, [], ◌∷◌, slice_set}
use Rattle.nvm_board.specs.Facts.{address}
use Rattle.nvm_board.specs.declared.board.TheConstants.{MOST_PAGES}
use Rattle.block_chain.specs.Chains.{Leads, chain}
use Rattle.block_chain.specs.Counts.{count, IsNotIn}
use Rattle.block_chain.specs.BlockWords.{word, word_bytes}
use Rattle.block_chain.specs.declared.chain.Chain.{Chain}
use Rattle.block_chain.specs.declared.layout.TheConstants.{FREE_HEAD, FIRST_BLOCK_PAGE, BLOCK_WORDS}

-- The byte at index `at` after bytes are written from an offset on.
abbrev pub byte_over : ℕ → List ℕ → ℕ → ℕ → ℕ
byte_over offset bytes at byte =
    if nat_le offset at && nat_lt at (offset + length bytes) then slice_index bytes (at - offset) else byte

-- One content word of a block takes its bytes from those that are written from an offset on.
pub record PutsWord (m : List ℕ) (page k offset : ℕ) (bytes after : List ℕ) : Type 0 where
  pub put : ℕ
  pub done : after ≡ slice_set m (address page (1 + k % BLOCK_WORDS)) put
  pub over : (place : ℕ) → place < 4
      → slice_index (word_bytes put) place ≡ byte_over offset bytes (4 * k + place)
      (slice_index (word_bytes (word m page (1 + k % BLOCK_WORDS))) place)

-- The first block of the chains, or of the free chain if there are none.
abbrev pub first_block : List ℕ → List Chain → ℕ
first_block m [] = slice_index m FREE_HEAD
first_block m (c ∷ cs) = c.first

-- The words after joining. The last block of each chain links to the first of the next one, that of the last chain to
-- the first free block.
unfoldable pub joined_chains : List ℕ → List Chain → List ℕ
joined_chains m [] = m
joined_chains m (c ∷ cs) = slice_set (joined_chains m cs) (address c.last 0) (first_block m cs)

-- The word whose four bytes are this byte.
abbrev pub filled_word : ℕ → ℕ
filled_word byte = byte * 0x1000000 + byte * 0x10000 + byte * 0x100 + byte

-- A page that can be a block in some memory.
abbrev pub IsBlockPlace : ℕ → Type 0
IsBlockPlace page = (FIRST_BLOCK_PAGE ≤ page) × (page < MOST_PAGES)

-- The mark of a block.
abbrev pub times_marked : List ℕ → ℕ → ℕ
times_marked seen page = slice_index seen (page - FIRST_BLOCK_PAGE)

-- A mark for each block before the page `end`, 0 or 1.
pub record AreBlockMarks (end : ℕ) (seen : List ℕ) : Type 0 where
  pub room : end ≤ FIRST_BLOCK_PAGE + length seen
  pub each : (page : ℕ) → IsBlockPlace page → times_marked seen page ≤ 1

-- The chain from a page on ends. It consists of blocks before the page `end`, none of them marked and none twice.
pub record IsUnmarkedChain (end : ℕ) (m : List ℕ) (seen : List ℕ) (from : ℕ) : Type 0 where
  pub leads : Leads m from (chain m from) 0
  pub below : (q : ℕ) → end ≤ q → IsNotIn q (chain m from)
  pub once : (page : ℕ) → IsBlockPlace page → times_marked seen page + count page (chain m from) ≤ 1

-- The walk marked these blocks.
abbrev pub Marks : List ℕ → List ℕ → List ℕ → Type 0
Marks old ps new = (page : ℕ) → IsBlockPlace page → times_marked new page ≡ times_marked old page + count page ps
