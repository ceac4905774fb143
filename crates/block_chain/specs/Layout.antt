-- The layout of the blocks of a memory: the free chain and the extents contain each block once.
use Rattle.std.specs.Prelude.{◌≡◌, ◌+◌, ◌-◌, ℕ, ◌≤◌, ◌<◌, List, ◌++◌, length, slice_index, map, All, Option, Some, None}
use Rattle.std.specs.List.{flat_map}
use Rattle.nvm_board.specs.Facts.{pages_of}
use Rattle.block_chain.specs.declared.layout.TheConstants.{FREE_HEAD, FIRST_BLOCK_PAGE}
use Rattle.block_chain.specs.declared.chain.Chain.{Chain}
use Rattle.block_chain.specs.declared.chain.Extent.{Extent}
use Rattle.block_chain.specs.Counts.{count, NoneTwice, IsNotIn}
use Rattle.block_chain.specs.Chains.{Leads, chain, free_chain, bytes_of}

-- The blocks of an extent.
abbrev pub blocks_of : List ℕ → Extent → List ℕ
blocks_of m e = chain m e.chain.first

-- The blocks of the extents, one extent after the other.
unfoldable pub laid_out : List ℕ → List Extent → List ℕ
laid_out m es = flat_map (blocks_of m) es

-- An extent of the memory. The chain from its first block has the stated number of blocks. Its last block is the one
-- named, and links to 0.
pub record IsExtent (m : List ℕ) (e : Extent) : Type 0 where
  pub leads : Leads m e.chain.first (blocks_of m e) 0
  pub blocks : length (blocks_of m e) ≡ e.blocks
  pub last : e.chain.last ≡ slice_index (blocks_of m e) (e.blocks - 1)

-- The page of one of n blocks. The first block is page 128.
abbrev pub IsOf : ℕ → ℕ → Type 0
IsOf n page = (FIRST_BLOCK_PAGE ≤ page) × (page < FIRST_BLOCK_PAGE + n)

-- A memory has n blocks, all within its pages. The free chain ends with 0. It and the extents together contain only
-- blocks, n of them, and none twice.
pub record AreLaid (n : ℕ) (m : List ℕ) (es : List Extent) : Type 0 where
  pub inside : FIRST_BLOCK_PAGE + n ≤ pages_of m
  pub free : Leads m (slice_index m FREE_HEAD) (free_chain m) 0
  pub each : All (IsExtent m) es
  pub below : (q : ℕ) → FIRST_BLOCK_PAGE + n ≤ q → IsNotIn q (free_chain m ++ laid_out m es)
  pub once : NoneTwice (free_chain m ++ laid_out m es)
  pub whole : length (free_chain m ++ laid_out m es) ≡ n

-- The result of a check of the layout: the number of free blocks, or None exactly if the blocks aren't laid out so.
abbrev pub TellsFreeBlocks : ℕ → List ℕ → List Extent → Option ℕ → Type 0
TellsFreeBlocks n m es None = AreLaid n m es → ⊥
TellsFreeBlocks n m es (Some free) = AreLaid n m es × (free ≡ length (free_chain m))

-- The chains of extents.
abbrev pub chains_of : List Extent → List Chain
chains_of es = map (λ e. e.chain) es

-- The extents are split in two parts: each block occurs in them as often as in both parts together, in any order.
pub record AreSplit (m : List ℕ) (es given kept : List Extent) : Type 0 where
  pub blocks : (q : ℕ) → count q (laid_out m es) ≡ count q (laid_out m given) + count q (laid_out m kept)
  pub size : length (laid_out m es) ≡ length (laid_out m given) + length (laid_out m kept)

-- An extent has the same blocks with the same bytes.
abbrev pub SameBytes : List ℕ → List ℕ → Extent → Type 0
SameBytes m after e = (blocks_of after e ≡ blocks_of m e)
    × (bytes_of after (blocks_of m e) ≡ bytes_of m (blocks_of m e))
