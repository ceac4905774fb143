-- Blocks of a store: what calls that read or change them require.
use Rattle.std.specs.Prelude.{◌<◌, ◌≤◌, ◌+◌, ◌*◌, ℕ, List, length, slice_index}
use Rattle.nvm_board.specs.Facts.{pages_of}
use Rattle.nvm_board.specs.declared.board.TheConstants.{MOST_PAGES}
use Rattle.undo_journal.specs.Memory.{Memory, committed, current, IsOpen, IsReady}
use Rattle.block_chain.specs.BlockWords.{link, IsBlock}
use Rattle.block_chain.specs.Chains.{chain, chain_of, free_chain, HasFree, IsChain, Leads}
use Rattle.block_chain.specs.ChainChanges.{IsFirstFree}
use Rattle.block_chain.specs.declared.chain.Chain.{Chain}
use Rattle.block_chain.specs.declared.chain.FreeRun.{FreeRun}
use Rattle.block_chain.specs.declared.layout.TheConstants.{BLOCK_BYTES, FILE_BYTES, FIRST_BLOCK_PAGE, FREE_HEAD}

-- The store is ready, and the page is a block.
pub record HasBlock (m : Memory) (page : ℕ) : Type 0 where
  pub ready : IsReady m
  pub block : IsBlock (committed m) page

-- The store is ready, the page is a block, and its link is a page or 0.
pub record HasLink (m : Memory) (page : ℕ) : Type 0 where
  pub ready : IsReady m
  pub block : IsBlock (committed m) page
  pub small : link (committed m) page < MOST_PAGES

-- A transaction is open. As it has the words, the page is a block, and its link is a page or 0.
pub record HasOpenLink (m : Memory) (page : ℕ) : Type 0 where
  pub ready : IsOpen m
  pub block : IsBlock (current m) page
  pub small : link (current m) page < MOST_PAGES

-- The store is ready, and the header's word for the first free block is a page or 0.
pub record HasFreeHead (m : Memory) : Type 0 where
  pub ready : IsReady m
  pub small : slice_index (committed m) FREE_HEAD < MOST_PAGES

-- A transaction is open. As it has the words, the header's word for the first free block is a page or 0.
pub record HasOpenFreeHead (m : Memory) : Type 0 where
  pub ready : IsOpen m
  pub small : slice_index (current m) FREE_HEAD < MOST_PAGES

-- The store is ready, and its links lead from a page over the blocks of a chain.
pub record HasChain (m : Memory) (first : ℕ) : Type 0 where
  pub ready : IsReady m
  pub leads : Leads (committed m) first (chain (committed m) first) 0

-- A transaction is open. As it has the words, their links lead from a page over the blocks of a chain.
pub record HasOpenChain (m : Memory) (first : ℕ) : Type 0 where
  pub ready : IsOpen m
  pub leads : Leads (current m) first (chain (current m) first) 0

-- The store is ready, and its free blocks are a chain.
pub record HasFreeChain (m : Memory) : Type 0 where
  pub ready : IsReady m
  pub free : HasFree (committed m)

-- The store is ready, and has at least n free blocks.
pub record OffersBlocks (m : Memory) (n : ℕ) : Type 0 where
  pub ready : IsReady m
  pub free : HasFree (committed m)
  pub enough : n ≤ length (free_chain (committed m))

-- The store is ready, and has the pages from `first` up to `end`. None of them is before the first block.
pub record HasPages (m : Memory) (first end : ℕ) : Type 0 where
  pub ready : IsReady m
  pub blocks : FIRST_BLOCK_PAGE ≤ first
  pub order : first ≤ end
  pub inside : end ≤ pages_of (committed m)

-- There are at least n free blocks, n is at least 1, and the run has the first n of them.
pub record HasFreeRun (m : List ℕ) (n : ℕ) (run : FreeRun) : Type 0 where
  pub free : HasFree m
  pub some : 1 ≤ n
  pub enough : n ≤ length (free_chain m)
  pub first : IsFirstFree m n run

-- `count` bytes from an offset on lie in the blocks of a chain, within the greatest size of a file.
pub record LieIn (m : List ℕ) (blocks : Chain) (offset count : ℕ) : Type 0 where
  pub chain : IsChain m blocks.first (chain_of m blocks)
  pub within : offset + count ≤ BLOCK_BYTES * length (chain_of m blocks)
  pub small : offset + count ≤ FILE_BYTES
