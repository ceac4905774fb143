-- Chains of blocks in a memory, as lists of pages.
use Rattle.std.specs.Prelude.{◌≡◌, ◌==◌, ◌≤◌, ◌-◌, ℕ, zero, suc, if◌then◌else◌}
use Rattle.std.specs.Prelude.{List, [], ◌∷◌, ◌++◌, length, slice_index, All}
use Rattle.std.specs.List.{flat_map}
use Rattle.block_chain.specs.declared.layout.TheConstants.{FREE_HEAD, MOST_BLOCKS}
use Rattle.block_chain.specs.declared.chain.Chain.{Chain}
use Rattle.block_chain.specs.BlockWords.{link, block_bytes, IsBlock}
use Rattle.block_chain.specs.Counts.{NoneTwice}

-- The links lead from page `from` over these blocks to page `to`.
abbrev pub Leads : List ℕ → ℕ → List ℕ → ℕ → Type 0
Leads m from [] to = from ≡ to
Leads m from (p ∷ ps) to = (from ≡ p) × IsBlock m p × Leads m (link m p) ps to

-- The pages along the links from a page on up to the link 0, at most n of them.
unfoldable pub pages_from : List ℕ → ℕ → ℕ → List ℕ
pages_from m zero page = []
pages_from m (suc n) page = if page == 0 then [] else page ∷ pages_from m n (link m page)

-- The chain from a page on, with at most as many pages as a memory can have blocks.
abbrev pub chain : List ℕ → ℕ → List ℕ
chain m page = pages_from m MOST_BLOCKS page

-- The chain of the free blocks, which begins in the header.
abbrev pub free_chain : List ℕ → List ℕ
free_chain m = chain m (slice_index m FREE_HEAD)

-- The bytes of these blocks.
unfoldable pub bytes_of : List ℕ → List ℕ → List ℕ
bytes_of m ps = flat_map (block_bytes m) ps

-- The pages are the blocks of the chain from a page on: no block occurs twice, and the last links to 0. The size
-- follows from the other two fields. It is stated so that proofs needn't count.
pub record IsChain (m : List ℕ) (from : ℕ) (ps : List ℕ) : Type 0 where
  pub leads : Leads m from ps 0
  pub once : NoneTwice ps
  pub size : length ps ≤ MOST_BLOCKS

-- The free blocks are a chain.
abbrev pub HasFree : List ℕ → Type 0
HasFree m = IsChain m (slice_index m FREE_HEAD) (free_chain m)

-- The blocks of a chain that is named by its first and its last block.
abbrev pub chain_of : List ℕ → Chain → List ℕ
chain_of m c = chain m c.first

-- The bytes of that chain.
abbrev pub chain_bytes : List ℕ → Chain → List ℕ
chain_bytes m c = bytes_of m (chain_of m c)

-- The chain has at least one block, and its last block is the one named.
pub record IsWhole (m : List ℕ) (c : Chain) : Type 0 where
  pub leads : Leads m c.first (chain_of m c) 0
  pub some : 1 ≤ length (chain_of m c)
  pub last : c.last ≡ slice_index (chain_of m c) (length (chain_of m c) - 1)

-- The blocks of the chains, one chain after the other.
unfoldable pub laid : List ℕ → List Chain → List ℕ
laid m cs = flat_map (chain_of m) cs

-- Chains that can be given back: each is whole, and no block occurs twice in them and in the free chain.
pub record AreApart (m : List ℕ) (cs : List Chain) : Type 0 where
  pub each : All (IsWhole m) cs
  pub once : NoneTwice (laid m cs ++ free_chain m)
  pub size : length (laid m cs ++ free_chain m) ≤ MOST_BLOCKS
