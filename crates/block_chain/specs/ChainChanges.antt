-- The effects of calls on chains on the words of a memory.
use Rattle.std.specs.Prelude.{◌≡◌, ◌≢◌, ◌⊎◌, ◌==◌, ◌<◌, ◌≤◌, ◌+◌, ◌-◌, ◌/◌, ℕ, zero, suc, if◌then◌else◌, List, ◌++◌}
use Rattle.std.specs.Prelude.{length, slice_index, take, drop}
use Rattle.std.specs.List.{splice}
use Rattle.nvm_board.specs.declared.board.TheConstants.{MOST_PAGES, PAGE_WORDS}
use Rattle.block_chain.specs.declared.layout.TheConstants.{BLOCK_BYTES, FREE_HEAD, HEADER_PAGE, FREE_HEAD_WORD}
use Rattle.block_chain.specs.declared.chain.Chain.{Chain}
use Rattle.block_chain.specs.declared.chain.FreeRun.{FreeRun}
use Rattle.block_chain.specs.BlockWords.{word, link, IsBlock}
use Rattle.block_chain.specs.Layout.{IsOf}
use Rattle.block_chain.specs.Counts.{IsNotIn}
use Rattle.block_chain.specs.Chains.{free_chain, bytes_of, IsChain, laid}

-- Only the links of these blocks and the header's word for the first free block may change.
pub record OnlyLinks (m : List ℕ) (ps : List ℕ) (after : List ℕ) : Type 0 where
  pub size : length after ≡ length m
  pub others : (page place : ℕ) → place < PAGE_WORDS → (place ≢ 0) ⊎ IsNotIn page ps
      → (page ≢ HEADER_PAGE) ⊎ (place ≢ FREE_HEAD_WORD) → word after page place ≡ word m page place

-- Only the content words of these blocks may change: all but their links.
pub record OnlyContent (m : List ℕ) (ps : List ℕ) (after : List ℕ) : Type 0 where
  pub size : length after ≡ length m
  pub others : (page place : ℕ) → place < PAGE_WORDS → (place ≡ 0) ⊎ IsNotIn page ps
      → word after page place ≡ word m page place

-- The first n free blocks, of which at least one is asked for, and the page of the free block after them, or 0.
pub record IsFirstFree (m : List ℕ) (n : ℕ) (run : FreeRun) : Type 0 where
  pub first : run.chain.first ≡ slice_index m FREE_HEAD
  pub last : run.chain.last ≡ slice_index (free_chain m) (n - 1)
  pub block : IsBlock m run.chain.last
  pub after : run.rest ≡ link m run.chain.last
  pub small : run.rest < MOST_PAGES

-- The first n free blocks become a chain. The other ones stay free.
pub record Takes (m : List ℕ) (n : ℕ) (c : Chain) (after : List ℕ) : Type 0 where
  pub taken : IsChain after c.first (take n (free_chain m))
  pub last : c.last ≡ slice_index (free_chain m) (n - 1)
  pub free : IsChain after (slice_index after FREE_HEAD) (drop n (free_chain m))
  pub only : OnlyLinks m (take n (free_chain m)) after

-- The blocks of these chains are free again, in front of those that were free.
pub record GivesBack (m : List ℕ) (cs : List Chain) (after : List ℕ) : Type 0 where
  pub free : IsChain after (slice_index after FREE_HEAD) (laid m cs ++ free_chain m)
  pub only : OnlyLinks m (laid m cs) after

-- The bytes with new ones written over them from an offset on.
abbrev pub with_bytes_at : List ℕ → ℕ → List ℕ → List ℕ
with_bytes_at bytes offset new = splice bytes offset (offset + length new) new

-- The bytes of these blocks are overwritten. All else is unchanged.
pub record Overwrites (m ps : List ℕ) (offset : ℕ) (bytes after : List ℕ) : Type 0 where
  pub content : bytes_of after ps ≡ with_bytes_at (bytes_of m ps) offset bytes
  pub only : OnlyContent m ps after

-- The number of words that contain a range of bytes of a chain, four bytes a word.
abbrev pub touched_words : ℕ → ℕ → ℕ
touched_words offset zero = 0
touched_words offset (suc n) = (offset + n) / 4 + 1 - offset / 4

-- The number of blocks that contain a range of bytes of a chain.
abbrev pub touched_blocks : ℕ → ℕ → ℕ
touched_blocks offset zero = 0
touched_blocks offset (suc n) = (offset + n) / BLOCK_BYTES + 1 - offset / BLOCK_BYTES

-- All words of n blocks are unchanged, and so is the header's word for the first free block.
pub record KeepsBlocks (n : ℕ) (m after : List ℕ) : Type 0 where
  pub size : length after ≡ length m
  pub words : (page place : ℕ) → IsOf n page → place < PAGE_WORDS → word after page place ≡ word m page place
  pub head : slice_index after FREE_HEAD ≡ slice_index m FREE_HEAD

-- Some of these bytes, from the first on, are appended.
pub record AppendsSome (old bytes new : List ℕ) : Type 0 where
  pub some : ℕ
  pub is : new ≡ old ++ take some bytes

-- Only the links of the pages from `first` up to `end` may change.
pub record LinksAlone (first end : ℕ) (m after : List ℕ) : Type 0 where
  pub size : length after ≡ length m
  pub others : (page place : ℕ) → place < PAGE_WORDS → (place ≢ 0) ⊎ (page < first) ⊎ (end ≤ page)
      → word after page place ≡ word m page place

-- The pages of a run before page `made` are linked: each to the next, the run's last one to `rest`. Those from `made`
-- on link as before.
pub record LinksFirst (first end rest : ℕ) (m after : List ℕ) : Type 0 where
  pub made : ℕ
  pub linked : (page : ℕ) → first ≤ page → page < made → link after page ≡ (if page + 1 == end then rest else page + 1)
  pub behind : (page : ℕ) → made ≤ page → page < end → link after page ≡ link m page

-- Each of the pages from one page up to another links to the next, and the last to this page.
abbrev pub AreLinked : ℕ → ℕ → ℕ → List ℕ → Type 0
AreLinked first end rest m = (page : ℕ) → first ≤ page → page < end
    → link m page ≡ (if page + 1 == end then rest else page + 1)
