-- Steps inside the walk over all chains. No public clause uses these definitions.
use Rattle.std.specs.Prelude.{◌≡◌, ◌≢◌, ◌≤◌, ◌-◌, ◌/◌, ◌%◌, ℕ, List, length, slice_index}
use Rattle.std.specs.Int.{bit_at}
use Rattle.block_chain.specs.Chains.{Leads, chain}
use Rattle.block_chain.specs.Counts.{IsNotIn}
use Rattle.tree_check.specs.declared.walk.Walked.{Walked}

-- The chain from a page on ends. It consists of at most `most` blocks, all before the page `end`.
pub record EndsWithin (end most : ℕ) (m : List ℕ) (from : ℕ) : Type 0 where
  pub leads : Leads m from (chain m from) 0
  pub below : (q : ℕ) → end ≤ q → IsNotIn q (chain m from)
  pub few : length (chain m from) ≤ most

-- The chain from a page on ends so, with this many blocks and this last one.
pub record IsWalked (end most : ℕ) (m : List ℕ) (from : ℕ) (w : Walked) : Type 0 where
  pub ends : EndsWithin end most m from
  pub blocks : w.blocks ≡ length (chain m from)
  pub last : w.last ≡ slice_index (chain m from) (w.blocks - 1)

-- The mark of a page, 0 or 1: the bit of its number, lowest bit first.
abbrev pub mark_of : List ℕ → ℕ → ℕ
mark_of bytes page = bit_at (slice_index bytes (page / 8)) (page % 8)

-- The last block of a chain is marked, if it has blocks, and all other marks are as before.
pub record MarksEnd (w : Walked) (old new : List ℕ) : Type 0 where
  pub last : w.blocks ≢ 0 → mark_of new w.last ≡ 1
  pub others : (page : ℕ) → (page ≡ w.last → w.blocks ≡ 0) → mark_of new page ≡ mark_of old page
