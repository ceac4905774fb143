-- What the steps of the check of a tree require. No public clause uses these definitions.
use Rattle.std.specs.Prelude.{◌≡◌, ◌+◌, ◌≤◌, ℕ, List, ◌<◌, length}
use Rattle.nvm_board.specs.Facts.{pages_of}
use Rattle.undo_journal.specs.Memory.{Memory, committed, IsReady}
use Rattle.block_chain.specs.declared.chain.Extent.{Extent}
use Rattle.block_chain.specs.declared.layout.TheConstants.{FIRST_BLOCK_PAGE}
use Rattle.file_tree.specs.Table.{table, extents, free_entries, IsTable, HaveIdentifiers}
use Rattle.file_tree.specs.declared.entry.Entry.{Entry}

-- The store is ready, its entries satisfy their rules, and these are their extents and the number of free ones.
pub record HasTable (m : Memory) (all : List Extent) (free : ℕ) : Type 0 where
  pub ready : IsReady m
  pub extents : all ≡ extents (table (committed m))
  pub entries : free ≡ free_entries (table (committed m))
  pub rules : IsTable (table (committed m))

-- The store is ready, and has pages for n blocks.
pub record HasPagesFor (m : Memory) (n : ℕ) : Type 0 where
  pub ready : IsReady m
  pub inside : FIRST_BLOCK_PAGE + n ≤ pages_of (committed m)

-- The store is ready, and has the pages before `end`, which is the page of the first block at least.
pub record HasPagesBefore (m : Memory) (end : ℕ) : Type 0 where
  pub ready : IsReady m
  pub some : FIRST_BLOCK_PAGE ≤ end
  pub inside : end ≤ pages_of (committed m)

-- One to 64 entries. Children of one DF have different identifiers.
pub record CanBeIndexed (t : List Entry) : Type 0 where
  pub some : 0 < length t
  pub size : length t ≤ 64
  pub apart : HaveIdentifiers t
