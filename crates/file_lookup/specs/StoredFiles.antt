-- A file in a store: the precondition of calls that read or change it.
use Rattle.std.specs.Prelude.{◌≡◌, ℕ, ◌<◌}
use Rattle.undo_journal.specs.Memory.{Memory, IsReady, committed}
use Rattle.file_tree.specs.declared.entry.Entry.{Entry}
use Rattle.file_tree.specs.declared.index.Index.{Index}
use Rattle.file_tree.specs.Indexes.{IsIndex}
use Rattle.file_tree.specs.Table.{table, entry_in, IsUsed}
use Rattle.file_tree.specs.Trees.{TreeStands}
use Rattle.file_tree.specs.TableEnd.{IsTableEnd}

-- The store is ready, and the table has an entry of this number, used or free.
pub record HasEntry (m : Memory) (e : ℕ) : Type 0 where
  pub ready : IsReady m
  pub within : e < 64

-- The store is ready, and all entries of its table from a number on are free.
pub record HasTableEnd (m : Memory) (e : ℕ) : Type 0 where
  pub ready : IsReady m
  pub end : IsTableEnd (table (committed m)) e

-- The store is ready, its words are a valid tree, and the entry has a file.
pub record HasFile (m : Memory) (e : ℕ) : Type 0 where
  pub ready : IsReady m
  pub tree : TreeStands (committed m)
  pub used : IsUsed (table (committed m)) e

-- The store is ready, and its words are a valid tree.
pub record HasTree (m : Memory) : Type 0 where
  pub ready : IsReady m
  pub tree : TreeStands (committed m)

-- A file in a store, and the index of all files.
pub record HasIndexed (m : Memory) (files : Index) (e : ℕ) : Type 0 where
  pub file : HasFile m e
  pub index : IsIndex (table (committed m)) files

-- A file in a store, with its entry as stored.
pub record HasStoredEntry (m : Memory) (e : ℕ) (x : Entry) : Type 0 where
  pub file : HasFile m e
  pub entry : x ≡ entry_in (table (committed m)) e
