-- What calls that change a tree of files require.
use Rattle.std.specs.Prelude.{◌≡◌, ◌≢◌, ◌<◌, ◌≤◌, ℕ, List, length}
use Rattle.undo_journal.specs.Memory.{Memory, committed, IsReady}
use Rattle.block_chain.specs.declared.chain.FreeRun.{FreeRun}
use Rattle.block_chain.specs.ChainChanges.{IsFirstFree}
use Rattle.block_chain.specs.Chains.{HasFree, free_chain}
use Rattle.card_model.specs.declared.space.FreeSpace.{FreeSpace}
use Rattle.card_model.specs.Spaces.{free_space}
use Rattle.file_tree.specs.declared.entry.Entry.{Entry}
use Rattle.file_tree.specs.declared.index.Index.{Index}
use Rattle.file_tree.specs.declared.kinds.EntryKind.TheVariants.{Free, Dedicated}
use Rattle.file_tree.specs.Kinds.{kind_byte}
use Rattle.file_tree.specs.Formats.{block_count}
use Rattle.file_tree.specs.Indexes.{IsIndex}
use Rattle.file_tree.specs.Table.{table, entry_in}
use Rattle.file_tree.specs.Trees.{tree_of, TreeStands}
use Rattle.file_lookup.specs.StoredFiles.{HasFile}
use Rattle.card_model.specs.FileControl.{IsCreatable}
use Rattle.card_model.specs.declared.fcp.Fcp.{Fcp}

-- The number of an entry, and the entry of a file for it.
pub record IsNewEntry (e : ℕ) (entry : Entry) : Type 0 where
  pub within : e < 64
  pub used : entry.kind ≢ kind_byte Free

-- There are n free blocks, and the run has the first n of them.
pub record HasFreeBlocks (m : List ℕ) (n : ℕ) (run : FreeRun) : Type 0 where
  pub free : HasFree m
  pub enough : n ≤ length (free_chain m)
  pub first : 1 ≤ n → IsFirstFree m n run

-- The store is ready, its words are a valid tree, and the entry has a DF.
pub record HasDf (m : Memory) (e : ℕ) : Type 0 where
  pub ready : IsReady m
  pub tree : TreeStands (committed m)
  pub df : (entry_in (table (committed m)) e).kind ≡ kind_byte Dedicated

-- The free space and the index of a tree.
pub record IsSurveyed (m : Memory) (space : FreeSpace) (files : Index) : Type 0 where
  pub free : space ≡ free_space (block_count (committed m)) (tree_of (committed m))
  pub index : IsIndex (table (committed m)) files

-- A file below the MF.
pub record HasLowerFile (m : Memory) (e : ℕ) : Type 0 where
  pub file : HasFile m e
  pub below : 0 < e

-- A file can be created in a DF: these are the free space and the index of its tree, and its parameters are valid.
pub record CanCreate (m : Memory) (e : ℕ) (free : FreeSpace) (files : Index) (new : Fcp) : Type 0 where
  pub df : HasFile m e
  pub space : IsSurveyed m free files
  pub fcp : IsCreatable new
