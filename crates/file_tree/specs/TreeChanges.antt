-- The effects of changed words on the file tree.
use Rattle.std.specs.Prelude.{◌≡◌, ◌≢◌, ◌⊎◌, ◌<◌, ◌≤◌, ◌+◌, ℕ, List, [], ◌∷◌, ◌++◌, length, false, not, nat_eq}
use Rattle.std.specs.List.{starts_with}
use Rattle.std.specs.FinMap.{insert, retain_keys}
use Rattle.nvm_board.specs.declared.board.TheConstants.{PAGE_WORDS}
use Rattle.block_chain.specs.declared.layout.TheConstants.{HEADER_PAGE, FREE_HEAD_WORD}
use Rattle.block_chain.specs.BlockWords.{word}
use Rattle.block_chain.specs.Chains.{free_chain}
use Rattle.block_chain.specs.ChainChanges.{KeepsBlocks}
use Rattle.block_chain.specs.Layout.{IsOf}
use Rattle.file_tree.specs.declared.layout.TheConstants.{FIRST_ENTRY_PAGE}
use Rattle.card_model.specs.declared.limits.TheConstants.{ENTRIES}
use Rattle.card_model.specs.declared.space.FreeSpace.{FreeSpace}
use Rattle.card_model.specs.FileTrees.{File, file_at, file_bytes, with_bytes, overwrite}
use Rattle.file_tree.specs.Formats.{block_count, SameFormat}
use Rattle.file_tree.specs.Table.{table, entry_in, path_of, IsUsed}
use Rattle.file_tree.specs.Trees.{tree_of, TreeStands}

-- The page of a file entry.
abbrev pub IsEntryPage : ℕ → Type 0
IsEntryPage page = (FIRST_ENTRY_PAGE ≤ page) × (page < FIRST_ENTRY_PAGE + ENTRIES)

-- Every word outside file entries and the card's blocks is unchanged, but for the header's word for the first free
-- block. So are those behind the last page of the card.
pub record KeepsRest (m after : List ℕ) : Type 0 where
  pub size : length after ≡ length m
  pub words : (page place : ℕ) → place < PAGE_WORDS → (IsEntryPage page → ⊥) → (IsOf (block_count m) page → ⊥)
      → (page ≢ HEADER_PAGE) ⊎ (place ≢ FREE_HEAD_WORD) → word after page place ≡ word m page place

-- The words that the tree depends on are unchanged: those of file entries and blocks, and the header's words for the
-- first free block and for the format.
pub record KeepsTree (m after : List ℕ) : Type 0 where
  pub entries : (page place : ℕ) → 1 ≤ page → page < 65 → place < PAGE_WORDS
      → word after page place ≡ word m page place
  pub blocks : KeepsBlocks (block_count m) m after
  pub format : SameFormat m after

-- The file with bytes written over its own from an offset on.
abbrev pub with_overwritten : File → ℕ → List ℕ → File
with_overwritten file offset bytes =
    record file { kind = with_bytes file.kind (overwrite (file_bytes file.kind) offset bytes) }

-- The bytes of an entry's file are overwritten. No other file changes.
pub record Rewrites (m : List ℕ) (e offset : ℕ) (bytes after : List ℕ) : Type 0 where
  pub tree : tree_of after ≡ insert (tree_of m) (path_of (table m) e)
      (with_overwritten (file_at (tree_of m) (path_of (table m) e)) offset bytes)
  pub stands : TreeStands after
  pub free : free_chain after ≡ free_chain m
  pub rest : KeepsRest m after
  pub table : table after ≡ table m

-- Neither the tree nor the free space changes.
pub record SameTree (m after : List ℕ) : Type 0 where
  pub tree : tree_of after ≡ tree_of m
  pub stands : TreeStands after
  pub free : free_chain after ≡ free_chain m
  pub rest : KeepsRest m after
  pub table : table after ≡ table m

-- A new file is in the DF of an entry under this identifier. No other file changes.
pub record Creates (m : List ℕ) (df identifier : ℕ) (file : File) (after : List ℕ) : Type 0 where
  pub tree : tree_of after ≡ insert (tree_of m) (path_of (table m) df ++ identifier ∷ []) file
  pub stands : TreeStands after
  pub rest : KeepsRest m after

-- The file of an entry is deleted with all files below it. No other file changes, and neither does its entry.
pub record Deletes (m : List ℕ) (e : ℕ) (after : List ℕ) : Type 0 where
  pub tree : tree_of after ≡ retain_keys (tree_of m) (λ path. not (starts_with nat_eq path (path_of (table m) e)))
  pub stands : TreeStands after
  pub rest : KeepsRest m after
  pub kept : (f : ℕ) → IsUsed (table m) f → starts_with nat_eq (path_of (table m) f) (path_of (table m) e) ≡ false
      → (entry_in (table after) f ≡ entry_in (table m) f) × (path_of (table after) f ≡ path_of (table m) f)

-- The free space with some more freed.
abbrev pub with_freed : FreeSpace → FreeSpace → FreeSpace
with_freed old freed = record { blocks = old.blocks + freed.blocks; entries = old.entries + freed.entries }
