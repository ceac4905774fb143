-- The file tree in the words of a memory.
use Rattle.std.specs.Prelude.{◌≡◌, ◌==◌, ℕ, if◌then◌else◌, List, [], Option, None, Some}
use Rattle.std.specs.List.{range_with_len, filter_map}
use Rattle.std.specs.Option.{option_map_or}
use Rattle.std.specs.FinMap.{from_entries}
use Rattle.block_chain.specs.Chains.{bytes_of}
use Rattle.block_chain.specs.Layout.{AreLaid, blocks_of}
use Rattle.file_tree.specs.declared.entry.Entry.{Entry}
use Rattle.card_model.specs.declared.space.FreeSpace.{FreeSpace}
use Rattle.card_model.specs.FileTrees.{Path, File, Tree}
use Rattle.file_tree.specs.Formats.{block_count}
use Rattle.card_model.specs.Spaces.{free_space}
use Rattle.file_tree.specs.Entries.{file_of, extent_of}
use Rattle.file_tree.specs.Table.{table, entry_in, path_of, extents, IsTable}
use Rattle.file_tree.specs.Kinds.{kind_byte}
use Rattle.file_tree.specs.declared.kinds.EntryKind.TheVariants.{Free}

-- The bytes in the blocks of an entry's file, none for a DF.
unfoldable pub content : List ℕ → Entry → List ℕ
content m entry = option_map_or (λ extent. bytes_of m (blocks_of m extent)) (extent_of entry) []

-- The file that an entry of a memory describes.
abbrev pub file_in : List ℕ → ℕ → File
file_in m e = file_of (entry_in (table m) e) (content m (entry_in (table m) e))

-- The path and the file of an entry, if it has one.
unfoldable pub node : List ℕ → ℕ → Option (Path × File)
node m e = if (entry_in (table m) e).kind == kind_byte Free then None else Some (path_of (table m) e, file_in m e)

-- The tree of all files.
unfoldable pub tree_of : List ℕ → Tree
tree_of m = from_entries (filter_map (node m) (range_with_len 0 64))

-- The words are a valid tree. The entries satisfy their rules, and the free chain and the files' chains contain each
-- block once. Each file has as many blocks as its size needs.
pub record TreeStands (m : List ℕ) : Type 0 where
  pub entries : IsTable (table m)
  pub blocks : AreLaid (block_count m) m (extents (table m))

-- The result of a check of the words: the free space of the tree, None exactly if the words aren't a valid tree.
abbrev pub TellsSpace : List ℕ → Option FreeSpace → Type 0
TellsSpace m None = TreeStands m → ⊥
TellsSpace m (Some free) = TreeStands m × (free ≡ free_space (block_count m) (tree_of m))
