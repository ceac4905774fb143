-- The result of the check of a file tree.
use Rattle.std.specs.Prelude.{◌≡◌, ℕ, Bool, true, false, List, [], Option, None, Some}
use Rattle.file_tree.specs.declared.entry.Entry.{Entry}
use Rattle.tree_check.specs.declared.tree.Listing.{Listing}
use Rattle.file_tree.specs.declared.index.Index.{Index}
use Rattle.card_model.specs.declared.space.FreeSpace.{FreeSpace}
use Rattle.file_tree.specs.Formats.{block_count}
use Rattle.card_model.specs.Spaces.{free_space}
use Rattle.file_tree.specs.Table.{table, extents, free_entries, IsTable}
use Rattle.file_tree.specs.Trees.{tree_of, TreeStands}
use Rattle.file_tree.specs.Indexes.{IsIndex}

-- Nothing is listed yet.
pub record IsBlankListing (listing : Listing) : Type 0 where
  pub extents : listing.extents.items ≡ []

-- The index, the extents and the number of free entries of a table that satisfies its rules.
pub record IsListing (t : List Entry) (files : Index) (listing : Listing) : Type 0 where
  pub rules : IsTable t
  pub index : IsIndex t files
  pub extents : listing.extents.items ≡ extents t
  pub free : listing.free ≡ free_entries t

-- The table was listed, or it doesn't satisfy its rules.
abbrev pub TellsListing : List Entry → Index → Listing → Bool → Type 0
TellsListing t index listing true = IsListing t index listing
TellsListing t index listing false = IsTable t → ⊥

-- The free space and the index of the tree, None exactly if the words aren't a valid tree.
abbrev pub TellsTree : List ℕ → Index → Option FreeSpace → Type 0
TellsTree m index None = TreeStands m → ⊥
TellsTree m index (Some free) =
    TreeStands m × (free ≡ free_space (block_count m) (tree_of m)) × IsIndex (table m) index
