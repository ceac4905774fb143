-- The result of a creation, and its effect on the tree.
use Rattle.std.specs.Prelude.{◌≡◌, ℕ, List, [], ◌∷◌, ◌++◌, None, Some}
use Rattle.card_model.specs.declared.fcp.Fcp.{Fcp}
use Rattle.card_model.specs.declared.fcp.FileKind.{FileKind}
use Rattle.card_model.specs.declared.fcp.FileKind.TheVariants as kinds
use Rattle.file_changes.specs.declared.creating.Creation.{Creation}
use Rattle.file_changes.specs.declared.creating.Creation.TheVariants.{Created, Refused}
use Rattle.file_tree.specs.Formats.{block_count}
use Rattle.card_model.specs.Spaces.{free_space}
use Rattle.file_tree.specs.Table.{table, entry_in, path_of, IsUsed}
use Rattle.file_tree.specs.Trees.{tree_of}
use Rattle.file_tree.specs.TreeChanges.{Creates, with_freed}
use Rattle.file_tree.specs.Indexes.{AddsEntry}
use Rattle.card_model.specs.NewFiles.{new_file, short_of_new}
use Rattle.file_changes.specs.CreationRefusals.{creation_refusal}
use Rattle.file_tree.specs.Kinds.{kind_byte}
use Rattle.file_tree.specs.declared.kinds.EntryKind.TheVariants as entry_kinds

-- The number of a kind in an entry.
abbrev pub kind_number : FileKind → ℕ
kind_number (kinds.Df name) = kind_byte entry_kinds.Dedicated
kind_number (kinds.Transparent short size) = kind_byte entry_kinds.Transparent
kind_number (kinds.Linear short records) = kind_byte entry_kinds.Linear
kind_number (kinds.Cyclic short records) = kind_byte entry_kinds.Cyclic

-- There is a new file in a DF, as its file control parameters describe it.
abbrev pub CreatesNew : List ℕ → ℕ → Fcp → List ℕ → Type 0
CreatesNew m df fcp after =
    Creates m df fcp.identifier (new_file fcp (short_of_new (tree_of m) (path_of (table m) df) fcp)) after

-- The file of the entry is new. Nothing refused it, and it took the stated number of blocks and one entry.
pub record IsCreated (m : List ℕ) (df : ℕ) (fcp : Fcp) (e blocks : ℕ) (after : List ℕ) : Type 0 where
  pub none : creation_refusal (block_count m) (tree_of m) (path_of (table m) df) fcp ≡ None
  pub creates : CreatesNew m df fcp after
  pub used : IsUsed (table after) e
  pub kind : (entry_in (table after) e).kind ≡ kind_number fcp.kind
  pub parent : (entry_in (table after) e).parent ≡ df
  pub path : path_of (table after) e ≡ path_of (table m) df ++ fcp.identifier ∷ []
  pub adds : AddsEntry (table m) df fcp.identifier e (table after)
  pub space : free_space (block_count m) (tree_of m)
      ≡ with_freed (free_space (block_count after) (tree_of after)) (record { blocks = blocks; entries = 1 })

-- The result of a creation: the new file, or the refusal.
abbrev pub TellsCreation : List ℕ → ℕ → Fcp → Creation → List ℕ → Type 0
TellsCreation m df fcp (Refused status) after =
    (creation_refusal (block_count m) (tree_of m) (path_of (table m) df) fcp ≡ Some status) × (after ≡ m)
TellsCreation m df fcp (Created e blocks) after = IsCreated m df fcp e blocks after
