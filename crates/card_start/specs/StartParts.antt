-- The checks of a memory at power-on, as the code makes them. No public clause names these definitions.
use Rattle.std.specs.Prelude.{◌≡◌, ◌≤◌, ℕ}
use Rattle.std.specs.Prelude.{List, Option, Some}
use Rattle.std.specs.Prelude.{None}
use Rattle.file_tree.specs.Formats.{block_count}
use Rattle.card_model.specs.Spaces.{free_space}
use Rattle.file_tree.specs.Trees.{tree_of}
use Rattle.file_tree.specs.Table.{table}
use Rattle.file_tree.specs.declared.index.Index.{Index}
use Rattle.file_tree.specs.Indexes.{IsIndex}
use Rattle.file_tree.specs.declared.layout.TheConstants.{CARD_TERMINATED, MARK, OLD_END_PAGE, OLD_MARK}
use Rattle.pin_store.specs.Pages.{ArePinPages, AreMarks}
use Rattle.command_base.specs.Standing.{IsAnyCard, IsCard, IsHeader, IsOldCard, IsOldHeader}
use Rattle.card_start.specs.declared.check.Checked.{Checked}
use Rattle.card_start.specs.declared.check.HeaderWords.{HeaderWords}
use Rattle.card_start.specs.declared.memory_format.MemoryFormat.{MemoryFormat}
use Rattle.card_start.specs.declared.memory_format.MemoryFormat.TheVariants.{One, Two}

-- the words have a valid header of this format, or are a valid card image of it
abbrev pub IsHeaderIn : MemoryFormat → List ℕ → Type 0
IsHeaderIn One m = IsOldHeader m
IsHeaderIn Two m = IsHeader m

abbrev pub IsCardIn : MemoryFormat → List ℕ → Type 0
IsCardIn One m = IsOldCard m
IsCardIn Two m = IsCard m

-- the words of a header tell this format, or none
abbrev pub TellsFormat : HeaderWords → Option MemoryFormat → Type 0
TellsFormat header None =
    ((header.mark ≡ MARK) → (OLD_END_PAGE ≤ header.end) → (header.state ≤ CARD_TERMINATED) → ⊥)
    × ((header.mark ≡ OLD_MARK) → (header.state ≤ CARD_TERMINATED) → ⊥)
TellsFormat header (Some One) = (header.mark ≡ OLD_MARK) × (header.state ≤ CARD_TERMINATED)
TellsFormat header (Some Two) =
    (header.mark ≡ MARK) × (OLD_END_PAGE ≤ header.end) × (header.state ≤ CARD_TERMINATED)

-- the PINs are valid for this format: in format 2 each has a mark
abbrev pub HoldsPins : MemoryFormat → List ℕ → Type 0
HoldsPins One m = ArePinPages m
HoldsPins Two m = ArePinPages m × AreMarks m

-- the result of the header check: its format, or None if and only if it is invalid
abbrev pub TellsHeader : List ℕ → Option MemoryFormat → Type 0
TellsHeader m None = ¬ IsHeader m × ¬ IsOldHeader m
TellsHeader m (Some format) = IsHeaderIn format m

-- The result of the memory check: its format, its free space without migration, and the index of its files; or None if
-- and only if it is no valid card image.
abbrev pub TellsCard : List ℕ → Index → Option Checked → Type 0
TellsCard m index None = ¬ IsAnyCard m
TellsCard m index (Some checked) = IsCardIn checked.format m × (checked.free ≡ free_space (block_count m) (tree_of m))
    × IsIndex (table m) index
