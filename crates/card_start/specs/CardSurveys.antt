-- The result of the check of a card image at power-on, after its migration.
use Rattle.std.specs.Prelude.{◌≡◌, ℕ, List, Option, None, Some}
use Rattle.file_tree.specs.Table.{table}
use Rattle.file_tree.specs.Indexes.{IsIndex}
use Rattle.file_tree.specs.declared.index.Index.{Index}
use Rattle.card_model.specs.declared.space.FreeSpace.{FreeSpace}
use Rattle.card_model.specs.Cards.{card_space}
use Rattle.command_base.specs.Standing.{card_of, IsAnyCard, IsCard}

-- The result for a memory that was migrated to format 2 if needed: the free space of the card and the index of its
-- files; or None if it was no valid card image.
abbrev pub TellsSurvey : List ℕ → List ℕ → Index → Option FreeSpace → Type 0
TellsSurvey m after index None = ¬ IsAnyCard m
TellsSurvey m after index (Some free) =
    IsAnyCard m × IsCard after × (free ≡ card_space (card_of after)) × IsIndex (table after) index
