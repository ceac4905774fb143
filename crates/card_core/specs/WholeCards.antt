-- The parts of a working card that its commands borrow. No clause of the card's calls names this.
use Rattle.std.specs.Prelude.{◌≡◌}
use Rattle.file_tree.specs.Indexes.{IsIndex}
use Rattle.card_core.specs.declared.card_parts.CardParts.{CardParts}
use Rattle.command_base.specs.Working.{space_in, table_in, IsKept}

-- The invariant of the borrowed parts: a valid memory and session, the counts of its free space, and the index of its
-- files.
pub record IsWholeCard {B : Type 0} (parts : CardParts B) : Type 0 where
  pub kept : IsKept parts.store parts.current
  pub space : parts.free ≡ space_in parts.store
  pub index : IsIndex (table_in parts.store) parts.index
