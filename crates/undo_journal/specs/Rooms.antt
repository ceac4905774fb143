-- What calls that make sets in a transaction require.
use Rattle.std.specs.Prelude.{◌≤◌, ℕ}
use Rattle.undo_journal.specs.Memory.{Memory, room, IsOpen}

-- An open transaction has room for n more words.
pub record HasRoom (m : Memory) (n : ℕ) : Type 0 where
  pub ready : IsOpen m
  pub enough : n ≤ room m
