-- The commit of a new file: the gate, after free blocks were filled.
use Rattle.std.specs.Prelude.{◌≡◌, ◌⊎◌, ℕ, List}
use Rattle.undo_journal.specs.Commits.{TurnsGate}
use Rattle.undo_journal.specs.Memory.{Memory, committed}
use Rattle.file_tree.specs.TreeChanges.{SameTree}

-- Free blocks are filled, and the tree is unchanged. The committed words are then these, or the gate alone committed
-- others.
pub record AddsByGate (old new : Memory) : Type 0 where
  pub filled : List ℕ
  pub tree : SameTree (committed old) filled
  pub gate : (committed new ≡ filled) ⊎ TurnsGate filled new
