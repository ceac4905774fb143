-- The end of the used entries of a table.
use Rattle.std.specs.Prelude.{◌≡◌, ◌<◌, ◌≤◌, ℕ, List}
use Rattle.file_tree.specs.declared.entry.Entry.{Entry}
use Rattle.file_tree.specs.Entries.{free_entry}
use Rattle.file_tree.specs.Table.{entry_in}

-- Entries from this one on are free. Entry 0 is before it.
pub record IsTableEnd (t : List Entry) (end : ℕ) : Type 0 where
  pub some : 0 < end
  pub most : end ≤ 64
  pub free : (e : ℕ) → end ≤ e → entry_in t e ≡ free_entry
