-- Lookups of a DF by name (ISO/IEC 7816-4, 7.2.2).
use Rattle.std.specs.Prelude.{◌≡◌, ◌≢◌, ℕ, List, Option, None, Some}
use Rattle.file_tree.specs.declared.entry.Entry.{Entry}
use Rattle.file_tree.specs.Entries.{name_of}
use Rattle.file_tree.specs.Table.{entry_in}
use Rattle.file_tree.specs.Kinds.{kind_byte}
use Rattle.file_tree.specs.declared.kinds.EntryKind.TheVariants.{Dedicated}

-- The entry is that of a DF with this name.
pub record BearsName (x : Entry) (text : List ℕ) : Type 0 where
  pub kind : x.kind ≡ kind_byte Dedicated
  pub some : x.name_length ≢ 0
  pub name : name_of x ≡ text

-- The same for an entry by its number.
abbrev pub BearsNameAt : List Entry → List ℕ → ℕ → Type 0
BearsNameAt t text f = BearsName (entry_in t f) text

-- The DF with this name, None if there is none.
abbrev pub TellsNamed : List Entry → List ℕ → Option ℕ → Type 0
TellsNamed t name None = (f : ℕ) → BearsNameAt t name f → ⊥
TellsNamed t name (Some f) = BearsNameAt t name f
