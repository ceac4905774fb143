-- The kinds of file entries, as bytes.
use Rattle.std.specs.Prelude.{ℕ}
use Rattle.file_tree.specs.declared.kinds.EntryKind.{EntryKind}
use Rattle.file_tree.specs.declared.kinds.EntryKind.TheVariants.{Free, Dedicated, Transparent, Linear, Cyclic}

-- The byte of a kind. No other byte is one.
abbrev pub kind_byte : EntryKind → ℕ
kind_byte Free = 0
kind_byte Dedicated = 1
kind_byte Transparent = 2
kind_byte Linear = 3
kind_byte Cyclic = 4
