-- Sums by which the check finds the entries that it has to compare. No public clause uses these definitions.
use Rattle.std.specs.Prelude.{◌+◌, ◌*◌, ◌%◌, ℕ, List, fold}
use Rattle.file_tree.specs.declared.entry.Entry.{Entry}
use Rattle.file_tree.specs.Table.{IsUsed}
use Rattle.file_tree.specs.TreeParts.{HasOwnShort, HasOwnName}

-- The sum of a name, and that of a child's short identifier and its DF. What is the same has the same sum.
abbrev pub next_sum : ℕ → ℕ → ℕ
next_sum sum byte = ((sum * 31) % 256 + byte) % 256

abbrev pub name_sum : List ℕ → ℕ
name_sum name = fold next_sum 0 name

abbrev pub short_sum : Entry → ℕ
short_sum entry = next_sum entry.parent entry.short

-- No two used entries are children of one DF with the same short identifier. `HaveOwnNames`: have the same name.
abbrev pub HaveOwnShorts : List Entry → Type 0
HaveOwnShorts t = (e : ℕ) → IsUsed t e → HasOwnShort t e

abbrev pub HaveOwnNames : List Entry → Type 0
HaveOwnNames t = (e : ℕ) → IsUsed t e → HasOwnName t e
