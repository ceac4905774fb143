-- A new file as its file control parameters describe it, and its refusals (ISO/IEC 7816-9, CREATE FILE).
use Rattle.std.specs.Prelude.{◌==◌, ◌&&◌, ◌||◌, ◌/◌, ◌%◌, ℕ, Bool, false, nat_le, nat_lt, if◌then◌else◌, List}
use Rattle.std.specs.Prelude.{replicate, find, Option, None, Some, is_some, is_none}
use Rattle.std.specs.FinMap.{entries}
use Rattle.card_model.specs.declared.fcp.Fcp.{Fcp}
use Rattle.card_model.specs.declared.fcp.FileKind.{FileKind}
use Rattle.card_model.specs.declared.fcp.Records.{Records}
use Rattle.card_model.specs.declared.fcp.ShortIdentifier.{ShortIdentifier}
use Rattle.card_model.specs.declared.fcp.ShortIdentifier.TheVariants.{Absent, Empty, Given}
use Rattle.card_model.specs.FileControl.{size_of_kind}
use Rattle.card_model.specs.FileTrees.{transparent, linear, cyclic, dedicated, elementary, Kind, File, Path, Tree}
use Rattle.card_model.specs.Selectors.{is_named, child_by_short}
use Rattle.card_model.specs.Spaces.{blocks_for, free_space}
use Rattle.card_model.specs.declared.fcp.FileKind.TheVariants as kinds

-- The value of each byte of a new file.
abbrev pub blank : ℕ
blank = 0xFF

-- The number of records that fit in a file.
abbrev pub capacity : Records → ℕ
capacity records = records.size / records.record_length

-- The records that exist in a new file. Each of their bytes is FF.
abbrev pub new_records : Records → List (List ℕ)
new_records records = replicate records.existing (replicate records.record_length blank)

-- The kind and the content of a new file. Each byte of the content is FF.
abbrev pub new_kind : FileKind → Option ℕ → Kind
new_kind (kinds.Df name) short = dedicated name
new_kind (kinds.Transparent told size) short = elementary short (transparent (replicate size blank))
new_kind (kinds.Linear told records) short =
    elementary short (linear records.record_length (capacity records) (new_records records))
new_kind (kinds.Cyclic told records) short =
    elementary short (cyclic records.record_length (capacity records) (new_records records))

abbrev pub new_file : Fcp → Option ℕ → File
new_file fcp short = record { life = fcp.life_cycle; rule = fcp.rule; kind = new_kind fcp.kind short }

-- The low five bits of an identifier.
abbrev pub low_bits : ℕ → ℕ
low_bits identifier = identifier % 32

-- The short identifier of a new file in a DF: the given one, or none. If the parameters don't mention one, the low
-- five bits of the identifier are used. They must be 1 to 30, and no other child may have them.
abbrev pub short_for : Tree → Path → ℕ → ShortIdentifier → Option ℕ
short_for tree df identifier Empty = None
short_for tree df identifier (Given n) = Some n
short_for tree df identifier Absent =
    let n = low_bits identifier in
    if nat_le 1 n && nat_le n 30 && is_none (child_by_short tree df n) then Some n else None

-- True if a DF of the card has this name. A DF without a name never matches.
abbrev pub has_name : Tree → List ℕ → Bool
has_name tree name = is_some (find (λ node. is_named name node.1.kind) (entries tree))

-- True if another child of the DF already has the given short identifier.
abbrev pub has_short_given : Tree → Path → ShortIdentifier → Bool
has_short_given tree df Absent = false
has_short_given tree df Empty = false
has_short_given tree df (Given n) = is_some (child_by_short tree df n)

-- True if all entries are in use, or fewer blocks are free of `n` than the file needs.
abbrev pub has_no_room : ℕ → Tree → FileKind → Bool
has_no_room n tree kind =
    ((free_space n tree).entries == 0) || nat_lt (free_space n tree).blocks (blocks_for (size_of_kind kind))

-- The short identifier of a new file, none for a DF.
abbrev pub short_of_new : Tree → Path → Fcp → Option ℕ
short_of_new tree df fcp = by_kind (fcp.kind)
  where
    by_kind : FileKind → Option ℕ
    by_kind (kinds.Df name) = None
    by_kind (kinds.Transparent short size) = short_for tree df fcp.identifier short
    by_kind (kinds.Linear short records) = short_for tree df fcp.identifier short
    by_kind (kinds.Cyclic short records) = short_for tree df fcp.identifier short
