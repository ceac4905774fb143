-- File control parameters: their fields for each kind of file, and their ranges (ISO/IEC 7816-4, 7.4.3).
use Rattle.std.specs.Prelude.{ℕ, List, [], Some, None, ◌≡◌, ◌≢◌, ◌/◌, ◌%◌, ◌^◌, ◌<◌, ◌≤◌, ⊤, IsTrue, length, Option}
use Rattle.card_model.specs.declared.fcp.FileKind.{FileKind}
use Rattle.card_model.specs.declared.fcp.FileKind.TheVariants.{Df, Transparent, Linear, Cyclic}
use Rattle.card_model.specs.declared.fcp.ShortIdentifier.{ShortIdentifier}
use Rattle.card_model.specs.declared.fcp.ShortIdentifier.TheVariants.{Absent, Empty, Given}
use Rattle.card_model.specs.declared.life_cycle.LifeCycle.TheVariants.{Terminated}
use Rattle.card_model.specs.Rule.{is_rule}
use Rattle.card_model.specs.declared.fcp.Fcp.{Fcp}
use Rattle.card_model.specs.declared.fcp.Records.{Records}

-- The fields for each kind of file: empty, absent or 0 if the kind lacks the field.

-- The bytes of the name.
abbrev pub name_bytes : FileKind → List ℕ
name_bytes (Df None) = []
name_bytes (Df (Some name)) = name
name_bytes (Transparent short size) = []
name_bytes (Linear short records) = []
name_bytes (Cyclic short records) = []

-- The short identifier.
abbrev pub short_of_kind : FileKind → ShortIdentifier
short_of_kind (Df name) = Absent
short_of_kind (Transparent short size) = short
short_of_kind (Linear short records) = short
short_of_kind (Cyclic short records) = short

-- The size of the file in bytes.
abbrev pub size_of_kind : FileKind → ℕ
size_of_kind (Df name) = 0
size_of_kind (Transparent short size) = size
size_of_kind (Linear short records) = records.size
size_of_kind (Cyclic short records) = records.size

-- The ranges of file control parameters.

-- A short identifier, if one is given, is 1 to 30.
abbrev pub IsShort : ShortIdentifier → Type 0
IsShort Absent = ⊤
IsShort Empty = ⊤
IsShort (Given number) = (1 ≤ number) × (number ≤ 30)

-- The size of an EF is 1 to 32,767 bytes.
pub record IsSize (size : ℕ) : Type 0 where
  pub least : 1 ≤ size
  pub most : size ≤ 32767

-- A name has 1 to 16 bytes.
abbrev pub IsDfName : Option (List ℕ) → Type 0
IsDfName None = ⊤
IsDfName (Some name) = (1 ≤ length name) × (length name ≤ 16)

-- The size is a whole number of records, at most 254, each of 1 to 255 bytes. No more records exist than that.
pub record IsRecords (records : Records) : Type 0 where
  pub shortest : 1 ≤ records.record_length
  pub longest : records.record_length ≤ 255
  pub size : IsSize records.size
  pub multiple : records.size % records.record_length ≡ 0
  pub capacity : records.size / records.record_length ≤ 254
  pub existing : records.existing ≤ records.size / records.record_length

abbrev pub IsKind : FileKind → Type 0
IsKind (Df name) = IsDfName name
IsKind (Transparent short size) = IsShort short × IsSize size
IsKind (Linear short records) = IsShort short × IsRecords records
IsKind (Cyclic short records) = IsShort short × IsRecords records

-- File control parameters in their ranges. Those of the MF and of a terminated file are included.
pub record IsInRange (fcp : Fcp) : Type 0 where
  pub identifier : fcp.identifier < 2 ^ 16
  pub current_df : fcp.identifier ≢ 0x3FFF
  pub reserved : fcp.identifier ≢ 0xFFFF
  pub rule : IsTrue (is_rule fcp.rule)
  pub kind : IsKind fcp.kind

-- The parameters that a template of CREATE FILE can give: not the MF's, and no terminated file.
pub record IsCreatable (fcp : Fcp) : Type 0 where
  pub ranges : IsInRange fcp
  pub below_mf : fcp.identifier ≢ 0x3F00
  pub live : fcp.life_cycle ≢ Terminated
