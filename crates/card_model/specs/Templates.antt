-- The template that SELECT returns: a file's control parameters and their one encoding (ISO/IEC 7816-4, 7.4.3).
use Rattle.std.specs.Prelude.{ℕ, ◌≢◌, ◌*◌, ◌/◌, ◌%◌, ⊤, List, [], ◌∷◌, ◌++◌, length, Some, None, Option}
use Rattle.card_model.specs.LifeCycle.{life_cycle_byte}
use Rattle.card_model.specs.declared.fcp.Fcp.{Fcp}
use Rattle.card_model.specs.declared.fcp.FileKind.{FileKind}
use Rattle.card_model.specs.declared.fcp.FileKind.TheVariants.{Df, Transparent, Linear, Cyclic}
use Rattle.card_model.specs.declared.fcp.ShortIdentifier.{ShortIdentifier}
use Rattle.card_model.specs.declared.fcp.ShortIdentifier.TheVariants.{Absent, Given, Empty}
use Rattle.card_model.specs.TemplateGrammar.{DataObject, objects_text}
use Rattle.card_model.specs.FileControl.{IsInRange}
use Rattle.std.specs.FinMap.{get}
use Rattle.std.specs.Option.{option_map_or}
use Rattle.card_model.specs.declared.fcp.Records.{Records}
use Rattle.card_model.specs.Cards.{File, Kind, Path, Tree, transparent, linear, cyclic, dedicated, elementary}
use Rattle.card_model.specs.Cards.{identifier}

-- Full file control parameters, and their one encoding in an answer.

-- The parameters of an EF in an answer either give a short identifier or say that there is none.
abbrev pub IsShortSaid : FileKind → Type 0
IsShortSaid (Df name) = ⊤
IsShortSaid (Transparent short size) = short ≢ Absent
IsShortSaid (Linear short records) = short ≢ Absent
IsShortSaid (Cyclic short records) = short ≢ Absent

-- Full file control parameters: in their ranges, with every field of an answer.
pub record IsInFull (fcp : Fcp) : Type 0 where
  pub ranges : IsInRange fcp
  pub short : IsShortSaid fcp.kind

-- A number in two bytes.
abbrev pub in_two_bytes : ℕ → List ℕ
in_two_bytes n = n / 256 ∷ n % 256 ∷ []

abbrev pub data_object : ℕ → List ℕ → DataObject
data_object tag value = record { tag = tag; value = value }

-- The value of object 82: 78, 41, 42 or 46, then the byte 21. For a record EF, the record length and the number of
-- existing records follow.
abbrev pub descriptor_value : FileKind → List ℕ
descriptor_value (Df name) = 0x78 ∷ 0x21 ∷ []
descriptor_value (Transparent short size) = 0x41 ∷ 0x21 ∷ []
descriptor_value (Linear short records) = 0x42 ∷ 0x21 ∷ in_two_bytes records.record_length ++ records.existing ∷ []
descriptor_value (Cyclic short records) = 0x46 ∷ 0x21 ∷ in_two_bytes records.record_length ++ records.existing ∷ []

-- The value of object 88, empty for an EF without a short identifier.
abbrev pub short_value : ShortIdentifier → List ℕ
short_value (Given number) = number * 8 ∷ []
short_value _ = []

-- Objects 84, 88 and 80: 84 for a DF with a name, 88 and 80 for each EF.
abbrev pub kind_objects : FileKind → List DataObject
kind_objects (Df None) = []
kind_objects (Df (Some name)) = data_object 0x84 name ∷ []
kind_objects (Transparent short size) = data_object 0x88 (short_value short) ∷ data_object 0x80 (in_two_bytes size) ∷ []
kind_objects (Linear short records) = data_object 0x88 (short_value short)
    ∷ data_object 0x80 (in_two_bytes records.size) ∷
    []
kind_objects (Cyclic short records) = data_object 0x88 (short_value short)
    ∷ data_object 0x80 (in_two_bytes records.size) ∷
    []

-- The objects of an answer, in the order 82, 83, 84, 88, 80, 8A, 8C.
abbrev pub fcp_objects : Fcp → List DataObject
fcp_objects fcp =
    data_object 0x82 (descriptor_value fcp.kind) ∷ data_object 0x83 (in_two_bytes fcp.identifier) ∷ []
    ++ kind_objects fcp.kind
    ++ data_object 0x8A (life_cycle_byte fcp.life_cycle ∷ []) ∷ data_object 0x8C fcp.rule ∷ []

-- The encoding of an answer: tag 62, the length of the objects, the objects.
abbrev pub fcp_text : Fcp → List ℕ
fcp_text fcp = 0x62 ∷ length (objects_text (fcp_objects fcp)) ∷ objects_text (fcp_objects fcp)

-- The template of an existing file (ISO/IEC 7816-4, 7.4.3).

-- The short identifier of an EF, `Empty` if it has none.
abbrev pub short_told : Option ℕ → ShortIdentifier
short_told None = Empty
short_told (Some n) = Given n

-- The parameters of records. The size is that of the capacity.
abbrev pub records_told : ℕ → ℕ → List (List ℕ) → Records
records_told record_length capacity records = record {
  size = capacity * record_length;
  record_length = record_length;
  existing = length records;
}

abbrev pub kind_told : Kind → FileKind
kind_told (dedicated name) = Df name
kind_told (elementary short (transparent bytes)) = Transparent (short_told short) (length bytes)
kind_told (elementary short (linear record_length capacity records)) =
    Linear (short_told short) (records_told record_length capacity records)
kind_told (elementary short (cyclic record_length capacity records)) =
    Cyclic (short_told short) (records_told record_length capacity records)

-- The file control parameters of the file at a path.
abbrev pub parameters_of : Path → File → Fcp
parameters_of path file = record {
  identifier = identifier path;
  life_cycle = file.life;
  rule = file.rule;
  kind = kind_told file.kind;
}

-- The template of a file at a path: the encoding of its parameters.
unfoldable pub template_of : Path → File → List ℕ
template_of path file = fcp_text (parameters_of path file)

-- The template of the file at a path, empty if there is none. Commands refuse such a path before they use it.
abbrev pub template_at : Tree → Path → List ℕ
template_at tree path = option_map_or (template_of path) (get tree path) []
