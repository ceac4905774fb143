-- The templates of CREATE FILE: data objects, the table of tags, and the meaning of a text (ISO/IEC 7816-4, 5.2 and
-- 7.4.3; ISO/IEC 7816-9; ETSI TS 102 222).
use Rattle.std.specs.Prelude.{ℕ, ◌≡◌, ◌≤◌, List, ◌∷◌, length, flat_map, ◌+◌, ◌*◌, ◌/◌, ◌%◌, Bool, ◌&&◌, ◌||◌, ◌==◌}
use Rattle.std.specs.Prelude.{nat_le, if◌then◌else◌, [], Option, Some, None, ◌⊎◌, false, not, nat_lt, is_some, Result}
use Rattle.std.specs.Prelude.{Err, find, count_by, option_map, zero, suc, take, drop}
use Rattle.std.specs.List.{list_any}
use Rattle.std.specs.Option.{unwrap_or, ok_or}
use Rattle.card_model.specs.declared.life_cycle.LifeCycle.{LifeCycle}
use Rattle.card_model.specs.Rule.{is_rule}
use Rattle.card_model.specs.declared.fcp.ShortIdentifier.{ShortIdentifier}
use Rattle.card_model.specs.declared.fcp.ShortIdentifier.TheVariants.{Absent, Empty, Given}
use Rattle.card_model.specs.declared.fcp.Records.{Records}
use Rattle.card_model.specs.declared.descriptor.Structure.{Structure}
use Rattle.card_model.specs.declared.descriptor.Structure.TheVariants.{Linear, Cyclic}
use Rattle.card_model.specs.declared.descriptor.Descriptor.{Descriptor}
use Rattle.card_model.specs.declared.fcp.Fcp.{Fcp}
use Rattle.card_model.specs.declared.fcp.FileKind.{FileKind}
use Rattle.card_model.specs.declared.fault.FcpFault.{FcpFault}
use Rattle.card_model.specs.declared.fault.FcpFault.TheVariants.{Shape, Missing, Twice, Value}
use Rattle.card_model.specs.declared.life_cycle.LifeCycle.TheVariants as life
use Rattle.card_model.specs.declared.descriptor.Descriptor.TheVariants as descriptors
use Rattle.card_model.specs.declared.fcp.FileKind.TheVariants as kinds

-- Data objects (ISO/IEC 7816-4, 5.2 and 7.4.3).

-- A data object: a tag byte and a value.
pub record DataObject : Type 0 where
  pub tag : ℕ
  pub value : List ℕ

-- The encoding of an object: the tag, the length of the value in one byte, the value.
abbrev pub object_text : DataObject → List ℕ
object_text o = o.tag ∷ length o.value ∷ o.value

-- The encoding of a list of objects, one after the other.
abbrev pub objects_text : List DataObject → List ℕ
objects_text os = flat_map object_text os

-- The text is a template of these objects: tag 62, a length byte 00 to 7F, and the objects, which fill that length.
-- Nothing follows.
pub record IsTemplate (text : List ℕ) (os : List DataObject) : Type 0 where
  pub spelled : text ≡ 0x62 ∷ length (objects_text os) ∷ objects_text os
  pub short : length (objects_text os) ≤ 0x7F

-- The table of tags: lengths, values and their meaning in CREATE FILE (ISO/IEC 7816-4, 7.4.3; ISO/IEC 7816-9; ETSI TS
-- 102 222).

-- The tags of the table. 81, A5 and C6 have no effect, whatever their value.
abbrev pub tags : List ℕ
tags = 0x80 ∷ 0x81 ∷ 0x82 ∷ 0x83 ∷ 0x84 ∷ 0x88 ∷ 0x8A ∷ 0x8C ∷ 0xA5 ∷ 0xC6 ∷ []

-- True if a byte is one of these tags.
abbrev pub is_tag : ℕ → Bool
is_tag byte = list_any (λ tag. byte == tag) tags

-- Object 82 of one byte, or of two; the second has no effect. 38 or 78 is a DF, 01 or 41 a transparent EF.
abbrev pub plain_descriptor : ℕ → Option Descriptor
plain_descriptor byte =
    if byte == 0x38 || byte == 0x78 then Some descriptors.Df else
    if byte == 0x01 || byte == 0x41 then Some descriptors.Transparent else None

-- The structure of a record EF: 02 or 42 linear, 06 or 46 cyclic.
abbrev pub structure_of : ℕ → Option Structure
structure_of byte =
    if byte == 0x02 || byte == 0x42 then Some Linear else
    if byte == 0x06 || byte == 0x46 then Some Cyclic else None

-- Object 82 of a record EF: the structure, a byte without effect, the record length in two bytes, and the number of
-- existing records. Without that number all records exist.
abbrev pub record_descriptor : Option Structure → ℕ → Option ℕ → Option Descriptor
record_descriptor None record_length existing = None
record_descriptor (Some structure) record_length existing = Some (descriptors.Records structure record_length existing)

-- Object 82, file descriptor, of length 1, 2, 4 or 5.
abbrev pub descriptor_of : List ℕ → Option Descriptor
descriptor_of (byte ∷ []) = plain_descriptor byte
descriptor_of (byte ∷ coding ∷ []) = plain_descriptor byte
descriptor_of (byte ∷ coding ∷ high ∷ low ∷ []) = record_descriptor (structure_of byte) (256 * high + low) None
descriptor_of (byte ∷ coding ∷ high ∷ low ∷ existing ∷ []) =
    record_descriptor (structure_of byte) (256 * high + low) (Some existing)
descriptor_of _ = None

-- Object 83, file identifier, two bytes: not 3F00, 3FFF or FFFF.
abbrev pub identifier_of : List ℕ → Option ℕ
identifier_of (high ∷ low ∷ []) =
    let identifier = 256 * high + low in
    if identifier == 0x3F00 || identifier == 0x3FFF || identifier == 0xFFFF then None else Some identifier
identifier_of _ = None

-- Object 84, DF name, 1 to 16 bytes; it may be absent.
abbrev pub name_read : Option (List ℕ) → Option (Option (List ℕ))
name_read None = Some None
name_read (Some name) = if nat_le 1 (length name) && nat_le (length name) 16 then Some (Some name) else None

-- Object 88, short EF identifier. Length 0 means none. Length 1 has the number, 1 to 30, in bits 8 to 4; bits 3 to 1
-- are clear.
abbrev pub short_read : Option (List ℕ) → Option ShortIdentifier
short_read None = Some Absent
short_read (Some []) = Some Empty
short_read (Some (byte ∷ [])) =
    if (byte % 8 == 0) && nat_le 1 (byte / 8) && nat_le (byte / 8) 30 then Some (Given (byte / 8)) else None
short_read (Some _) = None

-- Object 80: a number in 2 to 4 bytes.
abbrev pub number_read : List ℕ → Option ℕ
number_read (a ∷ b ∷ []) = Some (0x100 * a + b)
number_read (a ∷ b ∷ c ∷ []) = Some (0x10000 * a + 0x100 * b + c)
number_read (a ∷ b ∷ c ∷ d ∷ []) = Some (0x1000000 * a + 0x10000 * b + 0x100 * c + d)
number_read _ = None

-- Object 80 of an EF, its size in bytes: 1 to 32,767.
abbrev pub size_of : Option ℕ → Option ℕ
size_of None = None
size_of (Some size) = if nat_le 1 size && nat_le size 32767 then Some size else None

-- The records of a record EF: 1 to 254 records of 1 to 255 bytes fill the size, and no more exist.
abbrev pub records_read : ℕ → Option ℕ → ℕ → Option Records
records_read record_length existing size =
    let capacity = size / record_length in
    let number = unwrap_or existing capacity in
    if nat_le 1 record_length && nat_le record_length 255 && (size % record_length == 0)
    && nat_le 1 capacity && nat_le capacity 254 && nat_le number capacity
    then Some (record { size = size; record_length = record_length; existing = number }) else None

-- Object 8A, life cycle status, one byte. Without it the file is activated.
abbrev pub life_cycle_of : Option (List ℕ) → Option LifeCycle
life_cycle_of None = Some life.Activated
life_cycle_of (Some (byte ∷ [])) =
    if byte == 0x01 then Some life.Creation else
    if byte == 0x03 then Some life.Initialisation else
    if byte == 0x05 || byte == 0x07 then Some life.Activated else
    if byte == 0x04 || byte == 0x06 then Some life.Deactivated else None
life_cycle_of (Some _) = None

-- Object 8C, the access rule in compact format.
abbrev pub rule_read : List ℕ → Option (List ℕ)
rule_read bytes = if is_rule bytes then Some bytes else None

-- The meaning of a text: file control parameters, or the least of its faults.

infixl 10 ◌>>=◌
abbrev pub ◌>>=◌ : {A B : Type 0} → Option A → (A → Option B) → Option B
None >>= f = None
(Some x) >>= f = f x

-- True if an object has this tag.
abbrev pub has : List DataObject → ℕ → Bool
has os tag = list_any (λ o. o.tag == tag) os

-- The value of the first object with this tag.
abbrev pub value_at : List DataObject → ℕ → Option (List ℕ)
value_at os tag = option_map (λ o. o.value) (find (λ o. o.tag == tag) os)

-- The number in the first object 80.
abbrev pub data_bytes : List DataObject → Option ℕ
data_bytes os = value_at os 0x80 >>= number_read

-- True if the object is the file descriptor of a DF.
abbrev pub is_df_descriptor : DataObject → Bool
is_df_descriptor o = (o.tag == 0x82) && begins (o.value)
  where
    begins : List ℕ → Bool
    begins [] = false
    begins (byte ∷ _) = byte == 0x38 || byte == 0x78

abbrev pub tells_of_df : List DataObject → Bool
tells_of_df os = list_any is_df_descriptor os

-- A required object is missing: 82, 83 or 8C, or 80 unless an 82 is that of a DF.
abbrev pub is_missing : List DataObject → Bool
is_missing os = not (has os 0x82) || not (has os 0x83) || not (has os 0x8C) || not (has os 0x80) && not (tells_of_df os)

-- The number of objects with this tag.
abbrev pub count_of : List DataObject → ℕ → ℕ
count_of os tag = count_by (λ o. o.tag == tag) os

-- The object has a tag of the table that another object has too.
abbrev pub is_again : List DataObject → DataObject → Bool
is_again os o = is_tag o.tag && nat_lt 1 (count_of os o.tag)

-- A tag of the table occurs twice or more.
abbrev pub is_twice : List DataObject → Bool
is_twice os = list_any (is_again os) os

-- An object has a tag that isn't in the table.
abbrev pub has_unknown : List DataObject → Bool
has_unknown os = list_any (λ o. not (is_tag o.tag)) os

-- A DF must not have 88. Its 80 must have the right length, and has no effect.
unfoldable pub df_of : List DataObject → Option FileKind
df_of os = do
  name ← name_read (value_at os 0x84)
  if has os 0x88 || has os 0x80 && not (is_some (data_bytes os)) then None else Some (kinds.Df name)

-- An EF must not have 84.
unfoldable pub transparent_of : List DataObject → Option FileKind
transparent_of os = do
  short ← short_read (value_at os 0x88)
  size ← size_of (data_bytes os)
  if has os 0x84 then None else Some (kinds.Transparent short size)

abbrev pub structured : Structure → ShortIdentifier → Records → FileKind
structured Linear short records = kinds.Linear short records
structured Cyclic short records = kinds.Cyclic short records

unfoldable pub record_file_of : Structure → ℕ → Option ℕ → List DataObject → Option FileKind
record_file_of structure record_length existing os = do
  short ← short_read (value_at os 0x88)
  size ← size_of (data_bytes os)
  records ← records_read record_length existing size
  if has os 0x84 then None else Some (structured structure short records)

-- The kind of file that the descriptor and the other objects describe.
abbrev pub kind_read : Descriptor → List DataObject → Option FileKind
kind_read descriptors.Df os = df_of os
kind_read descriptors.Transparent os = transparent_of os
kind_read (descriptors.Records structure record_length existing) os = record_file_of structure record_length existing os

-- The file control parameters, provided that all objects have tags, lengths and values of the table.
unfoldable pub fcp_of : List DataObject → Option Fcp
fcp_of os = do
  descriptor ← value_at os 0x82 >>= descriptor_of
  identifier ← value_at os 0x83 >>= identifier_of
  kind ← kind_read descriptor os
  life_cycle ← life_cycle_of (value_at os 0x8A)
  rule ← value_at os 0x8C >>= rule_read
  if has_unknown os then None else Some (record
      { identifier = identifier; life_cycle = life_cycle; rule = rule; kind = kind })

-- The meaning of a template of these objects: the parameters, or the least fault.
abbrev pub meaning : List DataObject → Result Fcp FcpFault
meaning os =
    if is_missing os then Err Missing else
    if is_twice os then Err Twice else
    ok_or (fcp_of os) Value

-- A text means what its objects mean. A text that is no template has the fault Shape.
abbrev pub FcpReads : List ℕ → Result Fcp FcpFault → Type 0
FcpReads text read =
    ((os : List DataObject) × IsTemplate text os × (read ≡ meaning os))
    ⊎ (((os : List DataObject) → ¬ IsTemplate text os) × (read ≡ Err Shape))

-- The same meaning as a function, for definitions that compute it. `FcpReads` is the relation.

-- The objects that fill the bytes, if they do, with at most `most` objects.
unfoldable pub objects_in : ℕ → List ℕ → Option (List DataObject)
objects_in most [] = Some []
objects_in zero (tag ∷ rest) = None
objects_in (suc most) (tag ∷ []) = None
objects_in (suc most) (tag ∷ n ∷ rest) =
    if nat_le n (length rest) then option_map (λ os. record { tag = tag; value = take n rest } ∷ os)
    (objects_in most (drop n rest)) else None

abbrev pub meaning_of : Option (List DataObject) → Result Fcp FcpFault
meaning_of None = Err Shape
meaning_of (Some os) = meaning os

unfoldable pub fcp_read : List ℕ → Result Fcp FcpFault
fcp_read (tag ∷ n ∷ body) = if (tag == 0x62) && nat_le n 0x7F && (length body == n) then meaning_of (objects_in n body)
    else Err Shape
fcp_read _ = Err Shape
