-- Requests: the meaning of a command as numbers and bytes (ISO/IEC 7816-4, clause 11).
use Rattle.std.specs.Prelude.{ℕ, ◌+◌, ◌*◌, ◌==◌, ◌%◌, nat_le, Bool, ◌&&◌, List, [], ◌∷◌, Option, ◌≤◌, ◌≡◌, length, ◌<◌}
use Rattle.std.specs.Prelude.{All, unwrap_or, IfSome}
use Rattle.card_model.specs.declared.requests.Returned.{Returned}
use Rattle.card_model.specs.declared.requests.Target.{Target}
use Rattle.card_model.specs.declared.requests.Subject.{Subject}
use Rattle.card_model.specs.declared.requests.RecordPlace.{RecordPlace}
use Rattle.card_model.specs.declared.requests.RecordChoice.{RecordChoice}
use Rattle.card_model.specs.declared.direction.Direction.{Direction}
use Rattle.card_model.specs.declared.requests.LifeCycleChange.{LifeCycleChange}
use Rattle.card_model.specs.declared.requests.RequirementChange.{RequirementChange}
use Rattle.card_model.specs.declared.requests.RecordPlace.TheVariants.{CurrentRecord, Number}
use Rattle.card_model.specs.declared.requests.RecordChoice.TheVariants.{Next, Previous, At}
use Rattle.card_model.specs.declared.requests.Target.TheVariants.{Current, Short}
use Rattle.card_model.specs.declared.status.Sw.{Sw}
use Rattle.card_model.specs.Pins.{IsPinNumber}

-- Two-byte numbers.

-- Two bytes as a number, the more significant one first.
abbrev pub two_bytes : ℕ → ℕ → ℕ
two_bytes high low = 256 * high + low

-- The files that SELECT can name (ISO/IEC 7816-4, 11.2.2).

-- The name that SELECT gives for a file, as numbers and bytes.
pub data Selection : Type 0 where
  master_file : Selection
  -- The first file with this identifier among the candidates from the current DF.
  identifier : ℕ → Selection
  -- The parent of the current DF.
  parent : Selection
  -- The DF with this name.
  name : List ℕ → Selection
  -- The file at the end of these identifiers, from below the MF on; each is a child of the one before.
  path_from_master : List ℕ → Selection
  -- The same from below the current DF on.
  path_from_current : List ℕ → Selection

-- Bytes as identifiers, two bytes each. An odd last byte is dropped.
abbrev pub identifiers : List ℕ → List ℕ
identifiers (high ∷ low ∷ bytes) = two_bytes high low ∷ identifiers bytes
identifiers bytes = []

-- True if this number of bytes is a path: one to seven identifiers.
abbrev pub is_path : ℕ → Bool
is_path sent = (sent % 2 == 0) && nat_le 2 sent && nat_le sent 14

-- Requests (ISO/IEC 7816-4, clause 11).

-- The request that a command makes, as numbers and bytes.
pub data Request : Type 0 where
  -- The file, the data to return, Le.
  select : Selection → Returned → Option ℕ → Request
  -- The EF, the offset of the first byte, Le.
  read_binary : Target → ℕ → ℕ → Request
  -- The EF, the offset of the first byte, the bytes.
  update_binary : Target → ℕ → List ℕ → Request
  -- The template of the new file.
  create_file : List ℕ → Request
  -- The file.
  delete_file : Subject → Request
  -- The EF, the record, Le.
  read_record : Target → RecordChoice → ℕ → Request
  -- The EF, the record, the bytes.
  update_record : Target → RecordChoice → List ℕ → Request
  -- The EF, the bytes.
  append_record : Target → List ℕ → Request
  -- The EF, the record to begin at, the direction, the search string, Le.
  search_record : Target → RecordPlace → Direction → List ℕ → Option ℕ → Request
  -- The number to add, Le.
  increase : List ℕ → Option ℕ → Request
  -- The change, the file.
  change_life_cycle : LifeCycleChange → Subject → Request
  terminate_card_usage : Request
  -- The PIN; the presented value, None for a query.
  verify : ℕ → Option (List ℕ) → Request
  -- The PIN, the presented value, the new value.
  change_reference_data : ℕ → List ℕ → List ℕ → Request
  -- The PIN; the presented unblocking value and the new value, None for a query.
  reset_retry_counter : ℕ → Option (List ℕ × List ℕ) → Request
  -- The change of the verification requirement, the PIN, the presented value.
  change_requirement : RequirementChange → ℕ → List ℕ → Request

-- The ranges of the parts of a request.

-- A short identifier is 1 to 30.
abbrev pub IsTarget : Target → Type 0
IsTarget Current = Unit {0}
IsTarget (Short number) = (1 ≤ number) × (number ≤ 30)

-- A record number is 1 to 255.
abbrev pub IsRecordPlace : RecordPlace → Type 0
IsRecordPlace CurrentRecord = Unit {0}
IsRecordPlace (Number number) = (1 ≤ number) × (number ≤ 255)

abbrev pub IsRecordChoice : RecordChoice → Type 0
IsRecordChoice Next = Unit {0}
IsRecordChoice Previous = Unit {0}
IsRecordChoice (At place) = IsRecordPlace place

-- The sizes of names and data.

-- A list of `least` to `most` numbers.
abbrev pub HasBetween : ℕ → ℕ → List ℕ → Type 0
HasBetween least most numbers = (least ≤ length numbers) × (length numbers ≤ most)

-- A name is 1 to 16 bytes, a path 1 to 7 identifiers.
abbrev pub IsSizedName : Selection → Type 0
IsSizedName master_file = Unit {0}
IsSizedName (identifier number) = Unit {0}
IsSizedName parent = Unit {0}
IsSizedName (name bytes) = HasBetween 1 16 bytes
IsSizedName (path_from_master path) = HasBetween 1 7 path
IsSizedName (path_from_current path) = HasBetween 1 7 path

-- A PIN value is 8 bytes.
abbrev pub IsPinValue : List ℕ → Type 0
IsPinValue bytes = length bytes ≡ 8

-- Bytes, identifiers and status words.

-- Each number is a byte, 0 to 255.
abbrev pub AreBytes : List ℕ → Type 0
AreBytes numbers = All (λ number. number < 256) numbers

-- Each number is a two-byte identifier.
abbrev pub AreIdentifiers : List ℕ → Type 0
AreIdentifiers numbers = All (λ number. number < 65536) numbers

-- A file whose name consists of bytes or two-byte identifiers.
abbrev pub IsNamedByBytes : Selection → Type 0
IsNamedByBytes master_file = Unit {0}
IsNamedByBytes (identifier number) = number < 65536
IsNamedByBytes parent = Unit {0}
IsNamedByBytes (name bytes) = AreBytes bytes
IsNamedByBytes (path_from_master path) = AreIdentifiers path
IsNamedByBytes (path_from_current path) = AreIdentifiers path

-- A status word is two bytes.
abbrev pub IsStatusWord : Sw → Type 0
IsStatusWord status = status.0 < 65536

-- The fields of a request: one record for each kind of request.

-- The properties of a request's fields that follow from its row of the command table.
pub record Fields : Type 1 where
  -- If the command consists of bytes: Le and each byte of the data are bytes, an identifier is two bytes.
  pub of_bytes : Type 0
  -- For a command of any numbers: data to write, search for or add, and a template, are 1 to 255 of them. A PIN value
  -- is 8 of them, a name 1 to 16, a path 1 to 7 identifiers.
  pub sized : Type 0
  -- For a parsed command: the ranges of P1 and P2, an offset of at most 32,767, and the sizes above but those of PIN
  -- values.
  pub in_range : Type 0

-- A request whose fields have no properties.
abbrev pub any_fields : Fields
any_fields = record { of_bytes = Unit {0}; sized = Unit {0}; in_range = Unit {0} }

abbrev pub fields_of : Request → Fields
fields_of (select selection returned expected) = record {
  of_bytes = IsNamedByBytes selection × (unwrap_or expected 0 < 256);
  sized = IsSizedName selection;
  in_range = IsSizedName selection;
}
fields_of (read_binary target offset expected) = record {
  of_bytes = expected < 256;
  sized = Unit {0};
  in_range = IsTarget target × (offset ≤ 32767);
}
fields_of (update_binary target offset bytes) = record {
  of_bytes = AreBytes bytes;
  sized = HasBetween 1 255 bytes;
  in_range = IsTarget target × (offset ≤ 32767) × (1 ≤ length bytes) × (length bytes ≤ 255);
}
fields_of (create_file template) = record {
  of_bytes = AreBytes template;
  sized = HasBetween 1 255 template;
  in_range = HasBetween 1 255 template;
}
fields_of (delete_file subject) = any_fields
fields_of (read_record target choice expected) = record {
  of_bytes = expected < 256;
  sized = Unit {0};
  in_range = IsTarget target × IsRecordChoice choice;
}
fields_of (update_record target choice bytes) = record {
  of_bytes = AreBytes bytes;
  sized = HasBetween 1 255 bytes;
  in_range = IsTarget target × IsRecordChoice choice × (1 ≤ length bytes) × (length bytes ≤ 255);
}
fields_of (append_record target bytes) = record {
  of_bytes = AreBytes bytes;
  sized = HasBetween 1 255 bytes;
  in_range = IsTarget target × (1 ≤ length bytes) × (length bytes ≤ 255);
}
fields_of (search_record target first direction text expected) = record {
  of_bytes = AreBytes text × (unwrap_or expected 0 < 256);
  sized = HasBetween 1 255 text;
  in_range = IsTarget target × IsRecordPlace first × (1 ≤ length text) × (length text ≤ 255);
}
fields_of (increase amount expected) = record {
  of_bytes = AreBytes amount × (unwrap_or expected 0 < 256);
  sized = HasBetween 1 255 amount;
  in_range = HasBetween 1 255 amount;
}
fields_of (change_life_cycle change subject) = any_fields
fields_of terminate_card_usage = any_fields
fields_of (verify pin shown) = record {
  of_bytes = IfSome shown AreBytes;
  sized = IfSome shown IsPinValue;
  in_range = IsPinNumber pin;
}
fields_of (change_reference_data pin shown new) = record {
  of_bytes = AreBytes shown × AreBytes new;
  sized = IsPinValue shown × IsPinValue new;
  in_range = IsPinNumber pin;
}
fields_of (reset_retry_counter pin values) = record {
  of_bytes = IfSome values (λ values. AreBytes values.0 × AreBytes values.1);
  sized = IfSome values (λ values. IsPinValue values.0 × IsPinValue values.1);
  in_range = IsPinNumber pin;
}
fields_of (change_requirement change pin shown) = record {
  of_bytes = AreBytes shown;
  sized = IsPinValue shown;
  in_range = IsPinNumber pin;
}

-- A request whose Le and data are bytes, and whose identifiers are two bytes.
abbrev pub IsOfBytes : Request → Type 0
IsOfBytes request = (fields_of request).of_bytes

-- A request whose names and data have the sizes that the command table allows.
abbrev pub IsSized : Request → Type 0
IsSized request = (fields_of request).sized
