-- The command table: the request that the bytes of a command make (ISO/IEC 7816-4, 5.2 and clause 11; ISO/IEC 7816-9;
-- ETSI TS 102 221, clause 11).
use Rattle.std.specs.Prelude.{ℕ, ◌+◌, ◌==◌, List, [], ◌∷◌, length, take, slice_index, Option, Some, None, if◌then◌else◌}
use Rattle.std.specs.Prelude.{Bool, nat_le, ◌&&◌, ◌||◌, ◌-◌, not, unwrap_or, ◌/◌, ◌%◌, drop, ◌++◌, find, is_some}
use Rattle.std.specs.Prelude.{Result, Ok, Err}
use Rattle.card_model.specs.Requests.{Request, select, read_binary, update_binary, create_file, delete_file}
use Rattle.card_model.specs.Requests.{read_record, update_record, append_record, search_record, increase}
use Rattle.card_model.specs.Requests.{change_life_cycle, terminate_card_usage, verify, change_reference_data}
use Rattle.card_model.specs.Requests.{reset_retry_counter, change_requirement, two_bytes, Selection, master_file}
use Rattle.card_model.specs.Requests.{identifier, parent, name, path_from_master, path_from_current, identifiers}
use Rattle.card_model.specs.Requests.{is_path}
use Rattle.card_model.specs.declared.requests.Returned.{Returned}
use Rattle.card_model.specs.declared.requests.Returned.TheVariants.{Template, Nothing}
use Rattle.card_model.specs.declared.requests.Target.{Target}
use Rattle.card_model.specs.declared.requests.Target.TheVariants.{Current, Short}
use Rattle.card_model.specs.declared.requests.Subject.{Subject}
use Rattle.card_model.specs.declared.requests.RecordPlace.{RecordPlace}
use Rattle.card_model.specs.declared.requests.RecordPlace.TheVariants.{CurrentRecord, Number}
use Rattle.card_model.specs.declared.requests.RecordChoice.{RecordChoice}
use Rattle.card_model.specs.declared.requests.RecordChoice.TheVariants.{Next, Previous, At}
use Rattle.card_model.specs.declared.direction.Direction.{Direction}
use Rattle.card_model.specs.declared.direction.Direction.TheVariants.{Forward, Backward}
use Rattle.card_model.specs.declared.requests.LifeCycleChange.{LifeCycleChange}
use Rattle.card_model.specs.declared.requests.LifeCycleChange.TheVariants.{Deactivate, Activate, TerminateDf}
use Rattle.card_model.specs.declared.requests.LifeCycleChange.TheVariants.{TerminateEf}
use Rattle.card_model.specs.declared.requests.RequirementChange.{RequirementChange}
use Rattle.card_model.specs.declared.requests.RequirementChange.TheVariants.{Disable, Enable}
use Rattle.card_model.specs.declared.status.Sw.{Sw}
use Rattle.card_model.specs.declared.status.TheConstants.Sw.{WRONG_LENGTH, WRONG_PARAMETERS, UNKNOWN_INSTRUCTION}
use Rattle.card_model.specs.declared.status.TheConstants.Sw.{UNKNOWN_CLASS}
use Rattle.card_model.specs.declared.requests.Subject.TheVariants as subject

-- The body of a short command, after its four header bytes (ISO/IEC 7816-4, 5.2).

-- The data of a command, and its Le byte if it has one.
pub record SentBody : Type 0 where
  pub sent : List ℕ
  pub expected : Option ℕ

-- The four forms: nothing; Le; Lc and Lc bytes; Lc, Lc bytes and Le. Lc is not 0. Any other body is malformed.
abbrev pub sent_body : List ℕ → Option SentBody
sent_body [] = Some (record { sent = []; expected = None })
sent_body (le ∷ []) = Some (record { sent = []; expected = Some le })
sent_body (lc ∷ byte ∷ bytes) =
    if lc == 0 then None else
    if length (byte ∷ bytes) == lc then Some (record { sent = byte ∷ bytes; expected = None }) else
    if length (byte ∷ bytes) == lc + 1 then Some (record {
      sent = take lc (byte ∷ bytes);
      expected = Some (slice_index
          (byte ∷ bytes) lc);
    }) else
    None

-- A row of the command table: what a class and an instruction allow, and what the command means (ISO/IEC 7816-4,
-- clause 5.4).

pub record Row : Type 0 where
  pub class : ℕ
  pub instruction : ℕ
  -- True if P1 and P2 are allowed.
  pub parameters : ℕ → ℕ → Bool
  -- True if this number of data bytes is allowed under P1 and P2. The last argument is true if there is an Le.
  pub lengths : ℕ → ℕ → ℕ → Bool → Bool
  -- The request, by P1, P2 and the body.
  pub meaning : ℕ → ℕ → SentBody → Request

-- The row of SELECT (ISO/IEC 7816-4, 11.2.2).

-- P1: by identifier 00, parent 03, by name 04, by path from the MF 08, by path from the current DF 09.
abbrev pub is_way : ℕ → Bool
is_way p1 = (p1 == 0x00) || (p1 == 0x03) || (p1 == 0x04) || (p1 == 0x08) || (p1 == 0x09)

-- P2, always for the first or only occurrence: 04 returns the template, 0C no data.
abbrev pub is_returned : ℕ → Bool
is_returned p2 = (p2 == 0x04) || (p2 == 0x0C)

-- The data that P2 asks for.
abbrev pub returned_by : ℕ → Returned
returned_by p2 = if p2 == 0x04 then Template else Nothing

-- True if this number of data bytes names a file under P1.
abbrev pub names_file : ℕ → ℕ → Bool
names_file p1 sent =
    if p1 == 0x00 then (sent == 0) || (sent == 2) else
    if p1 == 0x03 then sent == 0 else
    if p1 == 0x04 then nat_le 1 sent && nat_le sent 16 else
    is_path sent

-- No bytes name the MF, two bytes name a file by its identifier.
abbrev pub by_identifier : List ℕ → Selection
by_identifier [] = master_file
by_identifier (high ∷ bytes) = identifier (two_bytes high (slice_index bytes 0))

-- The file that the data name under P1.
abbrev pub named_file : ℕ → List ℕ → Selection
named_file p1 sent =
    if p1 == 0x00 then by_identifier sent else
    if p1 == 0x03 then parent else
    if p1 == 0x04 then name sent else
    if p1 == 0x08 then path_from_master (identifiers sent) else
    path_from_current (identifiers sent)

-- SELECT: Le is optional.
abbrev pub select_row : Row
select_row = record {
  class = 0x00;
  instruction = 0xA4;
  parameters = λ p1 p2. is_way p1 && is_returned p2;
  lengths = λ p1 p2 sent le. names_file p1 sent;
  meaning = λ p1 p2 body. select (named_file p1 body.sent) (returned_by p2) body.expected;
}

abbrev pub select_rows : List Row
select_rows = select_row ∷ []

-- The rows of the binary commands (ISO/IEC 7816-4, 11.3).

-- With bit 8 set, P1 has a short identifier in bits 5 to 1, and P2 is the offset. Otherwise P1 P2 is the offset.
abbrev pub names_short : ℕ → Bool
names_short p1 = nat_le 0x80 p1

-- True if P1 and P2 are valid: a short identifier is 1 to 30.
abbrev pub is_place : ℕ → ℕ → Bool
is_place p1 p2 = not (names_short p1) || (nat_le 1 (p1 - 0x80) && nat_le (p1 - 0x80) 30)

-- The EF that P1 names.
abbrev pub named_target : ℕ → Target
named_target p1 = if names_short p1 then Short (p1 - 0x80) else Current

-- The offset in P1 and P2.
abbrev pub named_offset : ℕ → ℕ → ℕ
named_offset p1 p2 = if names_short p1 then p2 else two_bytes p1 p2

-- READ BINARY: no data; Le is required.
abbrev pub read_binary_row : Row
read_binary_row = record {
  class = 0x00;
  instruction = 0xB0;
  parameters = is_place;
  lengths = λ p1 p2 sent le. (sent == 0) && le;
  meaning = λ p1 p2 body. read_binary (named_target p1) (named_offset p1 p2) (unwrap_or body.expected 0);
}

-- UPDATE BINARY: 1 to 255 bytes of data; no Le.
abbrev pub update_binary_row : Row
update_binary_row = record {
  class = 0x00;
  instruction = 0xD6;
  parameters = is_place;
  lengths = λ p1 p2 sent le. nat_le 1 sent && nat_le sent 255 && not le;
  meaning = λ p1 p2 body. update_binary (named_target p1) (named_offset p1 p2) body.sent;
}

abbrev pub binary_rows : List Row
binary_rows = read_binary_row ∷ update_binary_row ∷ []

-- The rows of the commands on files (ISO/IEC 7816-9).

-- No bytes name the current file, two bytes name a file by its identifier.
abbrev pub subject_named : List ℕ → Subject
subject_named [] = subject.Current
subject_named (high ∷ bytes) = subject.Identifier (two_bytes high (slice_index bytes 0))

-- P1 and P2 of the commands on files are 00 00.
abbrev pub is_no_parameter : ℕ → ℕ → Bool
is_no_parameter p1 p2 = (p1 == 0x00) && (p2 == 0x00)

-- CREATE FILE: a template of 1 to 255 bytes; no Le.
abbrev pub create_file_row : Row
create_file_row = record {
  class = 0x00;
  instruction = 0xE0;
  parameters = is_no_parameter;
  lengths = λ p1 p2 sent le. nat_le 1 sent && nat_le sent 255 && not le;
  meaning = λ p1 p2 body. create_file body.sent;
}

-- DELETE FILE: an identifier, or no data for the current file; no Le.
abbrev pub delete_file_row : Row
delete_file_row = record {
  class = 0x00;
  instruction = 0xE4;
  parameters = is_no_parameter;
  lengths = λ p1 p2 sent le. ((sent == 0) || (sent == 2)) && not le;
  meaning = λ p1 p2 body. delete_file (subject_named body.sent);
}

abbrev pub file_rows : List Row
file_rows = create_file_row ∷ delete_file_row ∷ []

-- The rows of the commands on records (ISO/IEC 7816-4, 11.4), and of INCREASE (ETSI TS 102 221, 11.1.8).

-- The upper five bits of P2 are a short identifier, 1 to 30, or 0 for the current EF.
abbrev pub is_record_file : ℕ → Bool
is_record_file p2 = nat_le (p2 / 8) 30

abbrev pub record_file : ℕ → Target
record_file p2 = if p2 / 8 == 0 then Current else Short (p2 / 8)

-- P1 is a record number, or 0 for the current record.
abbrev pub record_place : ℕ → RecordPlace
record_place p1 = if p1 == 0 then CurrentRecord else Number p1

-- The lower three bits of P2 are a mode. 2 is the next record and 3 the previous one, each with P1 00; 4 is the
-- record that P1 names.
abbrev pub is_choice : ℕ → ℕ → Bool
is_choice p1 p2 = ((p2 % 8 == 2) && (p1 == 0)) || ((p2 % 8 == 3) && (p1 == 0)) || (p2 % 8 == 4)

abbrev pub record_choice : ℕ → ℕ → RecordChoice
record_choice p1 p2 =
    if p2 % 8 == 2 then Next else
    if p2 % 8 == 3 then Previous else
    At (record_place p1)

-- A search begins at the record that P1 names: forward in mode 4, backward in mode 5.
abbrev pub is_direction : ℕ → Bool
is_direction p2 = (p2 % 8 == 4) || (p2 % 8 == 5)

abbrev pub direction : ℕ → Direction
direction p2 = if p2 % 8 == 4 then Forward else Backward

-- READ RECORD: no data; Le is required.
abbrev pub read_record_row : Row
read_record_row = record {
  class = 0x00;
  instruction = 0xB2;
  parameters = λ p1 p2. is_record_file p2 && is_choice p1 p2;
  lengths = λ p1 p2 sent le. (sent == 0) && le;
  meaning = λ p1 p2 body. read_record (record_file p2) (record_choice p1 p2) (unwrap_or body.expected 0);
}

-- UPDATE RECORD: 1 to 255 bytes of data; no Le.
abbrev pub update_record_row : Row
update_record_row = record {
  class = 0x00;
  instruction = 0xDC;
  parameters = λ p1 p2. is_record_file p2 && is_choice p1 p2;
  lengths = λ p1 p2 sent le. nat_le 1 sent && nat_le sent 255 && not le;
  meaning = λ p1 p2 body. update_record (record_file p2) (record_choice p1 p2) body.sent;
}

-- APPEND RECORD: P1 and the lower three bits of P2 are 0; 1 to 255 bytes of data; no Le.
abbrev pub append_record_row : Row
append_record_row = record {
  class = 0x00;
  instruction = 0xE2;
  parameters = λ p1 p2. is_record_file p2 && ((p1 == 0) && (p2 % 8 == 0));
  lengths = λ p1 p2 sent le. nat_le 1 sent && nat_le sent 255 && not le;
  meaning = λ p1 p2 body. append_record (record_file p2) body.sent;
}

-- SEARCH RECORD: 1 to 255 bytes of data; Le is optional.
abbrev pub search_record_row : Row
search_record_row = record {
  class = 0x00;
  instruction = 0xA2;
  parameters = λ p1 p2. is_record_file p2 && is_direction p2;
  lengths = λ p1 p2 sent le. nat_le 1 sent && nat_le sent 255;
  meaning = λ p1 p2 body. search_record (record_file p2) (record_place p1) (direction p2) body.sent body.expected;
}

-- INCREASE, class 80: 1 to 255 bytes of data; Le is optional.
abbrev pub increase_row : Row
increase_row = record {
  class = 0x80;
  instruction = 0x32;
  parameters = is_no_parameter;
  lengths = λ p1 p2 sent le. nat_le 1 sent && nat_le sent 255;
  meaning = λ p1 p2 body. increase body.sent body.expected;
}

abbrev pub record_rows : List Row
record_rows = read_record_row ∷ update_record_row ∷ append_record_row ∷ search_record_row ∷ increase_row ∷ []

-- The rows of the life cycle commands (ISO/IEC 7816-9).

-- The instruction of each life cycle command.
abbrev pub change_instruction : LifeCycleChange → ℕ
change_instruction Deactivate = 0x04
change_instruction Activate = 0x44
change_instruction TerminateDf = 0xE6
change_instruction TerminateEf = 0xE8

-- DEACTIVATE FILE, ACTIVATE FILE, TERMINATE DF, TERMINATE EF: an identifier, or no data for the current file; no Le.
abbrev pub life_cycle_row : LifeCycleChange → Row
life_cycle_row change = record {
  class = 0x00;
  instruction = change_instruction change;
  parameters = is_no_parameter;
  lengths = λ p1 p2 sent le. ((sent == 0) || (sent == 2)) && not le;
  meaning = λ p1 p2 body. change_life_cycle change (subject_named body.sent);
}

-- TERMINATE CARD USAGE: no data; no Le.
abbrev pub terminate_card_usage_row : Row
terminate_card_usage_row = record {
  class = 0x00;
  instruction = 0xFE;
  parameters = is_no_parameter;
  lengths = λ p1 p2 sent le. (sent == 0) && not le;
  meaning = λ p1 p2 body. terminate_card_usage;
}

abbrev pub life_cycle_rows : List Row
life_cycle_rows =
    life_cycle_row Deactivate ∷ life_cycle_row Activate ∷ life_cycle_row TerminateDf ∷ life_cycle_row TerminateEf
    ∷ terminate_card_usage_row ∷ []

-- The rows of the commands on PINs (ISO/IEC 7816-4, 11.5).

-- P1 is 00, and P2 is a PIN number, 1 to 8.
abbrev pub is_pin : ℕ → ℕ → Bool
is_pin p1 p2 = (p1 == 0x00) && (nat_le 1 p2 && nat_le p2 8)

-- The presented value, None without data.
abbrev pub shown_value : List ℕ → Option (List ℕ)
shown_value [] = None
shown_value (byte ∷ bytes) = Some (byte ∷ bytes)

-- The presented value (the first 8 bytes) and the new value (the rest), None without data.
abbrev pub shown_values : List ℕ → Option (List ℕ × List ℕ)
shown_values [] = None
shown_values (byte ∷ bytes) = Some (take 8 (byte ∷ bytes), drop 8 (byte ∷ bytes))

-- VERIFY: the PIN's value, or no data to query the tries left; no Le.
abbrev pub verify_row : Row
verify_row = record {
  class = 0x00;
  instruction = 0x20;
  parameters = is_pin;
  lengths = λ p1 p2 sent le. ((sent == 0) || (sent == 8)) && not le;
  meaning = λ p1 p2 body. verify p2 (shown_value body.sent);
}

-- CHANGE REFERENCE DATA: the PIN's value and the new value; no Le.
abbrev pub change_reference_data_row : Row
change_reference_data_row = record {
  class = 0x00;
  instruction = 0x24;
  parameters = is_pin;
  lengths = λ p1 p2 sent le. (sent == 16) && not le;
  meaning = λ p1 p2 body. change_reference_data p2 (take 8 body.sent) (drop 8 body.sent);
}

-- RESET RETRY COUNTER: the unblocking value and the new value, or no data to query the unblocking tries left; no Le.
abbrev pub reset_retry_counter_row : Row
reset_retry_counter_row = record {
  class = 0x00;
  instruction = 0x2C;
  parameters = is_pin;
  lengths = λ p1 p2 sent le. ((sent == 0) || (sent == 16)) && not le;
  meaning = λ p1 p2 body. reset_retry_counter p2 (shown_values body.sent);
}

-- The instruction of each change of the verification requirement.
abbrev pub requirement_instruction : RequirementChange → ℕ
requirement_instruction Disable = 0x26
requirement_instruction Enable = 0x28

-- DISABLE and ENABLE VERIFICATION REQUIREMENT: the PIN's value; no Le.
abbrev pub requirement_row : RequirementChange → Row
requirement_row change = record {
  class = 0x00;
  instruction = requirement_instruction change;
  parameters = is_pin;
  lengths = λ p1 p2 sent le. (sent == 8) && not le;
  meaning = λ p1 p2 body. change_requirement change p2 body.sent;
}

abbrev pub pin_rows : List Row
pin_rows =
    verify_row ∷ change_reference_data_row ∷ reset_retry_counter_row ∷ requirement_row Disable
    ∷ requirement_row Enable ∷ []

-- Parsing: the request of a command, or the first refusal by class, instruction, P1 P2 and lengths, in this order.

-- All commands of the card.
abbrev pub command_table : List Row
command_table = select_rows ++ binary_rows ++ file_rows ++ record_rows ++ life_cycle_rows ++ pin_rows

-- The row of an instruction under its class.
abbrev pub row_of : ℕ → ℕ → Option Row
row_of class instruction = find (λ row. (row.class == class) && (row.instruction == instruction)) command_table

-- The classes that the card knows.
abbrev pub is_class : ℕ → Bool
is_class class = (class == 0x00) || (class == 0x80)

-- The request that a well-formed body makes, provided that its lengths are allowed.
abbrev pub asked_by_body : Row → ℕ → ℕ → Option SentBody → Result Request Sw
asked_by_body row p1 p2 None = Err WRONG_LENGTH
asked_by_body row p1 p2 (Some body) =
    if row.lengths p1 p2 (length body.sent) (is_some body.expected)
    then Ok (row.meaning p1 p2 body) else Err WRONG_LENGTH

-- The request under a known instruction.
abbrev pub asked_by_row : Option Row → ℕ → ℕ → List ℕ → Result Request Sw
asked_by_row None p1 p2 bytes = Err UNKNOWN_INSTRUCTION
asked_by_row (Some row) p1 p2 bytes =
    if row.parameters p1 p2 then asked_by_body row p1 p2 (sent_body bytes) else Err WRONG_PARAMETERS

-- The request that the bytes of a command make, or the status word that refuses them.
abbrev pub asked : List ℕ → Result Request Sw
asked (class ∷ instruction ∷ p1 ∷ p2 ∷ bytes) =
    if is_class class then asked_by_row (row_of class instruction) p1 p2 bytes else Err UNKNOWN_CLASS
asked bytes = Err WRONG_LENGTH
