-- The commands on records, and INCREASE (ISO/IEC 7816-4, 11.4; ETSI TS 102 221, 11.1.8).
use Rattle.std.specs.Prelude.{◌+◌, ◌-◌, ◌==◌, ℕ, Bool, true, false, not, ◌&&◌, ◌||◌, nat_le, if◌then◌else◌, List, []}
use Rattle.std.specs.Prelude.{◌∷◌, ◌++◌, length, slice_set, Option, None, Some, unwrap_or, ◌^◌, nat_lt}
use Rattle.std.specs.FinMap.{insert}
use Rattle.card_model.specs.declared.status.Sw.{Sw}
use Rattle.card_model.specs.declared.status.TheConstants.Sw.{DONE, END_REACHED, RECORD_NOT_FOUND, NO_ROOM, WRONG_LENGTH}
use Rattle.card_model.specs.declared.status.TheConstants.Sw.{MAXIMUM_REACHED}
use Rattle.card_model.specs.declared.access_mode.AccessBit.TheVariants.{Append, Read, Update}
use Rattle.card_model.specs.declared.direction.Direction.{Direction}
use Rattle.card_model.specs.declared.requests.Target.{Target}
use Rattle.card_model.specs.declared.requests.Target.TheVariants.{Current, Short}
use Rattle.card_model.specs.declared.requests.RecordPlace.{RecordPlace}
use Rattle.card_model.specs.declared.requests.RecordPlace.TheVariants.{CurrentRecord, Number}
use Rattle.card_model.specs.declared.requests.RecordChoice.{RecordChoice}
use Rattle.card_model.specs.declared.requests.RecordChoice.TheVariants.{Next, Previous, At}
use Rattle.card_model.specs.RecordLists.{front, has_record, record_of, records_found, spelled, raised_number}
use Rattle.card_model.specs.Behaviours.{Behaviour, changes, looks, Outcome, Refusal, Refusals, only_status}
use Rattle.card_model.specs.Cards.{Card, Kind, Path, linear, cyclic, elementary, file_at}
use Rattle.card_model.specs.Guards.{file_refusals, naming, target_kind, target_path, with_limits, given, length_refusal}
use Rattle.card_model.specs.Guards.{right_length}
use Rattle.card_model.specs.Sessions.{Session}

-- READ, UPDATE, APPEND and SEARCH RECORD (ISO/IEC 7816-4, 11.4; ETSI TS 102 221, 11.1).

-- The records of a record EF, none for any other file.
abbrev pub records_of : Kind → List (List ℕ)
records_of (elementary short (linear long capacity records)) = records
records_of (elementary short (cyclic long capacity records)) = records
records_of kind = []

abbrev pub record_length : Kind → ℕ
record_length (elementary short (linear long capacity records)) = long
record_length (elementary short (cyclic long capacity records)) = long
record_length kind = 0

abbrev pub capacity_of : Kind → ℕ
capacity_of (elementary short (linear long capacity records)) = capacity
capacity_of (elementary short (cyclic long capacity records)) = capacity
capacity_of kind = 0

abbrev pub is_linear : Kind → Bool
is_linear (elementary short (linear long capacity records)) = true
is_linear kind = false

abbrev pub is_cyclic : Kind → Bool
is_cyclic (elementary short (cyclic long capacity records)) = true
is_cyclic kind = false

abbrev pub has_records : Kind → Bool
has_records kind = is_linear kind || is_cyclic kind

-- A record EF with these records. Any other file is unchanged.
abbrev pub with_records : Kind → List (List ℕ) → Kind
with_records (elementary short (linear long capacity records)) new = elementary short (linear long capacity new)
with_records (elementary short (cyclic long capacity records)) new = elementary short (cyclic long capacity new)
with_records kind new = kind

-- The record pointer at the start of a command. An EF named by its short identifier becomes current anew, so that its
-- pointer is unset.
abbrev pub pointer_at : Session → Target → Option ℕ
pointer_at s Current = s.pointer
pointer_at s (Short n) = None

-- The record after the pointer: the first if the pointer is unset, and after the last one of a cyclic EF.
abbrev pub next_record : Bool → ℕ → Option ℕ → ℕ
next_record wraps last None = 1
next_record wraps last (Some number) = if wraps && nat_le last number then 1 else number + 1

-- The record before the pointer: the last if the pointer is unset, and before the first one of a cyclic EF.
abbrev pub previous_record : Bool → ℕ → Option ℕ → ℕ
previous_record wraps last None = last
previous_record wraps last (Some number) = if wraps && nat_le number 1 then last else number - 1

-- The number of a place. An unset pointer gives 0, which is no record.
abbrev pub place_number : RecordPlace → Option ℕ → ℕ
place_number CurrentRecord pointer = unwrap_or pointer 0
place_number (Number number) pointer = number

-- The number of the chosen record. If there is no such record the command is refused.
abbrev pub chosen_number : Kind → Option ℕ → RecordChoice → ℕ
chosen_number kind pointer Next = next_record (is_cyclic kind) (length (records_of kind)) pointer
chosen_number kind pointer Previous = previous_record (is_cyclic kind) (length (records_of kind)) pointer
chosen_number kind pointer (At place) = place_number place pointer

-- Next and previous move the pointer to that record. A record at a place leaves the pointer as it is.
abbrev pub pointer_after : Option ℕ → RecordChoice → ℕ → Option ℕ
pointer_after pointer Next number = Some number
pointer_after pointer Previous number = Some number
pointer_after pointer (At place) number = pointer

-- The number of the record that a command chooses in its file.
abbrev pub target_number : Card → Session → Target → RecordChoice → ℕ
target_number c s target choice = chosen_number (target_kind c s target) (pointer_at s target) choice

-- The session with the target named by the command, and this record pointer.
abbrev pub pointing : Session → Target → Path → Option ℕ → Session
pointing s target path pointer = record (naming s target path) { pointer = pointer }

-- There is no record of this number.
abbrev pub no_record : Card → Session → Target → ℕ → Refusal
no_record c s target number = record {
  applies = not (has_record (records_of (target_kind c s target)) number);
  status = RECORD_NOT_FOUND;
}

-- The data don't have the record length.
abbrev pub no_record_length : Card → Session → Target → List ℕ → Refusal
no_record_length c s target bytes = record {
  applies = not (length bytes == record_length (target_kind c s target));
  status = WRONG_LENGTH;
}

-- The card with other records in the record EF at a path.
abbrev pub with_records_at : Card → Path → List (List ℕ) → Card
with_records_at c path records =
    let file = file_at c.tree path in
    record c { tree = insert c.tree path (record file { kind = with_records file.kind records }) }

-- READ RECORD: Le is 00 or the length of the record.
abbrev pub read_record_refusals : Card → Session → Target → RecordChoice → ℕ → Refusals
read_record_refusals c s target choice expected =
    let number = target_number c s target choice in
    let text = record_of (records_of (target_kind c s target)) number in
    with_limits (file_refusals c s target has_records Read)
    (no_record c s target number
    ∷ record { applies = not (expected == 0) && not (expected == length text); status = right_length text } ∷ [])

abbrev pub record_read : Card → Session → Target → RecordChoice → Outcome
record_read c s target choice =
    let number = target_number c s target choice in
    record {
      card = c;
      session = pointing s target (target_path c s target) (pointer_after (pointer_at s target) choice number);
      response = record { text = record_of (records_of (target_kind c s target)) number; status = DONE };
    }

abbrev pub on_read_record : Target → RecordChoice → ℕ → Behaviour
on_read_record target choice expected =
    looks (λ c s. read_record_refusals c s target choice expected) (λ c s. record_read c s target choice)

-- In a cyclic EF, UPDATE RECORD replaces the oldest record, and must name it as the previous record. Any other choice
-- is refused as a wrong structure.
abbrev pub is_oldest : RecordChoice → Bool
is_oldest Next = false
is_oldest Previous = true
is_oldest (At place) = false

abbrev pub replaces : RecordChoice → Kind → Bool
replaces choice kind = if is_oldest choice then has_records kind else is_linear kind

-- The number that must exist. A cyclic EF needs at least one record, wherever its pointer is.
abbrev pub replaced_number : Card → Session → Target → RecordChoice → ℕ
replaced_number c s target choice =
    if is_cyclic (target_kind c s target) then 1 else target_number c s target choice

abbrev pub update_record_refusals : Card → Session → Target → RecordChoice → List ℕ → Refusals
update_record_refusals c s target choice bytes =
    with_limits (file_refusals c s target (replaces choice) Update)
    (no_record c s target (replaced_number c s target choice) ∷ no_record_length c s target bytes ∷ [])

-- The records after the command. A linear EF has one record replaced. A cyclic EF gets the new record in front and
-- loses the last one.
abbrev pub updated_records : Kind → ℕ → List ℕ → List (List ℕ)
updated_records kind number bytes =
    let records = records_of kind in
    if is_cyclic kind then front (length records) bytes records else slice_set records (number - 1) bytes

abbrev pub record_updated_card : Card → Session → Target → RecordChoice → List ℕ → Card
record_updated_card c s target choice bytes =
    with_records_at c (target_path c s target)
    (updated_records (target_kind c s target) (target_number c s target choice) bytes)

abbrev pub record_updated : Card → Session → Target → RecordChoice → List ℕ → Outcome
record_updated c s target choice bytes =
    let number = target_number c s target choice in
    let pointer =
    if is_cyclic (target_kind c s target) then Some 1 else pointer_after (pointer_at s target) choice number in
    record {
      card = record_updated_card c s target choice bytes;
      session = pointing s target (target_path c s target) pointer;
      response = only_status DONE;
    }

abbrev pub on_update_record : Target → RecordChoice → List ℕ → Behaviour
on_update_record target choice bytes =
    changes (λ c s. update_record_refusals c s target choice bytes) (λ c s. record_updated c s target choice bytes)

-- APPEND RECORD: a full linear EF refuses it, a full cyclic EF loses its last record.
abbrev pub append_refusals : Card → Session → Target → List ℕ → Refusals
append_refusals c s target bytes =
    let kind = target_kind c s target in
    with_limits (file_refusals c s target has_records Append)
    (record { applies = is_linear kind && nat_le (capacity_of kind) (length (records_of kind)); status = NO_ROOM }
    ∷ no_record_length c s target bytes ∷ [])

abbrev pub appended_records : Kind → List ℕ → List (List ℕ)
appended_records kind bytes =
    if is_cyclic kind then front (capacity_of kind) bytes (records_of kind) else records_of kind ++ bytes ∷ []

abbrev pub appended_card : Card → Session → Target → List ℕ → Card
appended_card c s target bytes =
    with_records_at c (target_path c s target) (appended_records (target_kind c s target) bytes)

-- The effect: the new record becomes the current one.
abbrev pub record_appended : Card → Session → Target → List ℕ → Outcome
record_appended c s target bytes =
    let kind = target_kind c s target in
    let number = if is_cyclic kind then 1 else length (records_of kind) + 1 in
    record {
      card = appended_card c s target bytes;
      session = pointing s target (target_path c s target) (Some number);
      response = only_status DONE;
    }

abbrev pub on_append_record : Target → List ℕ → Behaviour
on_append_record target bytes =
    changes (λ c s. append_refusals c s target bytes) (λ c s. record_appended c s target bytes)

-- SEARCH RECORD: from the named record up to the last, or down to the first.
abbrev pub matches : Card → Session → Target → RecordPlace → Direction → List ℕ → List ℕ
matches c s target first direction text =
    records_found direction (place_number first (pointer_at s target)) text (records_of (target_kind c s target))

abbrev pub search_refusals : Card → Session → Target → RecordPlace → Direction → List ℕ → Option ℕ → Refusals
search_refusals c s target first direction text expected =
    with_limits (file_refusals c s target has_records Read)
    (no_record c s target (place_number first (pointer_at s target))
    ∷ length_refusal expected (matches c s target first direction text) ∷ [])

-- The first match becomes the current record. Without a match the pointer is unchanged.
abbrev pub pointer_found : Option ℕ → List ℕ → Option ℕ
pointer_found pointer [] = pointer
pointer_found pointer (number ∷ numbers) = Some number

abbrev pub search_status : List ℕ → Sw
search_status [] = END_REACHED
search_status (number ∷ numbers) = DONE

abbrev pub records_searched : Card → Session → Target → RecordPlace → Direction → List ℕ → Option ℕ → Outcome
records_searched c s target first direction text expected =
    let numbers = matches c s target first direction text in
    record {
      card = c;
      session = pointing s target (target_path c s target) (pointer_found (pointer_at s target) numbers);
      response = record { text = given expected numbers; status = search_status numbers };
    }

abbrev pub on_search_record : Target → RecordPlace → Direction → List ℕ → Option ℕ → Behaviour
on_search_record target first direction text expected =
    looks (λ c s. search_refusals c s target first direction text expected)
    (λ c s. records_searched c s target first direction text expected)

-- INCREASE (ETSI TS 102 221, 11.1.8): a number is added to the newest record of the current cyclic EF.

-- The kind and the content of the current EF.
abbrev pub increased_kind : Card → Session → Kind
increased_kind c s = target_kind c s Current

-- The new record: the sum in the record length.
abbrev pub sum_record : Card → Session → List ℕ → List ℕ
sum_record c s sent =
    let kind = increased_kind c s in spelled (record_length kind) (raised_number (records_of kind) sent)

-- The data of the answer: the new record, then the added number.
abbrev pub increased_data : Card → Session → List ℕ → List ℕ
increased_data c s sent = sum_record c s sent ++ sent

-- The refusals of INCREASE. Its file is the current EF, which must be cyclic. The data are longer than a record, or
-- the answer longer than 256 bytes. There is no record. The sum doesn't fit in a record. Le is too small.
abbrev pub increase_refusals : Card → Session → List ℕ → Option ℕ → Refusals
increase_refusals c s sent expected =
    let kind = increased_kind c s in
    let long = record_length kind in
    with_limits (file_refusals c s Current is_cyclic Update)
    (record { applies = nat_lt long (length sent) || nat_lt 256 (long + length sent); status = WRONG_LENGTH }
    ∷ no_record c s Current 1
    ∷ record { applies = nat_le (256 ^ long) (raised_number (records_of kind) sent); status = MAXIMUM_REACHED }
    ∷ length_refusal expected (increased_data c s sent) ∷ [])

-- The card with the sum in front and without the last record.
abbrev pub increased_card : Card → Session → List ℕ → Card
increased_card c s sent =
    let records = records_of (increased_kind c s) in
    with_records_at c (target_path c s Current) (front (length records) (sum_record c s sent) records)

abbrev pub increased : Card → Session → List ℕ → Option ℕ → Outcome
increased c s sent expected = record {
  card = increased_card c s sent;
  session = pointing s Current (target_path c s Current) (Some 1);
  response = record { text = given expected (increased_data c s sent); status = DONE };
}

abbrev pub on_increase : List ℕ → Option ℕ → Behaviour
on_increase sent expected =
    changes (λ c s. increase_refusals c s sent expected) (λ c s. increased c s sent expected)
