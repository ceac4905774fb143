-- Record files as the code describes them (ISO/IEC 7816-4, 11.4). No public clause names these definitions.
use Rattle.std.specs.Prelude.{◌≡◌, ◌⊎◌, ◌+◌, ◌*◌, ◌==◌, ◌&&◌, ℕ, Bool, true, false, not}
use Rattle.std.specs.Prelude.{nat_le, if◌then◌else◌}
use Rattle.std.specs.Prelude.{◌-◌, ◌++◌, ◌∷◌, slice_set, List, [], length, Option, None, Some, ◌≤◌}
use Rattle.card_model.specs.declared.access_mode.AccessBit.TheVariants.{Update}
use Rattle.card_model.specs.declared.status.Sw.{Sw}
use Rattle.card_model.specs.declared.status.TheConstants.Sw.{NO_ROOM, RECORD_NOT_FOUND, WRONG_LENGTH}
use Rattle.card_model.specs.declared.requests.Target.{Target}
use Rattle.file_tree.specs.declared.entry.Entry.{Entry}
use Rattle.file_tree.specs.Entries.{entry_capacity}
use Rattle.file_tree.specs.declared.layout.TheConstants.{FIRST_ENTRY_PAGE, RECORDS_WORD}
use Rattle.nvm_board.specs.declared.board.TheConstants.{PAGE_WORDS}
use Rattle.card_model.specs.declared.requests.RecordChoice.{RecordChoice}
use Rattle.card_model.specs.declared.requests.RecordChoice.TheVariants.{Next, Previous, At}
use Rattle.ef_body.specs.declared.cyclic.Cyclic.{Cyclic as Ring}
use Rattle.ef_body.specs.BodyChanges.{CyclicBecomes, RecordsBecome}
use Rattle.card_model.specs.RecordLists.{front}
use Rattle.content_commands.specs.declared.record_file.RecordFile.{RecordFile}
use Rattle.content_commands.specs.declared.record_file.Room.{Room}
use Rattle.content_commands.specs.declared.record_file.Room.TheVariants as rooms
use Rattle.card_model.specs.RecordCommands.{next_record, place_number, previous_record}
use Rattle.file_tree.specs.Table.{table, entry_in}
use Rattle.command_base.specs.declared.current.Current.{Current}
use Rattle.command_base.specs.declared.target_file.Need.{Need}
use Rattle.command_base.specs.declared.target_file.AcceptedStructure.{AcceptedStructure}
use Rattle.command_base.specs.declared.target_file.AcceptedStructure.TheVariants.{Records, Linear}
use Rattle.command_base.specs.NamedFiles.{IsNamed}
use Rattle.file_tree.specs.Kinds.{kind_byte}
use Rattle.file_tree.specs.declared.kinds.EntryKind.TheVariants as entry_kinds
use Rattle.command_base.specs.TemplateParts.{IsToldEntry}

-- the address of the word of an entry with its number of records
abbrev pub told_address : ℕ → ℕ
told_address e = PAGE_WORDS * (FIRST_ENTRY_PAGE + e) + RECORDS_WORD

-- the records of an entry as a ring; record 1 of a linear file is in slot 0
abbrev pub ring_in : ℕ → Entry → Ring
ring_in e entry = record {
  chain = record { first = entry.first; last = entry.last };
  record_length = entry.record_length;
  capacity = entry_capacity entry;
  records = entry.records;
  start = entry.start;
  counts_at = told_address e;
}

abbrev pub record_file_in : ℕ → Entry → RecordFile
record_file_in e entry =
    record { number = e; ring = ring_in e entry; wraps = entry.kind == kind_byte entry_kinds.Cyclic }

-- the number of the record that the choice selects, with this record pointer
abbrev pub chosen_in : RecordFile → Option ℕ → RecordChoice → ℕ
chosen_in file pointer Next = next_record file.wraps file.ring.records pointer
chosen_in file pointer Previous = previous_record file.wraps file.ring.records pointer
chosen_in file pointer (At place) = place_number place pointer

-- the number of the record that is overwritten, and the number of an added record
abbrev pub number_replaced_in : RecordFile → Option ℕ → RecordChoice → ℕ
number_replaced_in file pointer choice = if file.wraps then 1 else chosen_in file pointer choice

abbrev pub number_added_in : RecordFile → ℕ
number_added_in file = if file.wraps then 1 else file.ring.records + 1

-- true if a record of this number exists; true if a file has no space for another record
abbrev pub has_in : Ring → ℕ → Bool
has_in ring number = nat_le 1 number && nat_le number ring.records

abbrev pub is_full_in : RecordFile → Bool
is_full_in file = not file.wraps && nat_le file.ring.capacity file.ring.records

-- the refusal of a replacement: no record of this number, or another length
abbrev pub unreplaced : RecordFile → ℕ → List ℕ → Option Sw
unreplaced file number bytes =
    if not (has_in file.ring number) then Some RECORD_NOT_FOUND else
    if not (length bytes == file.ring.record_length) then Some WRONG_LENGTH else None

-- the refusal of an added record: no space, or another length
abbrev pub unadded : RecordFile → List ℕ → Option Sw
unadded file bytes =
    if is_full_in file then Some NO_ROOM else
    if not (length bytes == file.ring.record_length) then Some WRONG_LENGTH else None

-- the records after a replacement, and after an addition; `wraps` is true for a cyclic file
abbrev pub replaced_in : Bool → List (List ℕ) → ℕ → List ℕ → List (List ℕ)
replaced_in wraps records number bytes =
    if wraps then front (length records) bytes records else slice_set records (number - 1) bytes

abbrev pub appended_in : Bool → ℕ → List (List ℕ) → List ℕ → List (List ℕ)
appended_in wraps capacity records bytes = if wraps then front capacity bytes records else records ++ bytes ∷ []

-- the ring has these records afterwards, and all else is unchanged; in a cyclic file the new record is the first
abbrev pub RingBecomes : Bool → List ℕ → Ring → List (List ℕ) → List ℕ → Type 0
RingBecomes true m ring records after = CyclicBecomes m ring records after
RingBecomes false m ring records after = RecordsBecome m ring records after

-- true if the free slot is in front of the first record; and the ring of the slot
abbrev pub wraps_room : Room → Bool
wraps_room (rooms.Behind slot) = false
wraps_room (rooms.InFront ring) = true

abbrev pub ring_room : Room → Ring
ring_room (rooms.Behind slot) = slot.ring
ring_room (rooms.InFront ring) = ring

-- The record file that a command names, as its entry describes it.
pub record IsRecordFile (m : List ℕ) (x : Current) (target : Target) (need : Need) (file : RecordFile) : Type 0 where
  pub named : IsNamed m x target need file.number (entry_in (table m) file.number)
  pub kind : ((entry_in (table m) file.number).kind ≡ kind_byte entry_kinds.Linear)
      ⊎ ((entry_in (table m) file.number).kind ≡ kind_byte entry_kinds.Cyclic)
  pub file_is : file ≡ record_file_in file.number (entry_in (table m) file.number)

-- what UPDATE RECORD needs of its file, by its choice of record
abbrev pub structure_replaced : RecordChoice → AcceptedStructure
structure_replaced Next = Linear
structure_replaced Previous = Records
structure_replaced (At place) = Linear

abbrev pub need_replacing : RecordChoice → Need
need_replacing choice = record { structure = structure_replaced choice; bit = Update }

-- The number of an entry, and the entry of a record file.
pub record IsRecordEntry (e : ℕ) (entry : Entry) : Type 0 where
  pub number : e ≤ 63
  pub told : IsToldEntry entry
  pub records : (entry.kind ≡ kind_byte entry_kinds.Linear) ⊎ (entry.kind ≡ kind_byte entry_kinds.Cyclic)
