-- The template of a file, from its entry. No public clause names these definitions.
use Rattle.std.specs.Prelude.{◌≢◌, ◌==◌, ◌<◌, ◌&&◌, ℕ, nat_le, if◌then◌else◌, List, [], length, Option, Some, None}
use Rattle.file_tree.specs.declared.entry.Entry.{Entry}
use Rattle.file_tree.specs.declared.kinds.EntryKind.TheVariants as entry_kinds
use Rattle.file_tree.specs.Kinds.{kind_byte}
use Rattle.file_tree.specs.Entries.{life_told, name_of, rule_of}
use Rattle.file_tree.specs.Table.{table, entry_in, IsFileEntry}
use Rattle.undo_journal.specs.Memory.{Memory, committed, IsReady}
use Rattle.card_model.specs.declared.requests.Returned.{Returned}
use Rattle.card_model.specs.declared.requests.Returned.TheVariants.{Template, Nothing}
use Rattle.card_model.specs.declared.fcp.Fcp.{Fcp}
use Rattle.card_model.specs.declared.fcp.FileKind.{FileKind}
use Rattle.card_model.specs.declared.fcp.FileKind.TheVariants as kinds
use Rattle.card_model.specs.declared.fcp.Records.{Records as RecordsTold}
use Rattle.card_model.specs.declared.fcp.ShortIdentifier.{ShortIdentifier}
use Rattle.card_model.specs.declared.fcp.ShortIdentifier.TheVariants as shorts
use Rattle.card_model.specs.Templates.{fcp_text}

-- a used entry whose file has a template
pub record IsToldEntry (entry : Entry) : Type 0 where
  pub used : entry.kind ≢ kind_byte entry_kinds.Free
  pub file : IsFileEntry entry

-- such an entry of a store that is ready
pub record HasToldEntry (m : Memory) (e : ℕ) : Type 0 where
  pub ready : IsReady m
  pub within : e < 64
  pub told : IsToldEntry (entry_in (table (committed m)) e)

-- the parts of the template, from the entry of the file
abbrev pub name_in_entry : Entry → Option (List ℕ)
name_in_entry entry =
    if nat_le 1 (length (name_of entry)) && nat_le (length (name_of entry)) 16 then Some (name_of entry) else None

abbrev pub short_in_entry : Entry → ShortIdentifier
short_in_entry entry = if entry.short == 0 then shorts.Empty else shorts.Given entry.short

abbrev pub records_in_entry : Entry → RecordsTold
records_in_entry entry = record {
  size = entry.size;
  record_length = entry.record_length;
  existing = entry.records;
}

abbrev pub kind_in_entry : Entry → FileKind
kind_in_entry entry =
    if entry.kind == kind_byte entry_kinds.Dedicated then kinds.Df (name_in_entry entry) else
    if entry.kind == kind_byte entry_kinds.Transparent
    then kinds.Transparent (short_in_entry entry) entry.size else
    if entry.kind == kind_byte entry_kinds.Linear then kinds.Linear (short_in_entry entry) (records_in_entry entry) else
    kinds.Cyclic (short_in_entry entry) (records_in_entry entry)

abbrev pub parameters_in : Entry → Fcp
parameters_in entry = record {
  identifier = entry.identifier;
  life_cycle = life_told entry;
  rule = rule_of entry;
  kind = kind_in_entry entry;
}

-- the template of the file of an entry, and the response data of SELECT
unfoldable pub template_in : Entry → List ℕ
template_in entry = fcp_text (parameters_in entry)

abbrev pub data_in : Returned → Entry → List ℕ
data_in Template entry = template_in entry
data_in Nothing entry = []
