-- Parsed commands as requests, and the ranges of their parts (ISO/IEC 7816-4, clause 11).
use Rattle.std.specs.Prelude.{ℕ, List, ◌≡◌, option_map, Result, Ok, Err, ◌≤◌, length}
use Rattle.apdu_core.specs.declared.path.FilePath.{FilePath}
use Rattle.apdu_core.specs.declared.select.Selector.{Selector}
use Rattle.card_model.specs.Requests.{Selection, identifiers, master_file, identifier, parent, name, path_from_master}
use Rattle.card_model.specs.Requests.{path_from_current, Request, select, read_binary, update_binary, create_file}
use Rattle.card_model.specs.Requests.{delete_file, read_record, update_record, append_record, search_record, increase}
use Rattle.card_model.specs.Requests.{change_life_cycle, terminate_card_usage, verify, change_reference_data}
use Rattle.card_model.specs.Requests.{reset_retry_counter, change_requirement, IsSizedName, fields_of}
use Rattle.card_model.specs.declared.status.Sw.{Sw}
use Rattle.apdu_core.specs.declared.commands.Command.{Command}
use Rattle.apdu_core.specs.declared.commands.Command.TheVariants.{Select, ReadBinary, UpdateBinary, CreateFile}
use Rattle.apdu_core.specs.declared.commands.Command.TheVariants.{DeleteFile, ReadRecord, UpdateRecord, AppendRecord}
use Rattle.apdu_core.specs.declared.commands.Command.TheVariants.{SearchRecord, Increase, ChangeLifeCycle}
use Rattle.apdu_core.specs.declared.commands.Command.TheVariants.{TerminateCardUsage, Verify, ChangeReferenceData}
use Rattle.apdu_core.specs.declared.commands.Command.TheVariants.{ResetRetryCounter, ChangeRequirement}
use Rattle.apdu_core.specs.declared.select.Selector.TheVariants as named

-- The files that SELECT can name, and how (ISO/IEC 7816-4, 11.2.2).

-- the identifiers of a parsed path
abbrev pub identifiers_in : FilePath → List ℕ
identifiers_in path = identifiers path.bytes.now

-- the file that a parsed selector names
abbrev pub selection_of : Selector → Selection
selection_of named.MasterFile = master_file
selection_of (named.Identifier number) = identifier number
selection_of named.Parent = parent
selection_of (named.Name bytes) = name bytes.now
selection_of (named.PathFromMaster path) = path_from_master (identifiers_in path)
selection_of (named.PathFromCurrent path) = path_from_current (identifiers_in path)

-- Requests (ISO/IEC 7816-4, clause 11).

-- the request of a parsed command
abbrev pub request_of : Command → Request
request_of (Select selector returned expected) = select (selection_of selector) returned expected
request_of (ReadBinary place expected) = read_binary place.target place.offset expected
request_of (UpdateBinary place bytes) = update_binary place.target place.offset bytes.now
request_of (CreateFile template) = create_file template.now
request_of (DeleteFile subject) = delete_file subject
request_of (ReadRecord target choice expected) = read_record target choice expected
request_of (UpdateRecord target choice bytes) = update_record target choice bytes.now
request_of (AppendRecord target bytes) = append_record target bytes.now
request_of (SearchRecord target first direction text expected) = search_record target first direction text.now expected
request_of (Increase amount expected) = increase amount.now expected
request_of (ChangeLifeCycle change subject) = change_life_cycle change subject
request_of TerminateCardUsage = terminate_card_usage
request_of (Verify pin shown) = verify pin (option_map (λ value. value.now) shown)
request_of (ChangeReferenceData pin values) = change_reference_data pin values.shown.now values.new.now
request_of (ResetRetryCounter pin values) =
    reset_retry_counter pin (option_map (λ values. (values.shown.now, values.new.now)) values)
request_of (ChangeRequirement change pin shown) = change_requirement change pin shown.now

-- The result of parsing, a command or a refusal, is the expected one.
abbrev pub Gives : Result Command Sw → Result Request Sw → Type 0
Gives (Ok command) wanted = wanted ≡ Ok (request_of command)
Gives (Err refusal) wanted = wanted ≡ Err refusal

-- The ranges of the parts of a parsed command.

-- a path is 1 to 7 identifiers
abbrev pub IsFilePath : FilePath → Type 0
IsFilePath path = (1 ≤ length (identifiers_in path)) × (length (identifiers_in path) ≤ 7)

-- a parsed selector has a name of a size that the table of commands allows
abbrev pub IsSelector : Selector → Type 0
IsSelector selector = IsSizedName (selection_of selector)

-- The ranges of the fields of a request: one record for each kind of request.

-- a parsed command
abbrev pub IsCommandInRange : Command → Type 0
IsCommandInRange command = (fields_of (request_of command)).in_range
