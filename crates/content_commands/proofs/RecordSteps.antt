-- The commands on records that only look, by the entry of the file that is named.
use Rattle.std.proofs.Common.{◌≡◌, ◌==◌, ◌&&◌, ℕ, Bool, true, false, not, nat_le, List, [], ◌∷◌, length, Option, Some}
use Rattle.std.proofs.Common.{None, Ok, if◌then◌else◌, refl, sym, ◌∙◌, ap, subst}
use Rattle.std.specs.FinSet.{empty}
use Rattle.nvm_board.specs.Facts.{IsMemory}
use Rattle.card_model.specs.declared.access_mode.AccessBit.TheVariants.{Read}
use Rattle.card_model.specs.declared.status.Sw.{Sw}
use Rattle.card_model.specs.declared.status.TheConstants.Sw.{DONE, RECORD_NOT_FOUND}
use Rattle.card_model.specs.declared.requests.Target.{Target}
use Rattle.card_model.specs.declared.requests.Target.TheVariants.{Current, Short}
use Rattle.card_model.specs.declared.direction.Direction.{Direction}
use Rattle.card_model.specs.declared.requests.RecordChoice.{RecordChoice}
use Rattle.card_model.specs.declared.requests.RecordChoice.TheVariants.{Next, Previous, At}
use Rattle.card_model.specs.declared.requests.RecordPlace.{RecordPlace}
use Rattle.card_model.specs.Requests.{Request, read_record, search_record}
use Rattle.undo_journal.specs.StoreCalls.{OnlyReads}
use Rattle.undo_journal.specs.Memory.{Memory, committed, IsReady}
use Rattle.command_base.specs.Served.{Executes}
use Rattle.command_base.specs.Working.{card_in, session_in, table_in, session_of, IsCurrent}
use Rattle.command_base.specs.CurrentFiles.{pointer_from, pointing_from}
use Rattle.ef_body.specs.declared.cyclic.Cyclic.{Cyclic as Ring}
use Rattle.ef_body.specs.declared.slot.RecordSlot.{RecordSlot}
use Rattle.ef_body.specs.Bodies.{cyclic_body_records, IsCyclic}
use Rattle.card_model.specs.RecordLists.{has_record, record_of, records_found as found_in}
use Rattle.ef_contents.specs.Refusals.{missing_record}
use Rattle.file_tree.specs.Table.{table, path_of, IsUsed}
use Rattle.file_tree.specs.Trees.{file_in}
use Rattle.command_base.specs.declared.current.Current.{Current as CurrentFiles}
use Rattle.command_base.specs.declared.target_file.Need.{Need}
use Rattle.content_commands.specs.declared.record_file.RecordFile.{RecordFile}
use Rattle.card_model.specs.Cards.{Card, Kind, Path}
use Rattle.command_base.specs.Counting.{CountsServed}
use Rattle.card_model.specs.Guards.{file_refusals, target_kind, target_path, with_limits, asks_less, given}
use Rattle.card_model.specs.Guards.{length_refusal, right_length}
use Rattle.card_model.specs.Behaviours.{refused, refused_by, Refusal, Refusals, outcome}
use Rattle.card_model.specs.RecordCommands.{has_records, next_record, place_number, pointer_after, pointer_at}
use Rattle.card_model.specs.RecordCommands.{pointer_found, matches, no_record, pointing, previous_record, records_of}
use Rattle.card_model.specs.RecordCommands.{search_status, target_number}
use Rattle.command_base.specs.declared.target_file.AcceptedStructure.TheVariants.{Records}
use Rattle.card_model.specs.Sessions.{Session}
use Rattle.command_base.specs.Standing.{card_of, IsCard}
use Rattle.card_model.specs.Steps.{effect, refusals_of, served}
use Rattle.content_commands.specs.RecordParts.{chosen_in, has_in}
use Rattle.content_commands.specs.RecordParts.{IsRecordFile}
use Rattle.content_commands.proofs.RecordBodies.{file-agrees, has-slot, Agree}
use Rattle.command_base.specs.laws.Entries.{there}
use Rattle.card_model.specs.laws.Guarding.{guarded-first, guarded-free, guarded-refused, named-kind, named-path}
use Rattle.card_model.specs.laws.Guarding.{served-done, served-refused}
use Rattle.command_base.specs.laws.Executes.{declined}
use Rattle.command_base.specs.laws.Naming.{named-current, naming-entry}

-- where a look finds no record, that refuses the command
pub gone-status : (has : Bool) (status : Sw) → (if has then None else Some RECORD_NOT_FOUND) ≡ Some status
    → (if not has then Some RECORD_NOT_FOUND else None) ≡ Some status
gone-status true status is = is
gone-status false status is = is

-- what refuses besides the file
abbrev other_length : Card → Session → Target → RecordChoice → ℕ → Refusal
other_length c s target choice expected =
    let text = record_of (records_of (target_kind c s target)) (target_number c s target choice) in
    record { applies = not (expected == 0) && not (expected == length text); status = right_length text }

abbrev pub read_limits : Card → Session → Target → RecordChoice → ℕ → List Refusal
read_limits c s target choice expected =
    no_record c s target (target_number c s target choice) ∷ other_length c s target choice expected ∷ []

abbrev pub search_limits : Card → Session → Target → RecordPlace → Direction → List ℕ → Option ℕ → List Refusal
search_limits c s target first direction sought expected =
    no_record c s target (place_number first (pointer_at s target))
    ∷ length_refusal expected (matches c s target first direction sought) ∷ []

-- what refuses a command that looks for a record: its file, and then that there is no such record
abbrev pub choice_refusals : Card → Session → Target → RecordChoice → Refusals
choice_refusals c s target choice =
    with_limits (file_refusals c s target has_records Read)
    (no_record c s target (target_number c s target choice) ∷ [])

-- what its file refuses, or that there is no such record
module _ (c : Card) (s : Session) (target : Target) (status : Sw) where
  pub choice-barred : (choice : RecordChoice) → refused_by (file_refusals c s target has_records Read) ≡ Some status
      → refused_by (choice_refusals c s target choice) ≡ Some status
  choice-barred choice is = guarded-refused c s target has_records Read status is
      (no_record c s target (target_number c s target choice) ∷ [])

  pub read-refused : (choice : RecordChoice) → refused_by (choice_refusals c s target choice) ≡ Some status
      → (expected : ℕ) → served c s (read_record target choice expected) ≡ refused c s status
  unfolding refusals_of
  read-refused choice is expected = served-refused c s (read_record target choice expected) status
      (guarded-first c s target has_records Read (no_record c s target (target_number c s target choice)) status is
      (other_length c s target choice expected ∷ []))

  pub search-refused : (first : RecordPlace) → refused_by (choice_refusals c s target (At first)) ≡ Some status
      → (direction : Direction) (sought : List ℕ) (expected : Option ℕ)
      → served c s (search_record target first direction sought expected) ≡ refused c s status
  unfolding refusals_of
  search-refused first is direction sought expected =
      served-refused c s (search_record target first direction sought expected) status
      (guarded-first c s target has_records Read (no_record c s target (place_number first (pointer_at s target)))
      status is (length_refusal expected (matches c s target first direction sought) ∷ []))

-- a refusal after reads leaves an empty buffer empty
pub declined-empty : (request : Request) (old : Memory) (x : CurrentFiles) (new : Memory) (text : List ℕ) → text ≡ []
    → CountsServed (card_in old) (session_in old x) request old.facts new.facts → IsCard (committed old)
    → (status : Sw) → OnlyReads old new → IsReady new → IsCurrent (table_in old) x
    → served (card_in old) (session_in old x) request ≡ refused (card_in old) (session_in old x) status
    → Executes request old x new x text (Ok status)
declined-empty request old x new text empty counted card status reads ready current is =
    subst (λ (l : List ℕ). Executes request old x new x l (Ok status)) (sym empty)
    (declined request old x new counted card status reads ready current is)

module _ (m : List ℕ) (sized : IsMemory m) (words : IsCard m) (x : CurrentFiles) (target : Target) (need : Need)
    (file : RecordFile) (found : IsRecordFile m x target need file) where
  abbrev e : ℕ
  e = file.number

  abbrev c : Card
  c = card_of m

  abbrev s : Session
  s = session_of (table m) x

  abbrev kind : Kind
  kind = target_kind c s target

  used : IsUsed (table m) e
  used = found.named.file.child.used

  pub path-is : target_path c s target ≡ path_of (table m) e
  path-is = named-path c s target has_records Read (path_of (table m) e) (file_in m e) found.named.place
      (there m words e used)

  pub kind-is : kind ≡ (file_in m e).kind
  kind-is = named-kind c s target has_records Read (path_of (table m) e) (file_in m e) found.named.place
      (there m words e used)

  pub agree : Agree m kind file
  agree = subst (λ (k : Kind). Agree m k file) (sym kind-is)
      (subst (λ (f : RecordFile). Agree m (file_in m e).kind f) (sym found.file_is)
      (file-agrees m sized words e used found.kind))

  -- whether there is a record
  pub has-is : (n : ℕ) → has_record (records_of kind) n ≡ has_in file.ring n
  has-is n = ap (λ (l : ℕ). nat_le 1 n && nat_le n l) agree.number

  -- the pointer that a command begins with
  pub pointer-is : pointer_at s target ≡ pointer_from x target
  pointer-is = by_target target
    where
      by_target : (t : Target) → pointer_at s t ≡ pointer_from x t
      by_target Current = refl
      by_target (Short n) = refl

  -- the record that is chosen
  pub chosen-is : (choice : RecordChoice) → target_number c s target choice ≡ chosen_in file (pointer_from x target)
      choice
  chosen-is Next =
      let pointer = pointer-is in
      let order = agree.order in
      let count = agree.number in λ i. next_record (order i) (count i) (pointer i)
  chosen-is Previous =
      let pointer = pointer-is in
      let order = agree.order in
      let count = agree.number in λ i. previous_record (order i) (count i) (pointer i)
  chosen-is (At place) = ap (place_number place) pointer-is

  -- the session that a command leaves, and the current files
  pub session-is : (p : Option ℕ) → pointing s target (target_path c s target) p
      ≡ session_of (table m) (pointing_from x target e p)
  session-is p =
      ap (λ (path : Path). pointing s target path p) path-is
      ∙ ap (λ (t : Session). record t { pointer = p }) (naming-entry m words x target e found.named.file)

  pub current-is : IsCurrent (table m) x → (p : Option ℕ) → IsCurrent (table m) (pointing_from x target e p)
  current-is current p =
      let named = named-current m x e found.named.file target current in
      record { df = named.df; ef = named.ef; marks = named.marks }

  module _ (unrefused : refused_by (file_refusals c s target has_records Read) ≡ None) where
    -- a look from the pointer on found no such record
    pub choice-gone : (choice : RecordChoice) (status : Sw) (pointer : Option ℕ) → pointer ≡ pointer_from x target
        → ((records : List (List ℕ)) → length records ≡ file.ring.records
        → missing_record records (chosen_in file pointer choice) ≡ Some status)
        → refused_by (choice_refusals c s target choice) ≡ Some status
    choice-gone choice status pointer pointer_is gone =
        guarded-free c s target has_records Read unrefused
        (no_record c s target (target_number c s target choice) ∷ [])
        ∙ ap (λ (n : ℕ). if not (has_record (records_of kind) n) then Some RECORD_NOT_FOUND else None)
        (chosen-is choice ∙ ap (λ (p : Option ℕ). chosen_in file p choice) (sym pointer_is))
        ∙ gone-status (has_record (records_of kind) (chosen_in file pointer choice)) status
        (gone (records_of kind) agree.number)

    -- READ RECORD
    module _ (choice : RecordChoice) (expected : ℕ) where
      abbrev number : ℕ
      number = chosen_in file (pointer_from x target) choice

      abbrev text : List ℕ
      text = record_of (cyclic_body_records m file.ring) number

      -- Le is neither 00 nor a record's length
      abbrev is_other : List ℕ → Bool
      is_other t = not (expected == 0) && not (expected == length t)

      abbrev read_verdict : Bool → List ℕ → Option Sw
      read_verdict has t = if not has then Some RECORD_NOT_FOUND else if is_other t then Some (right_length t) else None

      text-is : record_of (records_of kind) (target_number c s target choice) ≡ text
      text-is = let records = agree.records in let n = chosen-is choice in λ i. record_of (records i) (n i)

      read-is : refused_by (refusals_of c s (read_record target choice expected)) ≡ read_verdict (has_in file.ring
          number) text
      unfolding refusals_of
      read-is =
          let has : has_record (records_of kind) (target_number c s target choice) ≡ has_in file.ring number =
          ap (has_record (records_of kind)) (chosen-is choice) ∙ has-is number in
          let t = text-is in
          guarded-free c s target has_records Read unrefused (read_limits c s target choice expected)
          ∙ (λ i. read_verdict (has i) (t i))

      pub read-other : has_in file.ring number ≡ true → is_other text ≡ true
          → served c s (read_record target choice expected) ≡ refused c s (right_length text)
      read-other has other = served-refused c s (read_record target choice expected) (right_length text)
          (read-is ∙ ap (λ (b : Bool). read_verdict b text) has
          ∙ ap (λ (b : Bool). if b then Some (right_length text) else None) other)

      pub read-whole : has_in file.ring number ≡ true → is_other text ≡ false
          → served c s (read_record target choice expected)
          ≡ outcome c (session_of (table m) (pointing_from x target e (pointer_after (pointer_from x target) choice
          number))) text DONE
      unfolding effect
      read-whole has whole =
          let t = text-is in
          let pointer : pointer_after (pointer_at s target) choice (target_number c s target choice)
          ≡ pointer_after (pointer_from x target) choice number =
          (let p = pointer-is in let n = chosen-is choice in λ i. pointer_after (p i) choice (n i)) in
          let session = ap (pointing s target (target_path c s target)) pointer
          ∙ session-is (pointer_after (pointer_from x target) choice number) in
          served-done c s (read_record target choice expected)
          (read-is ∙ ap (λ (b : Bool). read_verdict b text) has
          ∙ ap (λ (b : Bool). if b then Some (right_length text) else None) whole)
          ∙ (λ i. outcome c (session i) (t i) DONE)

    -- SEARCH RECORD
    module _ (first : RecordPlace) (direction : Direction) (sought : List ℕ) (expected : Option ℕ) where
      abbrev start : ℕ
      start = place_number first (pointer_from x target)

      abbrev numbers : List ℕ
      numbers = found_in direction start sought (cyclic_body_records m file.ring)

      abbrev search_verdict : Bool → List ℕ → Option Sw
      search_verdict has ns =
          if not has then Some RECORD_NOT_FOUND else if asks_less expected ns then Some (right_length ns) else None

      start-is : place_number first (pointer_at s target) ≡ start
      start-is = ap (place_number first) pointer-is

      numbers-are : found_in direction (place_number first (pointer_at s target)) sought (records_of kind)
          ≡ numbers
      numbers-are = let records = agree.records in let n = start-is in λ i.
          found_in direction (n i) sought (records i)

      search-is : refused_by (refusals_of c s (search_record target first direction sought expected))
          ≡ search_verdict (has_in file.ring start) numbers
      unfolding refusals_of
      search-is =
          let has : has_record (records_of kind) (place_number first (pointer_at s target)) ≡ has_in file.ring start =
          ap (has_record (records_of kind)) start-is ∙ has-is start in
          let ns = numbers-are in
          guarded-free c s target has_records Read unrefused
          (search_limits c s target first direction sought expected)
          ∙ (λ i. search_verdict (has i) (ns i))

      pub search-less : has_in file.ring start ≡ true → asks_less expected numbers ≡ true
          → served c s (search_record target first direction sought expected) ≡ refused c s (right_length numbers)
      search-less has less =
          served-refused c s (search_record target first direction sought expected) (right_length numbers)
          (search-is ∙ ap (λ (b : Bool). search_verdict b numbers) has
          ∙ ap (λ (b : Bool). if b then Some (right_length numbers) else None) less)

      pub search-whole : has_in file.ring start ≡ true → asks_less expected numbers ≡ false
          → served c s (search_record target first direction sought expected)
          ≡ outcome c (session_of (table m) (pointing_from x target e (pointer_found (pointer_from x target) numbers)))
          (given expected numbers) (search_status numbers)
      unfolding effect
      search-whole has enough =
          let ns = numbers-are in
          let pointer : pointer_found (pointer_at s target) (found_in direction (place_number first
          (pointer_at s target)) sought (records_of kind)) ≡ pointer_found (pointer_from x target) numbers =
          (let p = pointer-is in λ i. pointer_found (p i) (ns i)) in
          let session = ap (pointing s target (target_path c s target)) pointer
          ∙ session-is (pointer_found (pointer_from x target) numbers) in
          served-done c s (search_record target first direction sought expected)
          (search-is ∙ ap (λ (b : Bool). search_verdict b numbers) has
          ∙ ap (λ (b : Bool). if b then Some (right_length numbers) else None) enough)
          ∙ (λ i. outcome c (session i) (given expected (ns i)) (search_status (ns i)))

-- a record that a command looks for: it is there
pub record IsChosen (m : List ℕ) (x : CurrentFiles) (target : Target) (choice : RecordChoice) (file : RecordFile)
    (slot : RecordSlot) : Type 0 where
  pub named : IsRecordFile m x target (record { structure = Records; bit = Read }) file
  pub ring_is : slot.ring ≡ file.ring
  pub number_is : slot.number ≡ chosen_in file (pointer_from x target) choice

-- so it is where it was looked for from the pointer on
pub is-chosen : {m : List ℕ} {x : CurrentFiles} {target : Target} {file : RecordFile} {pointer : Option ℕ}
    (choice : RecordChoice) (slot : RecordSlot)
    → IsRecordFile m x target (record { structure = Records; bit = Read }) file → pointer ≡ pointer_from x target
    → (slot.ring ≡ file.ring) × (slot.number ≡ chosen_in file pointer choice) → IsChosen m x target choice file slot
is-chosen {m} {x} {target} {file} {pointer} choice slot named pointer_is found = record {
  named = named;
  ring_is = found.0;
  number_is = found.1 ∙ ap (λ (p : Option ℕ). chosen_in file p choice) pointer_is;
}

-- what is known of a record that is chosen: its ring is that of a file, and it is there
module _ (m : List ℕ) (sized : IsMemory m) (words : IsCard m) (x : CurrentFiles) (target : Target)
    (choice : RecordChoice) (file : RecordFile) (slot : RecordSlot) (found : IsChosen m x target choice file slot) where
  pub chosen-body : (l : List ℕ) → l ≡ m → IsCyclic l slot.ring
  chosen-body l same = subst (λ (k : List ℕ). IsCyclic k slot.ring) (sym same)
      (subst (λ (r : Ring). IsCyclic m r) (sym found.ring_is) (agree m sized words x target _ file found.named).stands)

pub chosen-has : (m : List ℕ) (x : CurrentFiles) (target : Target) (choice : RecordChoice) (file : RecordFile)
    (slot : RecordSlot) → IsChosen m x target choice file slot
    → has_in file.ring (chosen_in file (pointer_from x target) choice) ≡ true
chosen-has m x target choice file slot found =
    (λ i. has_in (sym found.ring_is i) (sym found.number_is i)) ∙ has-slot slot
