-- The commands on records that write, by the entry of the file that is named.
use Rattle.std.proofs.Common.{◌≡◌, ◌≢◌, ◌⊎◌, ◌==◌, ◌&&◌, ◌+◌, ◌≤◌, ℕ, Bool, true, false, not, nat_le, List, []}
use Rattle.std.proofs.Common.{◌∷◌}
use Rattle.std.proofs.Common.{length, Option, Some, None, Result, Ok, if◌then◌else◌, refl, sym, ◌∙◌, ap, subst, arith}
use Rattle.std.proofs.Common.{inl, inr, ⊎_elim}
use Rattle.std.specs.Result.{IsErrAnd}
use Rattle.nvm_board.specs.Facts.{IsMemory}
use Rattle.card_model.specs.declared.access_mode.AccessBit.TheVariants.{Append, Update}
use Rattle.card_model.specs.declared.status.Sw.{Sw}
use Rattle.card_model.specs.declared.status.TheConstants.Sw.{DONE, NO_ROOM, RECORD_NOT_FOUND, WRONG_LENGTH}
use Rattle.undo_journal.specs.declared.error.StoreErr.{StoreErr}
use Rattle.undo_journal.specs.StoreCalls.{Changes, OnlyReads}
use Rattle.undo_journal.specs.Commits.{CommitsByGate, TurnsTo}
use Rattle.undo_journal.specs.Memory.{Memory, committed, IsReady}
use Rattle.undo_journal.specs.laws.Told.{changes_after}
use Rattle.card_model.specs.Requests.{Request, append_record, update_record}
use Rattle.card_model.specs.declared.requests.Target.{Target}
use Rattle.card_model.specs.declared.requests.RecordChoice.{RecordChoice}
use Rattle.card_model.specs.declared.requests.RecordChoice.TheVariants.{Next, Previous, At}
use Rattle.ef_body.specs.declared.cyclic.Cyclic.{Cyclic as Ring}
use Rattle.ef_body.specs.Bodies.{cyclic_body_records}
use Rattle.card_model.specs.RecordLists.{has_record}
use Rattle.ef_body.specs.declared.layout.TheConstants.{RECORD_WRITES}
use Rattle.file_tree.specs.Table.{table, entry_in}
use Rattle.command_base.specs.declared.current.Current.{Current}
use Rattle.command_base.specs.declared.target_file.Need.{Need}
use Rattle.command_base.specs.declared.target_file.AcceptedStructure.TheVariants as structures
use Rattle.content_commands.specs.declared.record_file.RecordFile.{RecordFile}
use Rattle.card_model.specs.Cards.{Card, Kind, Path}
use Rattle.card_model.specs.Steps.{attempt_of, IsDoing, commits, effect, refusals_of}
use Rattle.command_base.specs.Comparing.{ComparesBy, ComparesShown}
use Rattle.card_model.specs.Behaviours.{Attempt, refused_by, Refusal, outcome}
use Rattle.card_model.specs.Guards.{file_refusals, target_kind, target_path}
use Rattle.card_model.specs.RecordCommands.{appended_records, capacity_of, has_records, is_linear, no_record}
use Rattle.card_model.specs.RecordCommands.{no_record_length, pointer_after, pointing, records_of, replaced_number}
use Rattle.card_model.specs.RecordCommands.{replaces, target_number, updated_records, with_records_at}
use Rattle.command_base.specs.Served.{Executes}
use Rattle.card_model.specs.Sessions.{Session}
use Rattle.command_base.specs.CommandWrites.{most_writes, record_writes}
use Rattle.command_base.specs.Standing.{card_of, IsCard}
use Rattle.content_commands.specs.RecordParts.{appended_in, has_in, number_added_in}
use Rattle.command_base.specs.Working.{card_in, session_in, session_of, space_in, table_in, IsCurrent}
use Rattle.command_base.specs.CurrentFiles.{pointer_from, pointing_from}
use Rattle.command_base.specs.NamedFiles.{fits}
use Rattle.content_commands.specs.RecordParts.{number_replaced_in, replaced_in, ring_in}
use Rattle.content_commands.specs.RecordParts.{need_replacing, structure_replaced, unadded, unreplaced}
use Rattle.content_commands.specs.RecordParts.{IsRecordFile, RingBecomes}
use Rattle.card_model.specs.laws.Doing.{doing-one}
use Rattle.card_model.specs.laws.Guarding.{guarded-free, guarded-refused, served-done}
use Rattle.content_commands.proofs.RecordBodies.{Agree}
use Rattle.content_commands.proofs.RecordChanges.{records-become, Records}
use Rattle.content_commands.proofs.RecordSteps.{agree, chosen-is, current-is, has-is, path-is, pointer-is, session-is}
use Rattle.command_base.specs.laws.Executes.{compared-none, counts-none, torn, written}
use Rattle.command_base.specs.laws.Stopping.{err-is}
use Rattle.command_base.specs.laws.Words.{Went, turns-one, went-after}

-- A command that isn't refused puts these records in place of those of its file.
pub record PutsRecords (old : Memory) (x : Current) (target : Target) (need : Need) (file : RecordFile)
    (request : Request) (records : List (List ℕ)) : Type 0 where
  pub found : IsRecordFile (committed old) x target need file
  pub none : refused_by (refusals_of (card_in old) (session_in old x) request) ≡ None
  pub commits_is : commits (card_in old) (session_in old x) request
      ≡ with_records_at (card_in old) (target_path (card_in old) (session_in old x) target) records ∷ []
  pub few : length records ≤ file.ring.capacity
  pub most : most_writes request ≡ record_writes
  pub unshown : attempt_of request ≡ None

-- First it only reads, up to the store `mid`; then it writes the records, as it finds them in that store.
module _ (old mid new : Memory) (ready : IsReady old) (words : IsCard (committed old)) (x : Current)
    (current : IsCurrent (table_in old) x) (target : Target) (need : Need) (file : RecordFile)
    (request : Request) (records : List (List ℕ)) (puts : PutsRecords old x target need file request records)
    (reads : OnlyReads old mid) (wraps : Bool) (wraps_is : wraps ≡ file.wraps) (ring : Ring) (ring_is : ring ≡
    file.ring)
    (put : List (List ℕ)) (put_are : put ≡ records)
    (any_exit : (committed new ≡ committed mid) ⊎ RingBecomes wraps (committed mid) ring put (committed new))
    (by_gate : CommitsByGate mid new) (turned : TurnsTo (RingBecomes wraps (committed mid) ring put) mid new)
    (told : Option StoreErr) (changes : Changes RECORD_WRITES mid new told) where
  abbrev m : List ℕ
  m = committed old

  abbrev after : List ℕ
  after = committed new

  abbrev c : Card
  c = card_in old

  abbrev s : Session
  s = session_in old x

  sized : IsMemory m
  sized = ready.usable.committed_size

  same : committed mid ≡ m
  same = reads.keeps.committed_words

  all : Changes RECORD_WRITES old new told
  all = changes_after RECORD_WRITES old mid new told reads changes

  abbrev e : ℕ
  e = file.number

  abbrev Becomes : Type 0
  Becomes = RingBecomes wraps (committed mid) ring put after

  -- what is written to the file as it was found is written to the file that its entry tells of
  change : Becomes → Records m e records after
  change becomes =
      let x_e = entry_in (table m) e in
      let wraps_told = wraps_is ∙ ap (λ (f : RecordFile). f.wraps) puts.found.file_is in
      let ring_told = ring_is ∙ ap (λ (f : RecordFile). f.ring) puts.found.file_is in
      records-become m after e sized words puts.found.named.file.child.used puts.found.kind records
      (subst (λ (f : RecordFile). length records ≤ f.ring.capacity) puts.found.file_is puts.few)
      (subst (λ (rs : List (List ℕ)). RingBecomes (x_e.kind == 4) m (ring_in e x_e) rs after) put_are
      (subst (λ (l : List ℕ). RingBecomes (x_e.kind == 4) l (ring_in e x_e) put after) same
      (subst (λ (r : Ring). RingBecomes (x_e.kind == 4) (committed mid) r put after) ring_told
      (subst (λ (b : Bool). RingBecomes b (committed mid) ring put after) wraps_told becomes))))

  card-is : Becomes
      → card_of after ≡ with_records_at c (target_path c s target) records
  card-is becomes = (change becomes).card
      ∙ ap (λ (p : Path). with_records_at c p records) (sym (path-is m sized words x target need file puts.found))

  stands : IsCard after
  stands = ⊎_elim (λ (kept : after ≡ committed mid). subst IsCard (sym (kept ∙ same)) words)
      (λ (becomes : Becomes). (change becomes).stands) any_exit

  stage : OnlyReads old new ⊎ IsDoing (card_in old) (session_in old x) request (card_in new)
  stage = inr (doing-one c s request (with_records_at c (target_path c s target) records) (card_of after) puts.none
      puts.commits_is
      (⊎_elim (λ (kept : after ≡ committed mid). inl (ap card_of (kept ∙ same)))
      (λ (becomes : Becomes). inr (card-is becomes)) any_exit))

  went : Went request old x new
  went = went-after request old x new RECORD_WRITES mid words puts.unshown stage reads changes.writes by_gate
      (turns-one request old x new (with_records_at c (target_path c s target) records)
      (RingBecomes wraps (committed mid) ring put) mid puts.none puts.commits_is reads turned
      (λ (becomes : Becomes). card-is becomes))

  compares : ComparesBy request c old.facts (card_in new) new.facts
  compares = subst (λ (shown : Option Attempt). ComparesShown shown c old.facts (card_in new) new.facts)
      (sym puts.unshown) (compared-none RECORD_WRITES old.facts new.facts all.writes)

  costs : new.facts.writes ≤ old.facts.writes + most_writes request
  costs = let spent = all.writes.writes in let most = puts.most in omega (arith, spent, most)

  -- a write that stopped, before or after its commit
  pub records-torn : (text : List ℕ) → length text ≤ 256 → (r : Result Sw StoreErr) (error : StoreErr)
      → IsErrAnd r (λ f. f ≡ error) → told ≡ Some error → Executes request old x new x text r
  records-torn text room r error handed stopped =
      subst (λ (answer : Result Sw StoreErr). Executes request old x new x text answer) (sym (err-is r error handed))
      (torn request old x new x text error stage stands all.reports (all.tells ∙ stopped) room costs went compares)

  -- a write that was made
  pub records-made : Becomes → IsReady new → (pointer : Option ℕ) (text : List ℕ)
      → length text ≤ 256
      → effect c s request ≡ outcome (with_records_at c (target_path c s target) records)
      (pointing s target (target_path c s target) pointer) text DONE
      → Executes request old x new (pointing_from x target e pointer) text (Ok DONE)
  records-made becomes ready_now pointer text room effect_is =
      let y = pointing_from x target e pointer in
      let these = change becomes in
      let card = sym (card-is becomes) in
      let session = session-is m sized words x target need file puts.found pointer ∙ sym (these.session y) in
      written request old x new (counts-none request c s old.facts new.facts puts.unshown) y text DONE stage stands
      all.reports ready_now
      (these.current y (current-is m sized words x target need file puts.found current pointer)) (λ _. these.places)
      room costs went compares
      (served-done c s request puts.none ∙ effect_is ∙ (λ i. outcome (card i) (session i) text DONE))

  pub records-space : Becomes → space_in new ≡ space_in old
  records-space becomes = (change becomes).space

-- UPDATE RECORD is for the structures that its choice replaces a record of
pub replaces-is : (c : Card) (s : Session) (target : Target) (choice : RecordChoice)
    → refused_by (file_refusals c s target (fits (structure_replaced choice)) Update)
    ≡ refused_by (file_refusals c s target (replaces choice) Update)
replaces-is c s target Next = refl
replaces-is c s target Previous = refl
replaces-is c s target (At place) = refl

pub need-replaces : (c : Card) (s : Session) (target : Target) (choice : RecordChoice) (need : Need)
    → need ≡ need_replacing choice
    → refused_by (file_refusals c s target (fits need.structure) need.bit)
    ≡ refused_by (file_refusals c s target (replaces choice) Update)
need-replaces c s target choice need is =
    ap (λ (n : Need). refused_by (file_refusals c s target (fits n.structure) n.bit)) is
    ∙ replaces-is c s target choice

pub replaces-records : (choice : RecordChoice) → structure_replaced choice ≢ structures.Bytes
replaces-records Next = λ is. cc
replaces-records Previous = λ is. cc
replaces-records (At place) = λ is. cc

-- what refuses besides the file
abbrev pub update_limits : Card → Session → Target → RecordChoice → List ℕ → List Refusal
update_limits c s target choice bytes =
    no_record c s target (replaced_number c s target choice) ∷ no_record_length c s target bytes ∷ []

abbrev pub append_limits : Card → Session → Target → List ℕ → List Refusal
append_limits c s target bytes =
    let kind = target_kind c s target in
    record { applies = is_linear kind && nat_le (capacity_of kind) (length (records_of kind)); status = NO_ROOM }
    ∷ no_record_length c s target bytes ∷ []

-- what the file refuses
module _ (c : Card) (s : Session) (target : Target) (status : Sw) where
  pub update-refused : (choice : RecordChoice) (bytes : List ℕ)
      → refused_by (file_refusals c s target (replaces choice) Update) ≡ Some status
      → refused_by (refusals_of c s (update_record target choice bytes)) ≡ Some status
  unfolding refusals_of
  update-refused choice bytes is =
      guarded-refused c s target (replaces choice) Update status is (update_limits c s target choice bytes)

  pub append-refused : (bytes : List ℕ) → refused_by (file_refusals c s target has_records Append) ≡ Some status
      → refused_by (refusals_of c s (append_record target bytes)) ≡ Some status
  unfolding refusals_of
  append-refused bytes is =
      guarded-refused c s target has_records Append status is (append_limits c s target bytes)

-- what refuses bytes as a record: first that, and then their length
abbrev pub record_verdict : Bool → Sw → Bool → Option Sw
record_verdict barred status long =
    if barred then Some status else if not long then Some WRONG_LENGTH else None

pub verdict-first : (barred : Bool) (first : Sw) (long : Bool) (status : Sw)
    → (if barred then Some first else None) ≡ Some status → record_verdict barred first long ≡ Some status
verdict-first true first long status is = is
verdict-first false first long status is = cc

pub verdict-free : (barred : Bool) (status : Sw) (long : Bool) → record_verdict barred status long ≡ None
    → (barred ≡ false) × (long ≡ true)
verdict-free true status long is = cc
verdict-free false status true is = (refl, refl)
verdict-free false status false is = cc

-- of a cyclic file the number of the record that is chosen plays no part
replaced-by : (wraps : Bool) (records : List (List ℕ)) (n : ℕ) (bytes : List ℕ)
    → replaced_in wraps records n bytes ≡ replaced_in wraps records (if wraps then 1 else n) bytes
replaced-by true records n bytes = refl
replaced-by false records n bytes = refl

pointer-by : (b : Bool) (pointer : Option ℕ) (choice : RecordChoice) (n : ℕ)
    → (if b then Some 1 else pointer_after pointer choice n)
    ≡ (if b then Some 1 else pointer_after pointer choice (if b then 1 else n))
pointer-by true pointer choice n = refl
pointer-by false pointer choice n = refl

module _ (m : List ℕ) (sized : IsMemory m) (words : IsCard m) (x : Current) (target : Target) (need : Need)
    (file : RecordFile) (found : IsRecordFile m x target need file) (bytes : List ℕ) where
  abbrev cm : Card
  cm = card_of m

  abbrev sm : Session
  sm = session_of (table m) x

  abbrev kind : Kind
  kind = target_kind cm sm target

  abbrev held : List (List ℕ)
  held = cyclic_body_records m file.ring

  agrees : Agree m kind file
  agrees = agree m sized words x target need file found

  -- UPDATE RECORD
  module _ (choice : RecordChoice)
      (unrefused : refused_by (file_refusals cm sm target (replaces choice) Update) ≡ None) where
    abbrev pub replaced : ℕ
    replaced = number_replaced_in file (pointer_from x target) choice

    number-is : replaced_number cm sm target choice ≡ replaced
    number-is =
        let order = agrees.order in
        let n = chosen-is m sized words x target need file found choice in λ i. if order i then 1 else n i

    -- a look from the pointer on decides
    pub update-decided : (pointer : Option ℕ) → pointer ≡ pointer_from x target
        → refused_by (refusals_of cm sm (update_record target choice bytes))
        ≡ unreplaced file (number_replaced_in file pointer choice) bytes
    unfolding refusals_of
    update-decided pointer pointer_is =
        let has : has_record (records_of kind) (replaced_number cm sm target choice) ≡ has_in file.ring replaced =
        ap (has_record (records_of kind)) number-is ∙ has-is m sized words x target need file found replaced in
        let long = ap (λ (l : ℕ). length bytes == l) agrees.length_is in
        guarded-free cm sm target (replaces choice) Update unrefused (update_limits cm sm target choice bytes)
        ∙ (λ i. record_verdict (not (has i)) RECORD_NOT_FOUND (long i))
        ∙ ap (λ (p : Option ℕ). unreplaced file (number_replaced_in file p choice) bytes) (sym pointer_is)

    records-are : updated_records kind (target_number cm sm target choice) bytes ≡ replaced_in file.wraps held
        replaced bytes
    records-are =
        let order = agrees.order in
        let records = agrees.records in
        let n = chosen-is m sized words x target need file found choice in
        (λ i. replaced_in (order i) (records i) (n i) bytes) ∙ replaced-by file.wraps held _ bytes

    pub update-commits : commits cm sm (update_record target choice bytes)
        ≡ with_records_at cm (target_path cm sm target) (replaced_in file.wraps held replaced bytes) ∷ []
    unfolding commits
    update-commits = ap (λ (rs : List (List ℕ)). with_records_at cm (target_path cm sm target) rs ∷ []) records-are

    pub update-effect : effect cm sm (update_record target choice bytes)
        ≡ outcome (with_records_at cm (target_path cm sm target) (replaced_in file.wraps held replaced bytes))
        (pointing sm target (target_path cm sm target) (if file.wraps then Some 1 else pointer_after (pointer_from x
        target) choice replaced)) [] DONE
    unfolding effect
    update-effect =
        let order = agrees.order in
        let n = chosen-is m sized words x target need file found choice in
        let p = pointer-is m sized words x target need file found in
        let rs = records-are in
        (λ i. outcome (with_records_at cm (target_path cm sm target) (rs i))
        (pointing sm target (target_path cm sm target) (if order i then Some 1 else pointer_after (p i) choice (n i)))
        [] DONE)
        ∙ ap (λ (o : Option ℕ). outcome (with_records_at cm (target_path cm sm target) (replaced_in file.wraps held
        replaced bytes))
        (pointing sm target (target_path cm sm target) o) [] DONE)
        (pointer-by (file.wraps) (pointer_from x target) choice _)

  -- APPEND RECORD
  module _ (unrefused : refused_by (file_refusals cm sm target has_records Append) ≡ None) where
    -- a look for room decides
    pub append-decided : refused_by (refusals_of cm sm (append_record target bytes)) ≡ unadded file bytes
    unfolding refusals_of
    append-decided =
        let full = agrees.full in
        let long = ap (λ (l : ℕ). length bytes == l) agrees.length_is in
        guarded-free cm sm target has_records Append unrefused (append_limits cm sm target bytes)
        ∙ (λ i. record_verdict (full i) NO_ROOM (long i))

    appended-are : appended_records kind bytes ≡ appended_in file.wraps file.ring.capacity held bytes
    appended-are =
        let order = agrees.order in
        let records = agrees.records in
        let room = agrees.capacity in
        λ i. appended_in (order i) (room i) (records i) bytes

    pub append-commits : commits cm sm (append_record target bytes)
        ≡ with_records_at cm (target_path cm sm target) (appended_in file.wraps file.ring.capacity held bytes) ∷ []
    unfolding commits
    append-commits = ap (λ (rs : List (List ℕ)). with_records_at cm (target_path cm sm target) rs ∷ []) appended-are

    pub append-effect : effect cm sm (append_record target bytes)
        ≡ outcome (with_records_at cm (target_path cm sm target) (appended_in file.wraps file.ring.capacity held bytes))
        (pointing sm target (target_path cm sm target) (Some (number_added_in file))) [] DONE
    unfolding effect
    append-effect =
        let order = agrees.order in
        let count = agrees.number in
        let rs = appended-are in
        λ i. outcome (with_records_at cm (target_path cm sm target) (rs i))
        (pointing sm target (target_path cm sm target) (Some (if order i then 1 else count i + 1))) [] DONE
