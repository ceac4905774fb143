-- What APPEND RECORD leaves, where nothing refuses it: first it only reads, up to the store `mid`, and then it writes.
use Rattle.std.proofs.Common.{◌≡◌, ◌⊎◌, ◌≤◌, ◌==◌, ℕ, true, false, List, [], length, Option, Some, None, Result, Ok}
use Rattle.std.proofs.Common.{refl, sym, ◌∙◌, ap, subst, arith}
use Rattle.std.proofs.lemmas.Bool.{eqb-true}
use Rattle.std.specs.Result.{IsErrAnd}
use Rattle.nvm_board.specs.Facts.{IsMemory}
use Rattle.card_model.specs.declared.access_mode.AccessBit.TheVariants.{Append}
use Rattle.card_model.specs.declared.status.Sw.{Sw}
use Rattle.card_model.specs.declared.status.TheConstants.Sw.{DONE, NO_ROOM}
use Rattle.undo_journal.specs.declared.error.StoreErr.{StoreErr}
use Rattle.undo_journal.specs.StoreCalls.{Changes, OnlyReads}
use Rattle.undo_journal.specs.Commits.{CommitsByGate, TurnsTo}
use Rattle.undo_journal.specs.Memory.{Memory, committed, IsReady}
use Rattle.card_model.specs.Requests.{append_record}
use Rattle.card_model.specs.declared.requests.Target.{Target}
use Rattle.ef_body.specs.declared.cyclic.Cyclic.{Cyclic as Ring}
use Rattle.ef_body.specs.declared.layout.TheConstants.{RECORD_WRITES}
use Rattle.ef_body.specs.Bodies.{cyclic_body_records, IsCyclic}
use Rattle.command_base.specs.declared.current.Current.{Current}
use Rattle.command_base.specs.declared.target_file.Need.{Need}
use Rattle.command_base.specs.declared.target_file.AcceptedStructure.TheVariants.{Records}
use Rattle.content_commands.specs.declared.record_file.RecordFile.{RecordFile}
use Rattle.content_commands.specs.declared.record_file.Room.{Room}
use Rattle.command_base.specs.Served.{Executes}
use Rattle.command_base.specs.Standing.{IsCard}
use Rattle.content_commands.specs.RecordParts.{appended_in, is_full_in, number_added_in, ring_room, unadded, wraps_room}
use Rattle.command_base.specs.Working.{space_in, table_in, IsCurrent}
use Rattle.command_base.specs.CurrentFiles.{pointing_from}
use Rattle.content_commands.specs.RecordParts.{IsRecordFile, RingBecomes}
use Rattle.content_commands.proofs.RecordBodies.{appended-fits, count-few}
use Rattle.content_commands.proofs.RecordWrites.{PutsRecords, append-commits, append-decided, append-effect}
use Rattle.content_commands.proofs.RecordWrites.{records-made, records-space, records-torn, verdict-free}
use Rattle.content_commands.proofs.RecordSteps.{agree}

-- a file that APPEND RECORD adds the bytes to, and where they go: nothing refuses them
pub record IsAppendable (m : List ℕ) (x : Current) (target : Target) (bytes : List ℕ) (file : RecordFile) (room : Room)
    : Type 0 where
  pub named : IsRecordFile m x target (record { structure = Records; bit = Append }) file
  pub ring_is : ring_room room ≡ file.ring
  pub wraps_is : wraps_room room ≡ file.wraps
  pub taken : unadded file bytes ≡ None

-- so it is where room was looked for
pub is-appendable : {m : List ℕ} {x : Current} {target : Target} {file : RecordFile} (bytes : List ℕ) (room : Room)
    → IsRecordFile m x target (record { structure = Records; bit = Append }) file → ring_room room ≡ file.ring
    → wraps_room room ≡ file.wraps → None ≡ unadded file bytes → IsAppendable m x target bytes file room
is-appendable bytes room named ring wraps none =
    record { named = named; ring_is = ring; wraps_is = wraps; taken = sym none }

module _ (old mid new : Memory) (ready : IsReady old) (words : IsCard (committed old)) (x : Current)
    (current : IsCurrent (table_in old) x) (reads : OnlyReads old mid) where
  abbrev m : List ℕ
  m = committed old

  sized : IsMemory m
  sized = ready.usable.committed_size

  same : committed mid ≡ m
  same = reads.keeps.committed_words

  module _ (target : Target) (bytes : List ℕ) (file : RecordFile) (room : Room)
      (found : IsAppendable m x target bytes file room) where
    stands : IsCyclic m file.ring
    stands = (agree m sized words x target _ file found.named).stands

    free : (is_full_in file ≡ false) × ((length bytes == file.ring.record_length) ≡ true)
    free = verdict-free (is_full_in file) NO_ROOM (length bytes == file.ring.record_length) found.taken

    pub appended-body : IsCyclic (committed mid) (ring_room room)
    appended-body = subst (λ (l : List ℕ). IsCyclic l (ring_room room)) (sym same)
        (subst (λ (r : Ring). IsCyclic m r) (sym found.ring_is) stands)

    pub appended-long : length bytes ≡ (ring_room room).record_length
    appended-long = eqb-true _ _ free.1 ∙ ap (λ (r : Ring). r.record_length) (sym found.ring_is)

    pub appended-few : file.ring.records ≤ 254
    appended-few = count-few m file.ring stands

    abbrev records : List (List ℕ)
    records = appended_in file.wraps file.ring.capacity (cyclic_body_records m file.ring) bytes

    abbrev need : Need
    need = record { structure = Records; bit = Append }

    puts : PutsRecords old x target need file (append_record target bytes) records
    puts = record {
      found = found.named;
      none = append-decided m sized words x target _ file found.named bytes found.named.named.unrefused ∙ found.taken;
      commits_is = append-commits m sized words x target _ file found.named bytes found.named.named.unrefused;
      few = appended-fits m file.ring stands file.wraps free.0 bytes;
      most = refl;
      unshown = refl;
    }

    abbrev put : List (List ℕ)
    put = appended_in (wraps_room room) (ring_room room).capacity (cyclic_body_records (committed mid) (ring_room room))
        bytes

    put-are : put ≡ records
    put-are =
        let wraps = found.wraps_is in
        let ring = found.ring_is in
        let words_same = same in
        λ i. appended_in (wraps i) (ring i).capacity (cyclic_body_records (words_same i) (ring i)) bytes

    module _ (any_exit : (committed new ≡ committed mid) ⊎ RingBecomes (wraps_room room) (committed mid)
        (ring_room room) put (committed new)) (by_gate : CommitsByGate mid new)
        (turned : TurnsTo (RingBecomes (wraps_room room) (committed mid) (ring_room room) put) mid new)
        (told : Option StoreErr)
        (changes : Changes RECORD_WRITES mid new told) where
      pub appended-torn : (r : Result Sw StoreErr) (error : StoreErr) → IsErrAnd r (λ f. f ≡ error) → told ≡ Some error
          → Executes (append_record target bytes) old x new x [] r
      appended-torn =
          records-torn old mid new ready words x current target need file _ records puts reads (wraps_room room)
          found.wraps_is
          (ring_room room) found.ring_is put put-are any_exit by_gate turned told changes [] (omega arith)

      pub appended-done : RingBecomes (wraps_room room) (committed mid) (ring_room room) put (committed new) →
          IsReady new
          → (number : ℕ) → number ≡ number_added_in file
          → Executes (append_record target bytes) old x new
          (pointing_from x target file.number (Some number)) [] (Ok DONE)
      appended-done becomes ready_now number number_is =
          subst (λ (k : ℕ). Executes (append_record target bytes) old x new (pointing_from x target file.number (Some
          k))
          [] (Ok DONE)) (sym number_is)
          (records-made old mid new ready words x current target need file _ records puts reads (wraps_room room)
          found.wraps_is (ring_room room) found.ring_is put put-are any_exit by_gate turned told changes becomes
          ready_now
          (Some (number_added_in file)) [] (omega arith)
          (append-effect m sized words x target _ file found.named bytes found.named.named.unrefused))

      pub appended-space : RingBecomes (wraps_room room) (committed mid) (ring_room room) put (committed new)
          → space_in new ≡ space_in old
      appended-space =
          records-space old mid new ready words x current target need file _ records puts reads (wraps_room room)
          found.wraps_is (ring_room room) found.ring_is put put-are any_exit by_gate turned told changes
