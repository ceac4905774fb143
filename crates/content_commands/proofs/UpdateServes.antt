-- What UPDATE RECORD leaves, where nothing refuses it: first it only reads, up to the store `mid`, and then it writes.
use Rattle.std.proofs.Common.{◌≡◌, ◌⊎◌, ◌≤◌, ℕ, List, [], length, Option, Some, None, Result, Ok, if◌then◌else◌, refl}
use Rattle.std.proofs.Common.{sym, ◌∙◌, ◌==◌, not, ap, subst, arith}
use Rattle.std.proofs.lemmas.Bool.{eqb-true}
use Rattle.std.specs.Result.{IsErrAnd}
use Rattle.nvm_board.specs.Facts.{IsMemory}
use Rattle.card_model.specs.declared.access_mode.AccessBit.TheVariants.{Update}
use Rattle.card_model.specs.declared.status.Sw.{Sw}
use Rattle.card_model.specs.declared.status.TheConstants.Sw.{DONE, RECORD_NOT_FOUND}
use Rattle.undo_journal.specs.declared.error.StoreErr.{StoreErr}
use Rattle.undo_journal.specs.StoreCalls.{Changes, OnlyReads}
use Rattle.undo_journal.specs.Commits.{CommitsByGate, TurnsTo}
use Rattle.undo_journal.specs.Memory.{Memory, committed, IsReady}
use Rattle.card_model.specs.Requests.{update_record}
use Rattle.card_model.specs.declared.requests.Target.{Target}
use Rattle.card_model.specs.declared.requests.RecordChoice.{RecordChoice}
use Rattle.ef_body.specs.declared.cyclic.Cyclic.{Cyclic as Ring}
use Rattle.ef_body.specs.declared.slot.RecordSlot.{RecordSlot}
use Rattle.ef_body.specs.declared.layout.TheConstants.{RECORD_WRITES}
use Rattle.ef_body.specs.Bodies.{cyclic_body_records, IsCyclic}
use Rattle.file_tree.specs.Table.{table}
use Rattle.command_base.specs.declared.current.Current.{Current}
use Rattle.command_base.specs.declared.target_file.Need.{Need}
use Rattle.content_commands.specs.declared.record_file.RecordFile.{RecordFile}
use Rattle.card_model.specs.Guards.{file_refusals}
use Rattle.card_model.specs.Behaviours.{refused_by}
use Rattle.card_model.specs.RecordCommands.{pointer_after, replaces}
use Rattle.command_base.specs.Served.{Executes}
use Rattle.command_base.specs.Standing.{card_of, IsCard}
use Rattle.content_commands.specs.RecordParts.{has_in, number_replaced_in, replaced_in, unreplaced, IsRecordFile}
use Rattle.command_base.specs.Working.{session_of, space_in, table_in, IsCurrent}
use Rattle.command_base.specs.CurrentFiles.{pointer_from, pointing_from}
use Rattle.content_commands.specs.RecordParts.{need_replacing, RingBecomes}
use Rattle.content_commands.proofs.RecordBodies.{replaced-fits, slot-few}
use Rattle.content_commands.proofs.RecordWrites.{PutsRecords, records-made, records-space, records-torn}
use Rattle.content_commands.proofs.RecordWrites.{replaces-is, update-commits, update-decided, update-effect}
use Rattle.content_commands.proofs.RecordWrites.{verdict-free}
use Rattle.content_commands.proofs.RecordSteps.{agree}

-- a record that UPDATE RECORD replaces: it is there, and nothing refuses the bytes in its place
pub record IsReplaceable (m : List ℕ) (x : Current) (target : Target) (choice : RecordChoice) (bytes : List ℕ)
    (file : RecordFile) (slot : RecordSlot) : Type 0 where
  pub named : IsRecordFile m x target (need_replacing choice) file
  pub ring_is : slot.ring ≡ file.ring
  pub number_is : slot.number ≡ number_replaced_in file (pointer_from x target) choice
  pub taken : unreplaced file (number_replaced_in file (pointer_from x target) choice) bytes ≡ None

-- so it is where it was looked for from the pointer on
pub is-replaceable : {m : List ℕ} {x : Current} {target : Target} {need : Need} {file : RecordFile}
    {pointer : Option ℕ} (choice : RecordChoice) (bytes : List ℕ) (slot : RecordSlot) → need ≡ need_replacing choice
    → IsRecordFile m x target need file → pointer ≡ pointer_from x target
    → (slot.ring ≡ file.ring) × (slot.number ≡ number_replaced_in file pointer choice)
    → None ≡ unreplaced file (number_replaced_in file pointer choice) bytes
    → IsReplaceable m x target choice bytes file slot
is-replaceable {m} {x} {target} {need} {file} {pointer} choice bytes slot need_is named pointer_is found none =
    record {
      named = subst (λ (n : Need). IsRecordFile m x target n file) need_is named;
      ring_is = found.0;
      number_is = found.1 ∙ ap (λ (p : Option ℕ). number_replaced_in file p choice) pointer_is;
      taken = ap (λ (p : Option ℕ). unreplaced file (number_replaced_in file p choice) bytes) (sym pointer_is)
          ∙ sym none;
    }

module _ (old mid new : Memory) (ready : IsReady old) (words : IsCard (committed old)) (x : Current)
    (current : IsCurrent (table_in old) x) (reads : OnlyReads old mid) where
  abbrev m : List ℕ
  m = committed old

  sized : IsMemory m
  sized = ready.usable.committed_size

  same : committed mid ≡ m
  same = reads.keeps.committed_words

  module _ (target : Target) (choice : RecordChoice) (bytes : List ℕ) (file : RecordFile) (slot : RecordSlot)
      (found : IsReplaceable m x target choice bytes file slot) where
    stands : IsCyclic m slot.ring
    stands = subst (λ (r : Ring). IsCyclic m r) (sym found.ring_is)
        (agree m sized words x target _ file found.named).stands

    abbrev k : ℕ
    k = number_replaced_in file (pointer_from x target) choice

    pub replaced-body : IsCyclic (committed mid) slot.ring
    replaced-body = subst (λ (l : List ℕ). IsCyclic l slot.ring) (sym same) stands

    pub replaced-long : length bytes ≡ slot.ring.record_length
    replaced-long = eqb-true _ _ (verdict-free (not (has_in file.ring k)) RECORD_NOT_FOUND
        (length bytes == file.ring.record_length) found.taken).1
        ∙ ap (λ (r : Ring). r.record_length) (sym found.ring_is)

    pub replaced-few : slot.number ≤ 255
    replaced-few = let few = slot-few m slot stands in omega (arith, few)

    abbrev records : List (List ℕ)
    records = replaced_in file.wraps (cyclic_body_records m file.ring) k bytes

    free : refused_by (file_refusals (card_of m) (session_of (table m) x) target (replaces choice) Update) ≡ None
    free = sym (replaces-is (card_of m) (session_of (table m) x) target choice) ∙ found.named.named.unrefused

    puts : PutsRecords old x target (need_replacing choice) file (update_record target choice bytes) records
    puts = record {
      found = found.named;
      none = update-decided m sized words x target _ file found.named bytes choice free _ refl ∙ found.taken;
      commits_is = update-commits m sized words x target _ file found.named bytes choice free;
      few = replaced-fits m file.ring (agree m sized words x target _ file found.named).stands file.wraps k bytes;
      most = refl;
      unshown = refl;
    }

    abbrev put : List (List ℕ)
    put = replaced_in file.wraps (cyclic_body_records (committed mid) slot.ring) slot.number bytes

    put-are : put ≡ records
    put-are = λ i. replaced_in file.wraps (cyclic_body_records (same i) (found.ring_is i)) (found.number_is i) bytes

    module _ (any_exit : (committed new ≡ committed mid) ⊎ RingBecomes file.wraps (committed mid) slot.ring put
        (committed new)) (by_gate : CommitsByGate mid new)
        (turned : TurnsTo (RingBecomes file.wraps (committed mid) slot.ring put) mid new)
        (told : Option StoreErr)
        (changes : Changes RECORD_WRITES mid new told) where
      pub replaced-torn : (r : Result Sw StoreErr) (error : StoreErr) → IsErrAnd r (λ f. f ≡ error) → told ≡ Some error
          → Executes (update_record target choice bytes) old x new x [] r
      replaced-torn =
          records-torn old mid new ready words x current target _ file _ records puts reads file.wraps refl slot.ring
          found.ring_is put put-are any_exit by_gate turned told changes [] (omega arith)

      pub replaced-done : RingBecomes file.wraps (committed mid) slot.ring put (committed new) → IsReady new
          → (pointer : Option ℕ)
          → pointer ≡ (if file.wraps then Some 1 else pointer_after (pointer_from x target) choice slot.number)
          → Executes (update_record target choice bytes) old x new
          (pointing_from x target file.number pointer) [] (Ok DONE)
      replaced-done becomes ready_now pointer pointer_is =
          let after = if file.wraps then Some 1 else pointer_after (pointer_from x target) choice k in
          let is : pointer ≡ after = pointer_is ∙ (λ i. if file.wraps then Some 1 else pointer_after (pointer_from x
          target) choice (found.number_is i)) in
          subst (λ (p : Option ℕ). Executes (update_record target choice bytes) old x new (pointing_from x target
          file.number
          p) [] (Ok DONE)) (sym is)
          (records-made old mid new ready words x current target _ file _ records puts reads file.wraps refl
          slot.ring
          found.ring_is put put-are any_exit by_gate turned told changes becomes ready_now after [] (omega arith)
          (update-effect m sized words x target _ file found.named bytes choice free))

      pub replaced-space : RingBecomes file.wraps (committed mid) slot.ring put (committed new) → space_in new ≡
          space_in old
      replaced-space =
          records-space old mid new ready words x current target _ file _ records puts reads file.wraps refl
          slot.ring
          found.ring_is put put-are any_exit by_gate turned told changes
