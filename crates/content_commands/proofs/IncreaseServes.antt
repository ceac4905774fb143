-- What INCREASE leaves: first it only reads, up to the store `mid`, and then, where nothing refused it, it writes.
use Rattle.std.proofs.Common.{◌≡◌, ◌⊎◌, ◌≤◌, ◌+◌, ◌++◌, ℕ, true, false, List, [], length, Option}
use Rattle.std.proofs.Common.{None, Some, Result, Ok, refl, sym, ◌∙◌, ap, subst, arith}
use Rattle.std.specs.Result.{IsErrAnd}
use Rattle.nvm_board.specs.Facts.{IsMemory}
use Rattle.card_model.specs.declared.access_mode.AccessBit.TheVariants.{Update}
use Rattle.card_model.specs.declared.status.Sw.{Sw}
use Rattle.card_model.specs.declared.status.TheConstants.Sw.{DONE}
use Rattle.undo_journal.specs.declared.error.StoreErr.{StoreErr}
use Rattle.undo_journal.specs.StoreCalls.{Changes, OnlyReads, Reads}
use Rattle.undo_journal.specs.Commits.{CommitsByGate, TurnsTo}
use Rattle.undo_journal.specs.Memory.{Memory, committed, IsReady}
use Rattle.undo_journal.specs.laws.Calls.{reads_then}
use Rattle.card_model.specs.Requests.{increase}
use Rattle.card_model.specs.declared.requests.Target.TheVariants as target
use Rattle.ef_body.specs.declared.cyclic.Cyclic.{Cyclic as Ring}
use Rattle.ef_body.specs.declared.slot.RecordSlot.{RecordSlot}
use Rattle.ef_body.specs.declared.layout.TheConstants.{RECORD_WRITES}
use Rattle.ef_body.specs.Bodies.{cyclic_body_records, IsCyclic}
use Rattle.ef_body.specs.BodyChanges.{CyclicBecomes}
use Rattle.ef_body.specs.RingCalls.{ReceivesSum}
use Rattle.card_model.specs.RecordLists.{spelled, front, raised_number}
use Rattle.card_model.specs.laws.Spelling.{length-spelled}
use Rattle.ef_contents.specs.Refusals.{unraised}
use Rattle.command_base.specs.declared.current.Current.{Current}
use Rattle.command_base.specs.declared.target_file.Need.{Need}
use Rattle.command_base.specs.declared.target_file.AcceptedStructure.TheVariants.{Cyclic as Cyclic_file}
use Rattle.content_commands.specs.declared.record_file.RecordFile.{RecordFile}
use Rattle.card_model.specs.Guards.{target_path, asks_less, given, right_length}
use Rattle.card_model.specs.Behaviours.{refused_by, outcome}
use Rattle.card_model.specs.RecordCommands.{pointing, with_records_at}
use Rattle.command_base.specs.Served.{Executes}
use Rattle.command_base.specs.InPlace.{ExecutesInPlace}
use Rattle.card_model.specs.Steps.{refusals_of}
use Rattle.command_base.specs.Stops.{failure_of, reply, IfRefused}
use Rattle.card_model.specs.laws.Guarding.{served-refused}
use Rattle.command_base.specs.declared.stop.Stop.{Stop}
use Rattle.content_commands.specs.RecordParts.{IsRecordFile}
use Rattle.command_base.specs.Working.{card_in, session_in, space_in, IsKept}
use Rattle.command_base.specs.CurrentFiles.{pointing_from}
use Rattle.content_commands.proofs.RecordBodies.{replaced-fits}
use Rattle.command_base.specs.laws.Halting.{halted-in-place}
use Rattle.content_commands.proofs.RecordSums.{increase-commits, increase-effect, increase-free, increase-less}
use Rattle.content_commands.proofs.RecordSums.{short-fits, too_long}
use Rattle.content_commands.proofs.RecordWrites.{records-made, records-space, records-torn}
use Rattle.content_commands.proofs.RecordWrites.{PutsRecords}
use Rattle.content_commands.proofs.RecordSteps.{agree}

-- what stops INCREASE before it writes
pub increase-halted : {old new : Memory} {x : Current} → IsKept old x → (sent : List ℕ) (expected : Option ℕ)
    (text : List ℕ) → text ≡ [] → (r : Result Sw Stop) (stop : Stop) → IsErrAnd r (λ f. f ≡ stop)
    → Reads old new (failure_of stop) → IfRefused stop (λ status.
    refused_by (refusals_of (card_in old) (session_in old x) (increase sent expected)) ≡ Some status)
    → ExecutesInPlace (increase sent expected) old x new x text (reply r)
increase-halted {old} {new} {x} kept sent expected text empty r stop is reads =
    let request = increase sent expected in
    halted-in-place request old x new (λ _. tt) kept.card kept.current text empty r stop is reads _
    (λ status. served-refused (card_in old) (session_in old x) request status)

abbrev need : Need
need = record { structure = Cyclic_file; bit = Update }

-- Record 1 of a file that INCREASE is for is raised to this sum: the sent number isn't too long, there is such a
-- record, and the sum is as long. So far INCREASE only reads, up to the store `mid`.
pub record IsRaised (old mid : Memory) (x : Current) (sent : List ℕ) (file : RecordFile) (newest : RecordSlot)
    (sum : List ℕ) : Type 0 where
  pub reads : OnlyReads old mid
  pub named : IsRecordFile (committed old) x target.Current need file
  pub short : too_long file.ring.record_length (length sent) ≡ false
  pub ring_is : newest.ring ≡ file.ring
  pub raises : unraised file.ring.record_length (cyclic_body_records (committed old) file.ring) sent ≡ None
  pub sum_is : sum ≡ spelled file.ring.record_length (raised_number (cyclic_body_records
      (committed old) file.ring) sent)

-- so it is, by what was read of the file, and then of its record 1
pub is-raised : {old looked mid : Memory} {x : Current} {file : RecordFile} {newest : RecordSlot} {sum : List ℕ}
    (sent : List ℕ) → OnlyReads old looked → IsRecordFile (committed old) x target.Current need file
    → too_long file.ring.record_length (length sent) ≡ false
    → OnlyReads looked mid → (newest.ring ≡ file.ring) × (newest.number ≡ 1)
    → ReceivesSum file.ring.record_length (cyclic_body_records (committed looked) file.ring) sent sum (Ok newest)
    → IsRaised old mid x sent file newest sum
is-raised {old} {looked} {mid} {x} {file} {newest} {sum} sent first named short rest found receives =
    let same = first.keeps.committed_words in
    record {
      reads = reads_then old looked mid first rest;
      named = named;
      short = short;
      ring_is = found.0;
      raises = ap (λ (l : List ℕ). unraised file.ring.record_length (cyclic_body_records l file.ring) sent) (sym same)
          ∙ receives.refusal;
      sum_is = receives.bytes ∙ ap (λ (l : List ℕ).
          spelled file.ring.record_length (raised_number (cyclic_body_records l file.ring) sent)) same;
    }

module _ {old mid : Memory} {x : Current} (kept : IsKept old x) {sent : List ℕ} {file : RecordFile}
    {newest : RecordSlot} {sum : List ℕ} (found : IsRaised old mid x sent file newest sum) where
  abbrev m : List ℕ
  m = committed old

  sized : IsMemory m
  sized = kept.ready.usable.committed_size

  same : committed mid ≡ m
  same = found.reads.keeps.committed_words

  stands : IsCyclic m file.ring
  stands = (agree m sized kept.card x target.Current _ file found.named).stands

  pub increased-body : IsCyclic (committed mid) newest.ring
  increased-body = subst (λ (l : List ℕ). IsCyclic l newest.ring) (sym same)
      (subst (λ (r : Ring). IsCyclic m r) (sym found.ring_is) stands)

  sum-long : length sum ≡ file.ring.record_length
  sum-long = ap (λ (l : List ℕ). length l) found.sum_is ∙ length-spelled file.ring.record_length _

  pub increased-long : (bytes : List ℕ) → bytes ≡ sum → length bytes ≡ newest.ring.record_length
  increased-long bytes bytes_are = ap (λ (l : List ℕ). length l) bytes_are ∙ sum-long
      ∙ ap (λ (r : Ring). r.record_length) (sym found.ring_is)

  pub increased-short : length sum + length sent ≤ 256
  increased-short =
      let long = sum-long in
      let fits = short-fits file.ring.record_length (length sent) found.short in omega (arith, long, fits)

  -- the file is a cyclic one
  wraps : true ≡ file.wraps
  wraps = sym (ap (λ (f : RecordFile). f.wraps) found.named.file_is ∙ found.named.named.structure)

  abbrev held : List (List ℕ)
  held = cyclic_body_records m file.ring

  abbrev new_record : List ℕ
  new_record = spelled file.ring.record_length (raised_number held sent)

  abbrev records : List (List ℕ)
  records = front (length held) new_record held

  -- what INCREASE answers
  module _ (expected : Option ℕ) (response : List ℕ) (response_is : response ≡ sum ++ sent) where
    answer-is : response ≡ new_record ++ sent
    answer-is = response_is ∙ ap (λ (l : List ℕ). l ++ sent) found.sum_is

    pub increased-less : asks_less expected response ≡ true
        → refused_by (refusals_of (card_in old) (session_in old x) (increase sent expected))
        ≡ Some (right_length response)
    increased-less less =
        increase-less m sized kept.card x _ file found.named sent expected found.named.named.unrefused found.short
        found.raises (sym (ap (asks_less expected) answer-is) ∙ less)
        ∙ ap (λ (l : List ℕ). Some (right_length l)) (sym answer-is)

    module _ (enough : asks_less expected response ≡ false) (bytes : List ℕ) (bytes_are : bytes ≡ sum) where
      puts : PutsRecords old x target.Current need file (increase sent expected) records
      puts = record {
        found = found.named;
        none = increase-free m sized kept.card x _ file found.named sent expected found.named.named.unrefused
            found.short found.raises (sym (ap (asks_less expected) answer-is) ∙ enough);
        commits_is = increase-commits m sized kept.card x _ file found.named sent expected
            found.named.named.unrefused;
        few = replaced-fits m file.ring stands true 1 new_record;
        most = refl;
        unshown = refl;
      }

      abbrev put : List (List ℕ)
      put =
          front (length (cyclic_body_records (committed mid) newest.ring)) bytes
          (cyclic_body_records (committed mid) newest.ring)

      put-are : put ≡ records
      put-are =
          let ring = found.ring_is in
          let words_same = same in
          let new_is = bytes_are ∙ found.sum_is in
          λ i. front (length (cyclic_body_records (words_same i) (ring i))) (new_is i)
          (cyclic_body_records (words_same i) (ring i))

      module _ (new : Memory)
          (any_exit : (committed new ≡ committed mid) ⊎ CyclicBecomes (committed mid) newest.ring put (committed new))
          (by_gate : CommitsByGate mid new)
          (turned : TurnsTo (CyclicBecomes (committed mid) newest.ring put) mid new)
          (told : Option StoreErr) (changes : Changes RECORD_WRITES mid new told)
        where
          pub increased-torn : (text : List ℕ) → text ≡ [] → (r : Result Sw StoreErr) (error : StoreErr)
              → IsErrAnd r (λ f. f ≡ error) → told ≡ Some error → Executes (increase sent expected) old x new x text r
          increased-torn text empty =
              let none_yet : length text ≡ 0 = ap (λ (l : List ℕ). length l) empty in
              records-torn old mid new kept.ready kept.card x kept.current target.Current need file _ records puts
              found.reads true wraps newest.ring found.ring_is put put-are any_exit by_gate turned told changes text
              (omega (arith, none_yet))

          pub increased-done : CyclicBecomes (committed mid) newest.ring put (committed new) → IsReady new
              → (text : List ℕ) → text ≡ given expected response → length text ≤ 256
              → Executes (increase sent expected) old x new
              (pointing_from x target.Current file.number (Some 1)) text (Ok DONE)
          increased-done becomes ready text text_is room =
              let effect_is =
              increase-effect m sized kept.card x _ file found.named sent expected found.named.named.unrefused
              ∙ ap (λ (t : List ℕ). outcome (with_records_at (card_in old) (target_path (card_in old)
              (session_in old x) target.Current) records) (pointing (session_in old x) target.Current
              (target_path (card_in old) (session_in old x) target.Current) (Some 1)) t DONE)
              (sym (text_is ∙ ap (given expected) answer-is)) in
              records-made old mid new kept.ready kept.card x kept.current target.Current need file _ records puts
              found.reads true wraps newest.ring found.ring_is put put-are any_exit by_gate turned told changes becomes
              ready
              (Some 1) text room effect_is

          pub increased-space : CyclicBecomes (committed mid) newest.ring put (committed new)
              → space_in new ≡ space_in old
          increased-space =
              records-space old mid new kept.ready kept.card x kept.current target.Current need file _ records puts
              found.reads true wraps newest.ring found.ring_is put put-are any_exit by_gate turned told changes
