use Rattle.std.proofs.Common.{◌≡◌, ◌≤◌, lit<, ℕ, List, [], length, length-take, refl, sym, not, ◌==◌, ◌&&◌, ◌∙◌, ap}
use Rattle.std.proofs.Common.{subst, arith}
use Rattle.card_model.specs.declared.status.TheConstants.Sw.{DONE}
use Rattle.undo_journal.specs.Memory.{committed}
use Rattle.undo_journal.specs.laws.Calls.{reads_then}
use Rattle.undo_journal.specs.laws.Told.{reads_on}
use Rattle.nvm_board.specs.Facts.{IsMemory}
use Rattle.block_chain.specs.ChainChanges.{AppendsSome}
use Rattle.card_model.specs.declared.status.Sw.{Sw}
use Rattle.card_model.specs.StatusWords.{length_status}
use Rattle.card_model.specs.declared.requests.RecordChoice.{RecordChoice}
use Rattle.card_model.specs.declared.requests.Target.{Target}
use Rattle.card_model.specs.Requests.{read_record}
use Rattle.ef_body.specs.Bodies.{cyclic_body_records}
use Rattle.card_model.specs.RecordLists.{record_of}
use Rattle.command_base.specs.declared.current.Current.{Current}
use Rattle.command_base.specs.declared.stop.Stop.TheVariants.{Refused}
use Rattle.command_base.specs.Standing.{IsCard}
use Rattle.card_model.specs.Guards.{right_length}
use Rattle.card_model.specs.RecordCommands.{pointer_after}
use Rattle.command_base.specs.Working.{card_in, session_in, table_in, IsCurrent}
use Rattle.command_base.specs.CurrentFiles.{pointer_from, pointing_from}
use Rattle.content_commands.specs.RecordParts.{chosen_in}
use Rattle.content_commands.specs.declared.record_file.RecordFile.{RecordFile}
use Rattle.ef_body.specs.declared.cyclic.Cyclic.{Cyclic as Ring}
use Rattle.ef_body.specs.declared.slot.RecordSlot.{RecordSlot}
use Rattle.card_model.specs.Behaviours.{refused, outcome}
use Rattle.content_commands.proofs.RecordBodies.{slot-few, slot-long}
use Rattle.content_commands.proofs.RecordSteps.{choice-barred, choice-gone, chosen-body, chosen-has, current-is}
use Rattle.content_commands.proofs.RecordSteps.{declined-empty, is-chosen, read-other, IsChosen, read-refused}
use Rattle.content_commands.proofs.RecordSteps.{read-whole}
use Rattle.command_base.specs.laws.Executes.{answered, halted, handed}
use Rattle.command_base.specs.laws.Stopping.{reply-failed}
use Rattle.content_commands.proofs.records.read_record.Goals as goal

-- the length of the record that was found is that of the file
record_long : (m : List ℕ) → IsMemory m → IsCard m → (x : Current) (target : Target) (choice : RecordChoice)
    (file : RecordFile) (slot : RecordSlot) → IsChosen m x target choice file slot
    → length (record_of (cyclic_body_records m file.ring) (chosen_in file (pointer_from x target) choice))
    ≡ file.ring.record_length
record_long m sized card x target choice file slot found =
    (λ i. length (record_of (cyclic_body_records m (sym found.ring_is i)) (sym found.number_is i)))
    ∙ slot-long m slot sized (chosen-body m sized card x target choice file slot found m refl)
    ∙ ap (λ (r : Ring). r.record_length) found.ring_is

-- so the refusal by Le is that of the record
other_status : (long n : ℕ) (text : List ℕ) (status : Sw) → length text ≡ long → n ≡ long → status ≡ length_status n
    → right_length text ≡ status
other_status long n text status is same told = ap length_status (is ∙ sym same) ∙ sym told

-- a record fits into the buffer of the answer, and its number in a byte
fits_answer : (long : ℕ) → long ≤ 255 → long ≤ 258
fits_answer long short = omega (arith, short)

fits_byte : (number : ℕ) → number ≤ 254 → number ≤ 255
fits_byte number few = omega (arith, few)

-- what was read is as long as the records of the ring
as_long : (read ring : ℕ) → read ≡ ring → ring ≤ 255 → read ≤ 255
as_long read ring same short = omega (arith, same, short)

short_answer : (read ring file : ℕ) → read ≡ file → ring ≤ 255 → ring ≡ file → read ≤ 256
short_answer read ring file size short same = omega (arith, size, short, same)

pub read-requires : goal.read-requires
read-requires g c =
    let found = is-chosen c.args.choice c.in_ok-slot.slot c.in_ok-file.ensures.told
    c.pointer_at-pointer.ensures c.in_ok-slot.ensures.found in
    let stands = chosen-body (committed c.args.store.now) c.requires.target.kept.ready.usable.committed_size
    c.requires.target.kept.card
    c.args.current.now c.args.target _ _ _ found _ c.find_records.ensures.store.only.keeps.committed_words in
    let room = fits_answer c.in_ok-slot.slot.ring.record_length stands.slots.short in
    (lit< tt, (record { ready = c.in_ok-file.ensures.store.ready; body = stands }, room))

pub returns-then-is_other_length : goal.returns-then-is_other_length
returns-then-is_other_length g c =
    let old = c.args.store.now in
    let x = c.args.current.now in
    let file = c.in_ok-file.file in
    let sized = c.requires.target.kept.ready.usable.committed_size in
    let found = is-chosen c.args.choice c.in_ok-slot.slot c.in_ok-file.ensures.told
    c.pointer_at-pointer.ensures c.in_ok-slot.ensures.found in
    let has = chosen-has _ _ _ _ _ _ found in
    let long = record_long (committed old) sized c.requires.target.kept.card x c.args.target c.args.choice file _ found
    in
    let other = ap (λ (n : ℕ). not (c.args.expected == 0) && not (c.args.expected == n)) long
    ∙ sym c.is_other_length.ensures ∙ c.if-is_other_length.true in
    let status = other_status file.ring.record_length c.from.result _ c.right_length.result long c.from.ensures
    c.right_length.ensures in
    declined-empty (read_record c.args.target c.args.choice c.args.expected) old x c.find_records.new.store
    c.clear.new.self.items c.clear.ensures (λ _. tt) c.requires.target.kept.card c.right_length.result
    c.find_records.ensures.store.only c.in_ok-file.ensures.store.ready c.requires.target.kept.current
    (read-other (committed old) sized c.requires.target.kept.card x c.args.target _
    file found.named found.named.named.unrefused c.args.choice c.args.expected has other
    ∙ ap (refused (card_in old) (session_in old x)) status)

pub pointer_after-after-requires : goal.pointer_after-after-requires
pointer_after-after-requires g c =
    let found = is-chosen c.args.choice c.in_ok-slot.slot c.in_ok-file.ensures.told
    c.pointer_at-pointer.ensures c.in_ok-slot.ensures.found in
    let stands = chosen-body (committed c.args.store.now) c.requires.target.kept.ready.usable.committed_size
    c.requires.target.kept.card
    c.args.current.now c.args.target _ _ _ found _ refl in
    fits_byte c.in_ok-slot.slot.number (slot-few (committed c.args.store.now) c.in_ok-slot.slot stands)

pub returns : goal.returns
returns g c =
    let old = c.args.store.now in
    let x = c.args.current.now in
    let file = c.in_ok-file.file in
    let e = file.number in
    let sized = c.requires.target.kept.ready.usable.committed_size in
    let same = c.find_records.ensures.store.only.keeps.committed_words in
    let found = is-chosen c.args.choice c.in_ok-slot.slot c.in_ok-file.ensures.told
    c.pointer_at-pointer.ensures c.in_ok-slot.ensures.found in
    let number = found.number_is in
    let has = chosen-has _ _ _ _ _ _ found in
    let text : c.read.new.bytes.items ≡ record_of (cyclic_body_records (committed old) file.ring) (chosen_in file
    (pointer_from x
    c.args.target) c.args.choice) =
    c.in_ok-read.ensures.bytes ∙ (λ i. record_of (cyclic_body_records (same i) (found.ring_is i)) (number i)) in
    let long = record_long (committed old) sized c.requires.target.kept.card x c.args.target c.args.choice file _ found
    in
    let whole = ap (λ (n : ℕ). not (c.args.expected == 0) && not (c.args.expected == n)) long
    ∙ sym c.is_other_length.ensures ∙ c.if-is_other_length.false in
    let pointer : c.pointer_after-after.result ≡ pointer_after (pointer_from x c.args.target) c.args.choice
    (chosen_in file
    (pointer_from x c.args.target) c.args.choice) =
    c.pointer_after-after.ensures
    ∙ (λ i. pointer_after (c.pointer_at-pointer.ensures i) c.args.choice (number i)) in
    let y_is : c.pointing.result ≡ pointing_from x c.args.target e (pointer_after (pointer_from x c.args.target)
    c.args.choice (chosen_in file (pointer_from x c.args.target) c.args.choice)) =
    c.pointing.ensures ∙ ap (pointing_from x c.args.target e) pointer in
    let size = ap (λ (l : List ℕ). length l) text ∙ long in
    let short = (chosen-body (committed old) sized c.requires.target.kept.card x c.args.target _ _ _ found _
    refl).slots.short
    in
    let same_ring = ap (λ (r : Ring). r.record_length) found.ring_is in
    let room = short_answer (length c.read.new.bytes.items) c.in_ok-slot.slot.ring.record_length
    file.ring.record_length size short same_ring in
    let current = current-is (committed old) sized c.requires.target.kept.card x c.args.target _ file found.named
    c.requires.target.kept.current
    (pointer_after (pointer_from x c.args.target) c.args.choice (chosen_in file (pointer_from x c.args.target)
    c.args.choice)) in
    answered (read_record c.args.target c.args.choice c.args.expected) old x
    c.read.new.store (λ _. tt) c.requires.target.kept.card c.pointing.result c.read.new.bytes.items DONE
    (reads_then old c.find_records.new.store c.read.new.store c.find_records.ensures.store.only
    c.read.ensures.store.only) c.in_ok-read.ensures.store.ready
    (subst (λ (y : Current). IsCurrent (table_in old) y) (sym y_is) current)
    room
    (read-whole (committed old) sized c.requires.target.kept.card x c.args.target _ file found.named
    found.named.named.unrefused
    c.args.choice c.args.expected has whole
    ∙ (λ i. outcome (card_in old) (session_in old (sym y_is i)) (sym text i) DONE))

pub returns-in_err-file : goal.returns-in_err-file
returns-in_err-file g c =
    let old = c.args.store.now in
    let x = c.args.current.now in
    halted (read_record c.args.target c.args.choice c.args.expected) old x c.find_records.new.store (λ _. tt)
    c.requires.target.kept.card c.requires.target.kept.current c.clear.new.self.items c.clear.ensures _ _
    c.from_residual.ensures.1
    c.in_err-file.ensures.store _
    (λ status refused. read-refused (card_in old) (session_in old x) c.args.target status c.args.choice
    (choice-barred (card_in old) (session_in old x) c.args.target status c.args.choice refused) c.args.expected)
    c.in_err-file.ensures.told

pub returns-in_err-slot : goal.returns-in_err-slot
returns-in_err-slot g c =
    let old = c.args.store.now in
    let x = c.args.current.now in
    let found = c.in_ok-file.ensures.told in
    let status = c.in_err-slot.field-0.0 in
    halted (read_record c.args.target c.args.choice c.args.expected) old x c.find_records.new.store (λ _. tt)
    c.requires.target.kept.card c.requires.target.kept.current c.clear.new.self.items c.clear.ensures _ (Refused
    status)
    c.from_residual-in_err-slot.ensures.1 c.in_ok-file.ensures.store _
    (λ status refused. read-refused (card_in old) (session_in old x) c.args.target status c.args.choice refused
    c.args.expected)
    (choice-gone (committed old) c.requires.target.kept.ready.usable.committed_size c.requires.target.kept.card x
    c.args.target _
    c.in_ok-file.file found found.named.unrefused c.args.choice status _ c.pointer_at-pointer.ensures
    c.in_err-slot.ensures.refusal)

-- a part of the record is no longer than the record
part_short : (wanted text : List ℕ) → length wanted ≤ 255 → AppendsSome [] wanted text → length text ≤ 256
part_short wanted text short appends =
    let part = length-take appends.some wanted in
    let is = ap (λ (l : List ℕ). length l) appends.is in
    omega (arith, part, is, short)

pub returns-in_err-read : goal.returns-in_err-read
returns-in_err-read g c =
    let found = is-chosen c.args.choice c.in_ok-slot.slot c.in_ok-file.ensures.told
    c.pointer_at-pointer.ensures c.in_ok-slot.ensures.found in
    let same = c.find_records.ensures.store.only.keeps.committed_words in
    let stands = chosen-body (committed c.args.store.now) c.requires.target.kept.ready.usable.committed_size
    c.requires.target.kept.card c.args.current.now c.args.target _ _ _ found _ same in
    let sized = subst IsMemory (sym same) c.requires.target.kept.ready.usable.committed_size in
    let long = slot-long (committed c.find_records.new.store) c.in_ok-slot.slot sized stands in
    let short = stands.slots.short in
    handed (read_record c.args.target c.args.choice c.args.expected) c.args.store.now c.args.current.now
    c.read.new.store c.requires.target.kept.card c.args.current.now c.read.new.bytes.items _ c.in_err-read.field-0.0
    (reply-failed _ _ c.from_residual-in_err-read.ensures.1)
    (reads_on c.args.store.now c.find_records.new.store c.read.new.store _ c.find_records.ensures.store.only
    c.in_err-read.ensures.store) (part_short _ _ (as_long _ _ long short) c.in_err-read.ensures.any_exit)
