use Rattle.std.proofs.Common.{◌≡◌, ◌==◌, if◌then◌else◌, ℕ, take, drop, sym, ◌∙◌, ap, subst, arith, lit<}
use Rattle.undo_journal.specs.Memory.{committed}
use Rattle.undo_journal.specs.laws.Calls.{reads_then}
use Rattle.undo_journal.specs.laws.Told.{reads_on}
use Rattle.card_model.specs.Requests.{read_binary}
use Rattle.card_model.specs.declared.access_mode.AccessBit.TheVariants.{Read}
use Rattle.ef_body.specs.TransparentBodies.{transparent_bytes}
use Rattle.command_base.specs.declared.current.Current.{Current}
use Rattle.command_base.specs.Stops.{stop_of_body}
use Rattle.command_base.specs.Working.{card_in, session_in, table_in, IsCurrent}
use Rattle.card_model.specs.BinaryCommands.{end_status}
use Rattle.card_model.specs.Behaviours.{outcome}
use Rattle.content_commands.proofs.BinarySteps.{read-refused}
use Rattle.command_base.specs.laws.Executes.{answered, halted, halted-with}
use Rattle.content_commands.proofs.BinaryServes.{asked-most, found-body, found-read, found-read-past, read-short}
use Rattle.command_base.specs.laws.Naming.{named-current}
use Rattle.command_base.specs.laws.Stopping.{body-reads, body-said}
use Rattle.content_commands.proofs.binary.read_binary.Goals as goal

pub returns-in_err-file : goal.returns-in_err-file
returns-in_err-file g c =
    let old = c.args.store.now in
    let x = c.args.current.now in
    halted (read_binary c.args.place.target c.args.place.offset c.args.expected) old x c.find_file.new.store (λ _. tt)
    c.requires.target.kept.card c.requires.target.kept.current c.clear.new.self.items c.clear.ensures _ _
    c.from_residual.ensures.1
    c.in_err-file.ensures.store _ (read-refused (card_in old) (session_in old x) c.args.place.target c.args.place.offset
    c.args.expected) c.in_err-file.ensures.told

pub read-requires : goal.read-requires
read-requires g c =
    let stands = found-body (committed c.args.store.now) c.requires.target.kept.ready.usable.committed_size
    c.requires.target.kept.card c.args.current.now c.args.place.target Read c.in_ok-file.file.number
    c.in_ok-file.file.entry
    c.in_ok-file.ensures.told c.transparent_body-body.result c.transparent_body-body.ensures
    (committed c.find_file.new.store)
    c.find_file.ensures.store.only.keeps.committed_words in
    let most = asked-most c.args.expected (omega arith) in (
      lit< tt,
      (
        record { ready = c.in_ok-file.ensures.store.ready; body = stands },
        omega (
          arith,
          most,
          c.most_of.ensures,
        ),
      ),
    )

pub returns-in_err-read : goal.returns-in_err-read
returns-in_err-read g c =
    let old = c.args.store.now in
    let x = c.args.current.now in
    let mid = c.find_file.new.store in
    let e = c.in_err-read.field-0.0 in
    let stop = stop_of_body e in
    let request = read_binary c.args.place.target c.args.place.offset c.args.expected in
    let text = c.read.new.bytes.items in
    let room = read-short c.args.expected c.most_of.result (omega arith) c.most_of.ensures _ text
    c.read.ensures.any_exit in
    let reads = reads_on old mid c.read.new.store _ c.find_file.ensures.store.only
    (body-reads mid c.read.new.store e c.in_err-read.ensures.store) in
    halted-with request old x c.read.new.store (λ _. tt) c.requires.target.kept.card c.requires.target.kept.current
    text room _ stop
    c.from_residual-in_err-read.ensures.1 reads
    (body-said _ _ _ e c.in_err-read.ensures.refusal c.in_err-read.ensures.refused (λ status past kept. (
      kept.0,
      found-read-past (committed old) c.requires.target.kept.ready.usable.committed_size c.requires.target.kept.card x
          c.args.place.target c.in_ok-file.file.number c.in_ok-file.file.entry c.in_ok-file.ensures.told
          c.transparent_body-body.result
          c.transparent_body-body.ensures (committed mid) c.find_file.ensures.store.only.keeps.committed_words
          c.args.place.offset c.args.expected status past,
    )))

pub returns : goal.returns
returns g c =
    let old = c.args.store.now in
    let x = c.args.current.now in
    let mid = c.find_file.new.store in
    let new = c.read.new.store in
    let request = read_binary c.args.place.target c.args.place.offset c.args.expected in
    let found = c.in_ok-file.ensures.told in
    let e = c.in_ok-file.file.number in
    let body = c.transparent_body-body.result in
    let text = c.read.new.bytes.items in
    let room = read-short c.args.expected c.most_of.result (omega arith) c.most_of.ensures _ text
    c.read.ensures.any_exit in
    let given : text ≡ take (if c.args.expected == 0 then 256 else c.args.expected) (drop c.args.place.offset
    (transparent_bytes (committed mid) body)) =
    c.in_ok-read.ensures.bytes
    ∙ ap (λ (n : ℕ). take n (drop c.args.place.offset (transparent_bytes (committed mid) body))) c.most_of.ensures in
    let current = sym c.naming.ensures in
    let status = sym (c.read_status.ensures ∙ ap (λ (n : ℕ). end_status n c.args.expected) c.len.ensures.value) in
    answered request old x new (λ _. tt) c.requires.target.kept.card c.naming.result text c.read_status.result
    (reads_then old mid new c.find_file.ensures.store.only c.read.ensures.store.only) c.in_ok-read.ensures.store.ready
    (subst (λ (y : Current). IsCurrent (table_in old) y) current
    (named-current (committed old) x e found.file c.args.place.target c.requires.target.kept.current))
    room
    (found-read (committed old) c.requires.target.kept.ready.usable.committed_size c.requires.target.kept.card x
    c.args.place.target e
    c.in_ok-file.file.entry found body c.transparent_body-body.ensures (committed mid)
    c.find_file.ensures.store.only.keeps.committed_words c.args.place.offset c.args.expected
    c.in_ok-read.ensures.refusal text given
    ∙ (λ i. outcome (card_in old) (session_in old (current i)) text (status i)))
