use Rattle.std.proofs.Common.{rules, ◌∙◌, ℕ, List, ap, subst}
use Rattle.undo_journal.specs.Memory.{committed}
use Rattle.card_model.specs.RecordLists.{record_of}
use Rattle.ef_contents.specs.BodyCalls.{ReadsInto}
use Rattle.ef_body.specs.laws.Rings.{length-records}
use Rattle.ef_body.specs.laws.Rings.{received_record}
use Rattle.ef_contents.specs.laws.Calling.{refused_reads, store_reads}
use Rattle.ef_body.proofs.record_body.RecordBody.read.Goals as goal

pub returns-in_err-slot : goal.returns-in_err-slot
returns-in_err-slot g c =
    let body = g.Self.RecordBody in
    let laws = g.met.Self.RecordBody in
    let m = committed c.args.store.now in
    let is = laws.ring_is m c.args.self c.requires.body in
    let same = laws.ring_records m c.args.self c.requires.body in
    refused_reads _ _ c.from_residual.ensures.1 _
    (c.in_err-slot.ensures.refusal (body.records_in m c.args.self)
    (length-records m (body.ring_of c.args.self) _ is same)) _ c.requires.ready _ _ c.clear.ensures

pub read-requires : goal.read-requires
read-requires g c =
    let is = g.met.Self.RecordBody.ring_is (committed c.args.store.now) c.args.self c.requires.body in
    (search rules, (record { ready = c.requires.ready; body = search (rules, is) }, search (rules, is)))

pub returns : goal.returns
returns g c =
    let body = g.Self.RecordBody in
    let laws = g.met.Self.RecordBody in
    let m = committed c.args.store.now in
    let is = laws.ring_is m c.args.self c.requires.body in
    let same = laws.ring_records m c.args.self c.requires.body in
    store_reads c.read.result c.from_store.result c.from_store.ensures _
    (c.in_ok-slot.ensures.refusal (body.records_in m c.args.self)
    (length-records m (body.ring_of c.args.self) _ is same)) _ _ _ _
    (subst (λ (l : List ℕ). ReadsInto l c.args.store.now c.read.new.store c.read.new.bytes.items c.read.result)
    (received_record (body.ring_of c.args.self) c.args.number c.in_ok-slot.slot c.in_ok-slot.ensures.found m
    ∙ ap (λ (l : List (List ℕ)). record_of l c.args.number) same) c.read.ensures)
