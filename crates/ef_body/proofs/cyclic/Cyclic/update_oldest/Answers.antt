use Rattle.std.proofs.Common.{rules}
use Rattle.std.proofs.Common.{length, subst}
use Rattle.undo_journal.specs.Memory.{committed}
use Rattle.ef_body.specs.declared.cyclic.Cyclic.{Cyclic}
use Rattle.ef_body.specs.declared.layout.TheConstants.{RECORD_WRITES}
use Rattle.ef_body.specs.Bodies.{cyclic_body_records}
use Rattle.ef_contents.specs.BodyCalls.{Commits}
use Rattle.ef_body.specs.BodyChanges.{CyclicBecomes}
use Rattle.card_model.specs.RecordLists.{front}
use Rattle.ef_body.specs.laws.Rings.{length-cyclic}
use Rattle.ef_contents.specs.laws.Calling.{refused_commits, store_commits}
use Rattle.ef_body.proofs.cyclic.Cyclic.update_oldest.Goals as goal

pub returns-in_err-newest_slot : goal.returns-in_err-newest_slot
returns-in_err-newest_slot g c =
    let m = committed c.args.store.now in
    refused_commits _ _ c.from_residual.ensures.1 _
    (c.in_err-newest_slot.ensures.refusal (cyclic_body_records m c.args.self)
    (length-cyclic m c.args.self c.requires.body.body)) _
    c.requires.body.ready _ _

pub returns : goal.returns
returns g c =
    let m = committed c.args.store.now in
    store_commits c.replace_oldest.result c.from_store.result c.from_store.ensures _
    (c.in_ok-newest_slot.ensures.refusal (cyclic_body_records m c.args.self)
    (length-cyclic m c.args.self c.requires.body.body)) _ _
    _ _
    (subst (λ (r : Cyclic). Commits (CyclicBecomes m r (front (length (cyclic_body_records m r)) c.args.bytes.now
    (cyclic_body_records m r))) RECORD_WRITES c.args.store.now c.replace_oldest.new.store c.replace_oldest.result)
    c.in_ok-newest_slot.ensures.found.0 c.replace_oldest.ensures.commits)

pub replace_oldest-requires : goal.replace_oldest-requires
replace_oldest-requires g c = record {
  body = record {
    ready = c.requires.body.ready;
    body = search rules;
    size = search rules;
  };
}
