use Rattle.std.proofs.Common.{ℕ, sym, subst}
use Rattle.undo_journal.specs.Memory.{committed}
use Rattle.ef_body.specs.declared.layout.TheConstants.{RECORD_WRITES}
use Rattle.ef_body.specs.Bodies.{cyclic_body_records}
use Rattle.ef_contents.specs.BodyCalls.{Commits}
use Rattle.ef_body.specs.BodyChanges.{CyclicBecomes}
use Rattle.card_model.specs.RecordLists.{front}
use Rattle.ef_body.specs.laws.Rings.{length-cyclic}
use Rattle.ef_body.proofs.slot.RecordSlot.replace_oldest.Goals as goal

pub returns-clause-commits : goal.returns-clause-commits
returns-clause-commits g c =
    let m = committed c.args.store.now in
    let ring = c.args.self.ring in
    subst (λ (n : ℕ). Commits (CyclicBecomes m ring (front n c.args.bytes.now
    (cyclic_body_records m ring))) RECORD_WRITES
    c.args.store.now c.put_front.new.store c.put_front.result) (sym (length-cyclic m ring c.requires.body.body))
    c.put_front.ensures.commits

pub returns-clause-counted : goal.returns-clause-counted
returns-clause-counted g c = c.put_front.ensures.counted
