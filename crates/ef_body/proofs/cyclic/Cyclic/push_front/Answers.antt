use Rattle.std.proofs.Common.{◌≡◌, ◌+◌, ◌∙◌, List, ℕ, ap, sym, subst, length}
use Rattle.std.specs.Prelude.{min}
use Rattle.undo_journal.specs.Memory.{committed}
use Rattle.ef_body.specs.declared.layout.TheConstants.{RECORD_WRITES}
use Rattle.ef_body.specs.Bodies.{cyclic_body_records}
use Rattle.ef_contents.specs.BodyCalls.{Commits}
use Rattle.ef_body.specs.BodyChanges.{CyclicBecomes}
use Rattle.ef_body.specs.laws.Rings.{length-cyclic}
use Rattle.ef_body.proofs.Increasing.{front-most}
use Rattle.ef_body.proofs.cyclic.Cyclic.push_front.Goals as goal

pub returns-clause-commits : goal.returns-clause-commits
returns-clause-commits g c =
    let m = committed c.args.store.now in
    let rs = cyclic_body_records m c.args.self in
    let is : c.appended.result ≡ min (length rs + 1) c.args.self.capacity =
    c.appended.ensures ∙ ap (λ (n : ℕ). min (n + 1) c.args.self.capacity) (sym (length-cyclic m c.args.self
    c.requires.body.body)) in
    subst (λ (l : List (List ℕ)). Commits (CyclicBecomes m c.args.self l) RECORD_WRITES c.args.store.now
    c.put_front.new.store c.put_front.result)
    (front-most c.appended.result c.args.self.capacity c.args.bytes.now rs is) c.put_front.ensures.commits

pub returns-clause-counted : goal.returns-clause-counted
returns-clause-counted g c = c.put_front.ensures.counted
