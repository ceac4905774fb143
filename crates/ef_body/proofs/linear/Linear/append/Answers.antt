use Rattle.std.proofs.Common.{rules}
use Rattle.undo_journal.specs.Memory.{committed}
use Rattle.ef_body.specs.LinearBodies.{linear_body_records}
use Rattle.ef_body.specs.laws.Linears.{length-linear}
use Rattle.ef_body.proofs.Taken.{taken_added}
use Rattle.ef_contents.specs.laws.Calling.{commits_weaker, refused_commits, store_commits}
use Rattle.ef_body.proofs.linear.Linear.append.Goals as goal

pub returns-in_err-slot : goal.returns-in_err-slot
returns-in_err-slot g c =
    let m = committed c.args.store.now in
    refused_commits _ _ c.from_residual.ensures.1 _
    (c.in_err-slot.ensures.refusal (linear_body_records m c.args.self) (length-linear m c.args.self
    c.requires.body.body)) _
    c.requires.body.ready _ _

pub returns : goal.returns
returns g c =
    let m = committed c.args.store.now in
    let slot = c.in_ok-slot.slot in
    let at = c.in_ok-slot.ensures.found in
    store_commits c.append.result c.from_store.result c.from_store.ensures _
    (c.in_ok-slot.ensures.refusal (linear_body_records m c.args.self)
    (length-linear m c.args.self c.requires.body.body)) _ _ _
    _
    (commits_weaker _ _ _ c.append.result _ _ (taken_added m c.args.self slot.ring at c.requires.body.body
    (committed c.append.new.store) c.args.bytes.now slot.room) c.append.ensures.commits)

pub append-requires : goal.append-requires
append-requires g c = record {
  body = record {
    ready = c.requires.body.ready;
    body = search rules;
    size = search rules;
  };
}
