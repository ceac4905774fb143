use Rattle.std.proofs.Common.{rules}
use Rattle.undo_journal.specs.Memory.{committed}
use Rattle.ef_body.specs.LinearBodies.{linear_body_records}
use Rattle.ef_body.specs.laws.Linears.{length-linear}
use Rattle.ef_body.proofs.Taken.{taken_put}
use Rattle.ef_contents.specs.laws.Calling.{commits_weaker, refused_commits, store_commits}
use Rattle.ef_body.proofs.linear.Linear.update.Goals as goal

pub returns-in_err-slot : goal.returns-in_err-slot
returns-in_err-slot g c =
    let m = committed c.args.store.now in
    refused_commits _ _ c.from_residual.ensures.1 _
    (c.in_err-slot.ensures.refusal (linear_body_records m c.args.self) (length-linear m c.args.self
    c.requires.body.body)) _
    c.requires.body.ready _ _

pub returns : goal.returns
returns g c =
    let m = committed c.args.store.now in
    let slot = c.in_ok-slot.slot in
    let at = c.in_ok-slot.ensures.found in
    store_commits c.replace.result c.from_store.result c.from_store.ensures _
    (c.in_ok-slot.ensures.refusal (linear_body_records m c.args.self)
    (length-linear m c.args.self c.requires.body.body)) _ _ _
    _
    (commits_weaker _ _ _ c.replace.result _ _ (taken_put m c.args.self slot.ring at.0 c.requires.body.body
    (committed c.replace.new.store) slot.number c.args.number c.args.bytes.now at.1) c.replace.ensures.commits)

pub replace-requires : goal.replace-requires
replace-requires g c = record {
  body = record {
    ready = c.requires.body.ready;
    body = search rules;
    size = search rules;
  };
}
