use Rattle.std.proofs.Common.{length, arith, refl}
use Rattle.card_model.specs.declared.status.TheConstants.Sw.{NO_ROOM, WRONG_OFFSET}
use Rattle.undo_journal.specs.Memory.{committed}
use Rattle.undo_journal.specs.laws.Calls.{boards_same, keeping_spends, within_more}
use Rattle.undo_journal.specs.Spending.{transaction_writes}
use Rattle.block_chain.specs.Chains.{chain_of}
use Rattle.block_chain.specs.ChainChanges.{Overwrites, touched_words, touched_blocks}
use Rattle.ef_body.specs.TransparentBodies.{transparent_bytes}
use Rattle.ef_contents.specs.BodyCalls.{Commits}
use Rattle.ef_body.proofs.Bytes.{length-transparent, update_past, new_past, new_inside, new_fits, bytes_put}
use Rattle.ef_contents.specs.laws.Calling.{commits_weaker, refused_commits, store_commits}
use Rattle.ef_contents.specs.laws.Updates.{touched_most}
use Rattle.ef_contents.specs.laws.Refusing.{store_done}
use Rattle.ef_body.proofs.transparent.Transparent.update.Goals as goal

pub returns-then-ends_at-clause-commits : goal.returns-then-ends_at-clause-commits
returns-then-ends_at-clause-commits g c =
    let m = committed c.args.store.now in
    let long = length-transparent m c.args.self c.requires.body.ready.usable.committed_size c.requires.body.body in
    refused_commits _ WRONG_OFFSET refl _
    (update_past (transparent_bytes m c.args.self) c.args.self.size c.args.offset c.ends_at.result long
    c.ends_at.ensures c.args.bytes.now c.if-ends_at.true) _ c.requires.body.ready _ _

pub returns-then-ends_before-clause-commits : goal.returns-then-ends_before-clause-commits
returns-then-ends_before-clause-commits g c =
    let m = committed c.args.store.now in
    let long = length-transparent m c.args.self c.requires.body.ready.usable.committed_size c.requires.body.body in
    refused_commits _ NO_ROOM refl _
    (new_past (transparent_bytes m c.args.self) c.args.self.size c.args.offset c.ends_at.result long c.ends_at.ensures
    c.args.bytes.now c.ends_before.result c.ends_before.ensures c.if-ends_at.false c.if-ends_before.true) _
    c.requires.body.ready _ _

pub returns-clause-commits : goal.returns-clause-commits
returns-clause-commits g c =
    let m = committed c.args.store.now in
    let n = committed c.put_bytes.new.store in
    let long = length-transparent m c.args.self c.requires.body.ready.usable.committed_size c.requires.body.body in
    let within = new_fits (transparent_bytes m c.args.self) c.args.self.size c.args.offset c.ends_at.result long
    c.ends_at.ensures c.args.bytes.now c.ends_before.result c.ends_before.ensures c.if-ends_at.false
    c.if-ends_before.false in
    let words = touched_words c.args.offset (length c.args.bytes.now) in
    let blocks = touched_blocks c.args.offset (length c.args.bytes.now) in
    let put : Commits (Overwrites m (chain_of m c.args.self.chain) c.args.offset c.args.bytes.now)
    (transaction_writes words blocks) c.args.store.now c.put_bytes.new.store c.put_bytes.result = record {
      any_exit = c.put_bytes.ensures.any_exit;
      done = c.put_bytes.ensures.done;
      by_gate = c.put_bytes.ensures.by_gate;
      turned = c.put_bytes.ensures.turned;
      store = c.put_bytes.ensures.store;
    } in
    store_commits c.put_bytes.result c.from_store.result c.from_store.ensures _
    (new_inside (transparent_bytes m c.args.self) c.args.self.size c.args.offset c.ends_at.result long
    c.ends_at.ensures c.args.bytes.now c.ends_before.result c.ends_before.ensures c.if-ends_at.false
    c.if-ends_before.false) _ _ _ _
    (commits_weaker _ _ _ c.put_bytes.result _ _
    (bytes_put m n c.args.self c.args.offset c.args.bytes.now c.requires.body.ready.usable.committed_size
    c.requires.body.body
    within) put)

pub returns-then-ends_at-clause-writes : goal.returns-then-ends_at-clause-writes
returns-then-ends_at-clause-writes g c = keeping_spends _ _ _ (boards_same _)

pub returns-then-ends_before-clause-writes : goal.returns-then-ends_before-clause-writes
returns-then-ends_before-clause-writes g c = keeping_spends _ _ _ (boards_same _)

pub returns-clause-writes : goal.returns-clause-writes
returns-clause-writes g c =
    within_more _ _ _ _ (touched_most c.args.offset (length c.args.bytes.now))
    c.put_bytes.ensures.store.writes

pub returns-clause-counted : goal.returns-clause-counted
returns-clause-counted g c =
    store_done c.put_bytes.result c.from_store.result c.from_store.ensures _ c.put_bytes.ensures.counted

pub put_bytes-requires : goal.put_bytes-requires
put_bytes-requires g c = record {
  ready = c.requires.body.ready;
  lie = let m = committed c.args.store.now in
      let within = new_fits (transparent_bytes m c.args.self) c.args.self.size c.args.offset c.ends_at.result
      (length-transparent m c.args.self c.requires.body.ready.usable.committed_size c.requires.body.body)
      c.ends_at.ensures
      c.args.bytes.now c.ends_before.result c.ends_before.ensures c.if-ends_at.false c.if-ends_before.false in
      let fits = c.requires.body.body.fits in
      let size = c.requires.body.body.size in
      record {
        chain = c.requires.body.body.chain;
        within = omega (arith, within, fits);
        small = omega (arith, within, size);
      };
  few = c.requires.few;
}
