use Rattle.std.proofs.Common.{◌≡◌, ◌≢◌, slice_index, ◌∙◌, arith}
use Rattle.undo_journal.specs.Memory.{committed}
use Rattle.undo_journal.specs.laws.Calls.{reads_then}
use Rattle.block_chain.specs.Chains.{free_chain}
use Rattle.block_chain.specs.laws.Chains.{at_some, head_small, leads_ended, leads_first}
use Rattle.undo_journal.specs.laws.Exits.{none_ok}
use Rattle.undo_journal.specs.laws.Told.{reads_handed, reads_on}
use Rattle.block_store.proofs.free.free_count.Goals as goal

pub loop-page-preserved : goal.loop-page-preserved
loop-page-preserved g c =
    let m = committed c.args.store.now in
    let some : c.loop-page.page ≢ 0 = omega (arith, c.loop-page-test.true) in
    let here = at_some m (committed c.loop-page.store) _
    (free_chain m) c.loop-page.count c.loop-page.page c.loop-page.invariant.reads.keeps.committed_words
    c.requires.ready.usable.committed_size c.requires.free.leads c.loop-page.invariant.place some in
    record {
      ready = c.in_ok-page-2.ensures.store.ready;
      reads = reads_then _ _ _ c.loop-page.invariant.reads c.read_link.ensures.store.only;
      within = omega (arith, here.within);
      place = c.in_ok-page-2.ensures.page ∙ here.next;
    }

pub returns-clause-count : goal.returns-clause-count
returns-clause-count g c =
    let m = committed c.args.store.now in
    let none : slice_index (free_chain m) c.loop-page.count ≡ 0 =
    omega (arith, c.loop-page-test.false, c.loop-page.invariant.place) in
    let ended = leads_ended m _ (free_chain m) c.loop-page.count c.requires.free.leads none in
    omega (arith, ended, c.loop-page.invariant.within)

pub returns-in_err-page-clause-count : goal.returns-in_err-page-clause-count
returns-in_err-page-clause-count g c = none_ok _ _ _ c.from_residual.ensures.1

pub returns-in_err-page-clause-store : goal.returns-in_err-page-clause-store
returns-in_err-page-clause-store g c =
    reads_handed _ _ _ _ c.from_residual.ensures.1 c.in_err-page.ensures.store

pub returns-in_err-page-2-clause-count : goal.returns-in_err-page-2-clause-count
returns-in_err-page-2-clause-count g c = none_ok _ _ _ c.from_residual-in_err-page-2.ensures.1

pub returns-in_err-page-2-clause-store : goal.returns-in_err-page-2-clause-store
returns-in_err-page-2-clause-store g c =
    reads_handed _ _ _ _ c.from_residual-in_err-page-2.ensures.1
    (reads_on _ _ _ _ c.loop-page.invariant.reads c.in_err-page-2.ensures.store)

pub loop-page-init : goal.loop-page-init
loop-page-init g c = record {
  ready = c.in_ok-page.ensures.store.ready;
  reads = c.read_head.ensures.store.only;
  within = omega arith;
  place = c.in_ok-page.ensures.page ∙ leads_first _ _ _ c.requires.free.leads;
}

pub loop-page-smaller : goal.loop-page-smaller
loop-page-smaller g c =
    let m = committed c.args.store.now in
    let some : c.loop-page.page ≢ 0 = omega (arith, c.loop-page-test.true) in
    let here = at_some m (committed c.loop-page.store) _
    (free_chain m) c.loop-page.count c.loop-page.page c.loop-page.invariant.reads.keeps.committed_words
    c.requires.ready.usable.committed_size c.requires.free.leads c.loop-page.invariant.place some in
    omega (arith, here.within)

pub read_head-requires : goal.read_head-requires
read_head-requires g c = record {
  ready = c.requires.ready;
  small = head_small _ _ _ c.requires.ready.usable.committed_size c.requires.free.leads;
}

pub read_link-requires : goal.read_link-requires
read_link-requires g c = record {
  ready = c.loop-page.invariant.ready;
  block = let m = committed c.args.store.now in
      let some : c.loop-page.page ≢ 0 = omega (arith, c.loop-page-test.true) in
      (at_some m _ _
      (free_chain m) c.loop-page.count c.loop-page.page c.loop-page.invariant.reads.keeps.committed_words
      c.requires.ready.usable.committed_size c.requires.free.leads c.loop-page.invariant.place some).block;
  small = let m = committed c.args.store.now in
      let some : c.loop-page.page ≢ 0 = omega (arith, c.loop-page-test.true) in
      (at_some m _ _
      (free_chain m) c.loop-page.count c.loop-page.page c.loop-page.invariant.reads.keeps.committed_words
      c.requires.ready.usable.committed_size c.requires.free.leads c.loop-page.invariant.place some).small;
}
