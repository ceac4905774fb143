use Rattle.std.proofs.Common.{◌<◌, length, ◌∙◌, arith}
use Rattle.undo_journal.specs.Memory.{committed}
use Rattle.undo_journal.specs.laws.Calls.{reads_then}
use Rattle.block_chain.specs.Chains.{chain}
use Rattle.block_chain.specs.laws.Chains.{at_block}
use Rattle.undo_journal.specs.laws.Exits.{none_ok}
use Rattle.undo_journal.specs.laws.Told.{reads_handed, reads_on}
use Rattle.chain_bytes.proofs.reading.block_at.Goals as goal

pub loop-i-preserved : goal.loop-i-preserved
loop-i-preserved g c =
    let within : c.loop-i._i < length (chain (committed c.args.store.now) c.args.first) =
    omega (arith, c.requires.within, c.loop-i-test.true) in
    let at = at_block _ _ _ _ _ _ c.loop-i.invariant.reads.keeps.committed_words
    c.requires.chain.ready.usable.committed_size
    c.requires.chain.leads c.loop-i.invariant.place within in
    record {
      ready = c.in_ok-page.ensures.store.ready;
      reads = reads_then _ _ _ c.loop-i.invariant.reads c.read_link.ensures.store.only;
      place = c.in_ok-page.ensures.page ∙ at.next;
    }

pub returns-in_err-page-clause-page : goal.returns-in_err-page-clause-page
returns-in_err-page-clause-page g c = none_ok _ _ _ c.from_residual.ensures.1

pub returns-in_err-page-clause-store : goal.returns-in_err-page-clause-store
returns-in_err-page-clause-store g c =
    reads_handed _ _ _ _ c.from_residual.ensures.1
    (reads_on _ _ _ _ c.loop-i.invariant.reads c.in_err-page.ensures.store)

pub read_link-requires : goal.read_link-requires
read_link-requires g c = record {
  ready = c.loop-i.invariant.ready;
  block = let within : c.loop-i._i < length (chain (committed c.args.store.now) c.args.first) =
      omega (arith, c.requires.within, c.loop-i-test.true) in
      (at_block _ _ _ _ _ _ c.loop-i.invariant.reads.keeps.committed_words c.requires.chain.ready.usable.committed_size
      c.requires.chain.leads c.loop-i.invariant.place within).block;
  small = let within : c.loop-i._i < length (chain (committed c.args.store.now) c.args.first) =
      omega (arith, c.requires.within, c.loop-i-test.true) in
      (at_block _ _ _ _ _ _ c.loop-i.invariant.reads.keeps.committed_words c.requires.chain.ready.usable.committed_size
      c.requires.chain.leads c.loop-i.invariant.place within).small;
}
