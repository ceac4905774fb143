use Rattle.std.proofs.Common.{◌<◌, length, ◌∙◌, arith}
use Rattle.undo_journal.specs.Memory.{current}
use Rattle.undo_journal.specs.Lent.{memory_of}
use Rattle.undo_journal.specs.laws.Calls.{txn_reads_then}
use Rattle.block_chain.specs.Chains.{chain}
use Rattle.block_chain.specs.laws.Chains.{IsAt, at_block}
use Rattle.block_links.proofs.words.walk.Given.{Over}
use Rattle.undo_journal.specs.laws.Exits.{none_ok}
use Rattle.undo_journal.specs.laws.Told.{reads_in_handed, reads_in_on}
use Rattle.block_links.proofs.words.walk.Goals as goal

here : (g : Over) (c : goal.After-next-arg-1 g)
    → IsAt (current (memory_of c.loop-i.txn)) (chain
    (current (memory_of c.args.txn.now)) c.args.first) c.loop-i._i c.loop-i.page
here g c =
    let within : c.loop-i._i < length (chain (current (memory_of c.args.txn.now)) c.args.first) =
    omega (arith, c.requires.within, c.loop-i-test.true) in
    at_block _ _ _ _ _ _ c.loop-i.invariant.reads.reads.keeps.current_words c.requires.chain.ready.current_size
    c.requires.chain.leads c.loop-i.invariant.place within

pub loop-i-preserved : goal.loop-i-preserved
loop-i-preserved g c =
    let within : c.loop-i._i < length (chain (current (memory_of c.args.txn.now)) c.args.first) =
    omega (arith, c.requires.within, c.loop-i-test.true) in
    let at = at_block _ _ _ _ _ _ c.loop-i.invariant.reads.reads.keeps.current_words c.requires.chain.ready.current_size
    c.requires.chain.leads c.loop-i.invariant.place within in
    record {
      ready = c.in_ok-page.ensures.store.ready;
      reads = txn_reads_then _ _ _ c.loop-i.invariant.reads c.next.ensures.store.only;
      place = c.in_ok-page.ensures.page ∙ at.next;
    }

pub returns-in_err-page-clause-page : goal.returns-in_err-page-clause-page
returns-in_err-page-clause-page g c = none_ok _ _ _ c.from_residual.ensures.1

pub returns-in_err-page-clause-store : goal.returns-in_err-page-clause-store
returns-in_err-page-clause-store g c =
    reads_in_handed _ _ _ _ c.from_residual.ensures.1
    (reads_in_on _ _ _ _ c.loop-i.invariant.reads c.in_err-page.ensures.store)

pub next-requires : goal.next-requires
next-requires g c = record {
  ready = c.loop-i.invariant.ready;
  block = (here g c).block;
  small = (here g c).small;
}
