use Rattle.std.proofs.Common.{arith}
use Rattle.undo_journal.specs.Memory.{committed}
use Rattle.ef_body.proofs.Resting.{rest_of, block_on}
use Rattle.ef_body.proofs.chain_block.ChainBlock.go_to.Goals as goal

pub block_at-requires-clause-within : goal.block_at-requires-clause-within
block_at-requires-clause-within g c =
    let m = committed c.args.store.now in
    let rest = rest_of m c.args.chain c.requires.chain.leads c.before-from.result
    (c.before-from.ensures.block m c.requires.chain.leads c.requires.block) in
    omega (arith, rest.size, c.requires.within, c.before-from.ensures.before)

pub returns-clause-block : goal.returns-clause-block
returns-clause-block g c =
    let m = committed c.args.store.now in
    record {
      within = c.requires.within;
      page = block_on m c.args.chain c.requires.chain.leads c.before-from.result c.args.number c.in_ok-page.page
          (c.before-from.ensures.block m c.requires.chain.leads c.requires.block) c.before-from.ensures.before
          c.in_ok-page.ensures.page;
    }

pub block_at-requires-clause-chain : goal.block_at-requires-clause-chain
block_at-requires-clause-chain g c = record {
  ready = c.requires.chain.ready;
  leads = let m = committed c.args.store.now in
      (rest_of m c.args.chain c.requires.chain.leads c.before-from.result
      (c.before-from.ensures.block m c.requires.chain.leads c.requires.block)).leads;
}
