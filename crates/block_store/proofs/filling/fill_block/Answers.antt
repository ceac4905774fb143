use Rattle.std.proofs.Common.{arith, inr}
use Rattle.nvm_board.specs.laws.Sizes.{page_within}
use Rattle.undo_journal.specs.laws.Memory.{current_size}
use Rattle.block_store.proofs.filling.fill_block.Goals as goal

pub returns-clause-any_exit : goal.returns-clause-any_exit
returns-clause-any_exit g c = c.write_plain.ensures.any_exit

pub returns-clause-done : goal.returns-clause-done
returns-clause-done g c = c.write_plain.ensures.done

pub returns-clause-store : goal.returns-clause-store
returns-clause-store g c = c.write_plain.ensures.store

pub write_plain-requires-clause-idle : goal.write_plain-requires-clause-idle
write_plain-requires-clause-idle g c = c.requires.ready.idle

pub write_plain-requires-clause-place : goal.write_plain-requires-clause-place
write_plain-requires-clause-place g c =
    let block = c.requires.block in
    let inside = page_within _ c.args.page c.requires.ready.usable.committed_size block.1 in
    let same = current_size c.args.store.now in
    (inr (omega (arith, block.0)), omega (arith, inside, same))
