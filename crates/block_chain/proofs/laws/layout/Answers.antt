use Rattle.std.proofs.Common.{◌≤◌, length, arith}
use Rattle.nvm_board.specs.Facts.{address}
use Rattle.nvm_board.specs.declared.board.TheConstants.{PAGE_WORDS}
use Rattle.block_chain.specs.laws.Words.{length-block_bytes}
use Rattle.block_chain.proofs.laws.layout.Goals as goal

pub returns-clause-block : goal.returns-clause-block
returns-clause-block c m page sized block =
    let within : address page PAGE_WORDS ≤ length m = omega (arith, sized, block.1) in
    length-block_bytes m page within
