use Rattle.card_bench.proofs.BlocksOnLine.{garbled-may_arrive, heard-garbled}
use Rattle.card_bench.proofs.laws.garbled_block_is_no_block.Goals as goal

pub returns-clause-fault : goal.returns-clause-fault
returns-clause-fault c = heard-garbled

pub returns-clause-world : goal.returns-clause-world
returns-clause-world c = garbled-may_arrive
