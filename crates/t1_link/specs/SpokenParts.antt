-- The blocks of the code as blocks of the definitions.
use Rattle.std.specs.Prelude.{Result, Ok, Err}
use Rattle.t1_link.specs.Blocks.{Block, information, receive_ready, resynch_request, resynch_response, ifs_request}
use Rattle.t1_link.specs.Blocks.{ifs_response}
use Rattle.t1_link.specs.declared.block.Fault.{Fault}
use Rattle.t1_link.specs.declared.block.Block as spelled
use Rattle.t1_link.specs.declared.block.Block.TheVariants.{Information, ReceiveReady, ResynchRequest, ResynchResponse}
use Rattle.t1_link.specs.declared.block.Block.TheVariants.{IfsRequest, IfsResponse}

-- a block, with its information field as a value instead of a borrowed slice
abbrev pub block_of : spelled.Block → Block
block_of (Information piece) = information piece.number piece.more piece.field.now
block_of (ReceiveReady number error) = receive_ready number error
block_of ResynchRequest = resynch_request
block_of ResynchResponse = resynch_response
block_of (IfsRequest size) = ifs_request size
block_of (IfsResponse size) = ifs_response size

-- the result of parsing received bytes
abbrev pub spoken : Result spelled.Block Fault → Result Block Fault
spoken (Ok b) = Ok (block_of b)
spoken (Err fault) = Err fault
