-- Steps inside calls on records. No public clause uses these definitions.
use Rattle.std.specs.Prelude.{◌≡◌, ◌<◌, List, ℕ, length, slice_index, ◌≤◌}
use Rattle.block_chain.specs.declared.chain.Chain.{Chain}
use Rattle.block_chain.specs.Chains.{chain_of}
use Rattle.ef_body.specs.declared.chain_block.ChainBlock.{ChainBlock}
use Rattle.ef_body.specs.declared.cyclic.Cyclic.{Cyclic}

-- One of at most 254 records has this number.
pub record IsRecordNumber (number records : ℕ) : Type 0 where
  pub some : 1 ≤ number
  pub last : number ≤ records
  pub few : records ≤ 254

-- A slot has this number, counted from that of record 1, which is in the ring. At most 254 slots are in it.
pub record IsSlotNumber (ring : Cyclic) (number : ℕ) : Type 0 where
  pub start : ring.start < ring.capacity
  pub few : ring.capacity ≤ 254
  pub first : 1 ≤ number
  pub last : number ≤ ring.capacity

-- The block with this number in a chain has this page.
pub record IsBlockOf (m : List ℕ) (c : Chain) (block : ChainBlock) : Type 0 where
  pub within : block.number < length (chain_of m c)
  pub page : block.page ≡ slice_index (chain_of m c) block.number
