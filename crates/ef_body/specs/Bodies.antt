-- The bodies of record EFs in a memory: the records in the slots of a chain.
use Rattle.std.specs.Prelude.{◌≡◌, ◌<◌, ◌≤◌, ◌+◌, ◌*◌, ◌/◌, ◌%◌, ℕ, List, length, slice_index}
use Rattle.undo_journal.specs.declared.layout.TheConstants.{GATE}
use Rattle.block_chain.specs.declared.chain.Chain.{Chain}
use Rattle.block_chain.specs.declared.layout.TheConstants.{BLOCK_BYTES}
use Rattle.block_chain.specs.Chains.{IsChain, chain_of, chain_bytes}
use Rattle.ef_body.specs.declared.cyclic.Cyclic.{Cyclic}
use Rattle.ef_contents.specs.Records.{newest_first}

-- The entry's word for its records: their number in the upper half, the slot of record 1 in the lower half.
abbrev pub counts_word : ℕ → ℕ → ℕ
counts_word number start = 0x10000 * number + start

abbrev pub number_told : List ℕ → ℕ → ℕ
number_told m at = slice_index m at / 0x10000

abbrev pub start_told : List ℕ → ℕ → ℕ
start_told m at = slice_index m at % 0x10000

-- The records of a cyclic EF, the newest first.
abbrev pub cyclic_body_records : List ℕ → Cyclic → List (List ℕ)
cyclic_body_records m body =
    newest_first body.record_length body.capacity (chain_bytes m body.chain) (start_told m body.counts_at)
    (number_told m body.counts_at)

-- The blocks of a chain have slots for 1 to 254 records of 1 to 255 bytes, 32,767 bytes at most. The entry's word
-- lies before the gate, as all entries do.
pub record HasSlots (m : List ℕ) (blocks : Chain) (size capacity counts_at : ℕ) : Type 0 where
  pub chain : IsChain m blocks.first (chain_of m blocks)
  pub some : 1 ≤ size
  pub short : size ≤ 255
  pub room : 1 ≤ capacity
  pub few : capacity ≤ 254
  pub small : capacity * size ≤ 32767
  pub fits : capacity * size ≤ BLOCK_BYTES * length (chain_of m blocks)
  pub entry : counts_at < GATE

-- A valid cyclic body, as the entry's word says.
pub record IsCyclic (m : List ℕ) (body : Cyclic) : Type 0 where
  pub slots : HasSlots m body.chain body.record_length body.capacity body.counts_at
  pub number : body.records ≤ body.capacity
  pub start : body.start < body.capacity
  pub told : slice_index m body.counts_at ≡ counts_word body.records body.start
