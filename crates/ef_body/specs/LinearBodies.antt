-- Linear EFs in a memory and in a store: their records, the ring of their slots, and what calls make of them.
use Rattle.std.specs.Prelude.{◌≡◌, ◌≤◌, ℕ, List, length, slice_index}
use Rattle.undo_journal.specs.Memory.{Memory, committed, IsReady}
use Rattle.block_chain.specs.Chains.{chain_of, chain_bytes}
use Rattle.ef_contents.specs.Records.{linear_order}
use Rattle.ef_body.specs.declared.cyclic.Cyclic.{Cyclic}
use Rattle.ef_body.specs.Bodies.{counts_word, number_told, start_told, HasSlots}
use Rattle.ef_body.specs.BodyChanges.{OnlyBody}
use Rattle.ef_body.specs.declared.linear.Linear.{Linear}

-- The records of a linear EF, in number order.
abbrev pub linear_body_records : List ℕ → Linear → List (List ℕ)
linear_body_records m body = linear_order body.record_length (chain_bytes m body.chain) (number_told m body.counts_at)

-- A linear body as a cyclic one: record 1 is in slot 0.
abbrev pub ring_of : Linear → Cyclic
ring_of body = record {
  chain = body.chain;
  record_length = body.record_length;
  capacity = body.capacity;
  records = body.records;
  start = 0;
  counts_at = body.counts_at;
}

-- A valid linear body, as the entry's word says.
pub record IsLinear (m : List ℕ) (body : Linear) : Type 0 where
  pub slots : HasSlots m body.chain body.record_length body.capacity body.counts_at
  pub number : body.records ≤ body.capacity
  pub told : slice_index m body.counts_at ≡ counts_word body.records 0

-- The store is ready, and its words have these records of a linear EF. A record of the right length is to be stored.
pub record TakesLinear (m : Memory) (records : Linear) (bytes : List ℕ) : Type 0 where
  pub ready : IsReady m
  pub body : IsLinear (committed m) records
  pub size : length bytes ≡ records.record_length

-- A linear EF has these records. All else is unchanged.
pub record LinearBecomes (m : List ℕ) (body : Linear) (records : List (List ℕ)) (after : List ℕ) : Type 0 where
  pub becomes : linear_body_records after body ≡ records
  pub start : start_told after body.counts_at ≡ 0
  pub blocks : chain_of after body.chain ≡ chain_of m body.chain
  pub only : OnlyBody m (chain_of m body.chain) body.counts_at after
