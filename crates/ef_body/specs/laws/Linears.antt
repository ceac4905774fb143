-- Laws of linear bodies as a memory tells of them, and of the ring that one is taken for.
use Rattle.std.proofs.Common.{sym, ◌∙◌, ap, arith}
use Rattle.std.specs.Prelude.{◌≡◌, ℕ, List, length}
use Rattle.block_chain.specs.Chains.{chain_bytes}
use Rattle.ef_contents.specs.Records.{linear_order}
use Rattle.ef_body.specs.Bodies.{cyclic_body_records, IsCyclic}
use Rattle.ef_body.specs.laws.Lists.{length-in_order, in_order-ring}
use Rattle.ef_body.specs.laws.Rings.{told_number, cyclic_is}
use Rattle.ef_body.specs.declared.linear.Linear.{Linear}
use Rattle.ef_body.specs.LinearBodies.{linear_body_records, ring_of, IsLinear}

-- a linear body as the memory tells of it
pub linear_is : (m : List ℕ) (body : Linear) → IsLinear m body
    → linear_body_records m body ≡ linear_order body.record_length (chain_bytes m body.chain) body.records
linear_is m body is =
    ap (linear_order body.record_length (chain_bytes m body.chain))
    (told_number m body.counts_at body.records 0 is.told (omega arith))

pub length-linear : (m : List ℕ) (body : Linear) → IsLinear m body → length (linear_body_records m body) ≡ body.records
length-linear m body is =
    ap (λ (l : List (List ℕ)). length l) (linear_is m body is)
    ∙ length-in_order body.record_length (chain_bytes m body.chain) body.records

-- a linear body taken for a cyclic one is one, of the same records
pub ring_is : (m : List ℕ) (body : Linear) → IsLinear m body → IsCyclic m (ring_of body)
ring_is m body is = record {
  slots = is.slots;
  number = is.number;
  start = (let room = is.slots.room in omega (arith, room));
  told = is.told;
}

pub ring_records : (m : List ℕ) (body : Linear) → IsLinear m body
    → cyclic_body_records m (ring_of body) ≡ linear_body_records m body
ring_records m body is =
    cyclic_is m (ring_of body) (ring_is m body is)
    ∙ in_order-ring body.record_length body.capacity (chain_bytes m body.chain) body.records is.number
    ∙ sym (linear_is m body is)
