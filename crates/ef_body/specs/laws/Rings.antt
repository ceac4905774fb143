-- Laws of bodies of records as a memory tells of them, and of the records that were found in them.
use Rattle.std.proofs.Common.{sym, ◌∙◌, ap, ap₂, arith}
use Rattle.std.specs.Prelude.{◌≡◌, ◌<◌, ◌≤◌, ℕ, List, length, slice_index}
use Rattle.block_chain.specs.Chains.{chain_bytes}
use Rattle.ef_body.specs.declared.cyclic.Cyclic.{Cyclic}
use Rattle.ef_body.specs.declared.slot.RecordSlot.{RecordSlot}
use Rattle.card_model.specs.RecordLists.{record_of}
use Rattle.ef_contents.specs.Records.{newest_first}
use Rattle.ef_body.specs.Bodies.{counts_word, number_told, start_told, cyclic_body_records, IsCyclic}
use Rattle.ef_body.specs.laws.Lists.{length-newest_first}

-- the word of an entry tells both numbers
pub told_number : (m : List ℕ) (at n s : ℕ) → slice_index m at ≡ counts_word n s → s < 0x10000 → number_told m at ≡ n
told_number m at n s is small = omega (arith, is, small)

pub told_start : (m : List ℕ) (at n s : ℕ) → slice_index m at ≡ counts_word n s → s < 0x10000 → start_told m at ≡ s
told_start m at n s is small = omega (arith, is, small)

-- a cyclic body as the memory tells of it
pub cyclic_is : (m : List ℕ) (body : Cyclic) → IsCyclic m body
    → cyclic_body_records m body
    ≡ newest_first body.record_length body.capacity (chain_bytes m body.chain) body.start body.records
cyclic_is m body is =
    let few = is.slots.few in
    let start = is.start in
    let small : body.start < 0x10000 = omega (arith, few, start) in
    ap₂ (newest_first body.record_length body.capacity (chain_bytes m body.chain))
    (told_start m body.counts_at body.records body.start is.told small)
    (told_number m body.counts_at body.records body.start is.told small)

pub length-cyclic : (m : List ℕ) (body : Cyclic) → IsCyclic m body → length (cyclic_body_records m body) ≡ body.records
length-cyclic m body is =
    ap (λ (l : List (List ℕ)). length l) (cyclic_is m body is)
    ∙ length-newest_first body.record_length body.capacity (chain_bytes m body.chain) body.start body.records

-- records that those of a cyclic body are
pub length-records : (m : List ℕ) (ring : Cyclic) (records : List (List ℕ)) → IsCyclic m ring
    → cyclic_body_records m ring ≡ records → length records ≡ ring.records
length-records m ring records is same =
    ap (λ (l : List (List ℕ)). length l) (sym same) ∙ length-cyclic m ring is

-- what a receipt tells of the body that gave it
module _ (body : Cyclic) (number : ℕ) (slot_record : RecordSlot) (at : (slot_record.ring ≡ body)
    × (slot_record.number ≡ number)) where
  pub received_last : number ≤ body.records
  received_last =
      let most = slot_record.to_last in
      let records : slot_record.ring.records ≡ body.records = ap (λ (r : Cyclic). r.records) at.0 in
      omega (arith, most, records, at.1)

  pub received_record : (m : List ℕ)
      → record_of (cyclic_body_records m slot_record.ring) slot_record.number
      ≡ record_of (cyclic_body_records m body) number
  received_record m = ap₂ (λ (r : Cyclic) (n : ℕ). record_of (cyclic_body_records m r) n) at.0 at.1
