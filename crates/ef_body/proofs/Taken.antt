-- A linear body taken for a cyclic one, and what it becomes.
use Rattle.std.proofs.Common.{sym, ◌∙◌, ap, ap₂, arith, subst, length-append}
use Rattle.std.proofs.Math.ListN.{length-set}
use Rattle.std.specs.Prelude.{◌≡◌, ◌<◌, ◌≤◌, ◌-◌, ℕ, List, [], ◌∷◌, ◌++◌, length, slice_set}
use Rattle.block_chain.specs.Chains.{chain_bytes}
use Rattle.ef_contents.specs.Records.{newest_first}
use Rattle.ef_body.specs.declared.cyclic.Cyclic.{Cyclic}
use Rattle.ef_body.specs.Bodies.{number_told, start_told, cyclic_body_records}
use Rattle.ef_body.specs.BodyChanges.{RecordsBecome}
use Rattle.ef_body.specs.laws.Lists.{in_order-ring, length-newest_first}
use Rattle.ef_body.specs.declared.linear.Linear.{Linear}
use Rattle.ef_body.specs.LinearBodies.{linear_body_records, ring_of, IsLinear, LinearBecomes}
use Rattle.ef_body.specs.laws.Linears.{length-linear, ring_records}

-- The ring of a linear body does not wrap: what it becomes, that body becomes.
linear_becomes : (m after : List ℕ) (body : Linear) (records : List (List ℕ)) → length records ≤ body.capacity
    → RecordsBecome m (ring_of body) records after → LinearBecomes m body records after
linear_becomes m after body records few ring =
    let size = body.record_length in
    let bs = chain_bytes after body.chain in
    let n = number_told after body.counts_at in
    let start = start_told after body.counts_at in
    let many : length (newest_first size body.capacity bs start n) ≡ length records =
    ap (λ (l : List (List ℕ)). length l) ring.becomes in
    let told = length-newest_first size body.capacity bs start n in
    record {
      becomes = sym (in_order-ring size body.capacity bs n (omega (arith, many, told, few)))
          ∙ ap (λ (s : ℕ). newest_first size body.capacity bs s n) (sym ring.start) ∙ ring.becomes;
      start = ring.start;
      blocks = ring.blocks;
      only = ring.only;
    }

-- a linear body, and the ring that is taken for it
module _ (m : List ℕ) (body : Linear) (ring : Cyclic) (same : ring ≡ ring_of body) (is : IsLinear m body) where
  taken_records : cyclic_body_records m ring ≡ linear_body_records m body
  taken_records = ap (cyclic_body_records m) same ∙ ring_records m body is

  taken_becomes : (after : List ℕ) (records : List (List ℕ)) → length records ≤ body.capacity
      → RecordsBecome m ring records after → LinearBecomes m body records after
  taken_becomes after records few becomes =
      linear_becomes m after body records few (subst (λ (r : Cyclic). RecordsBecome m r records after) same becomes)

  -- with a record in place of another, and with one behind the last one
  pub taken_put : (after : List ℕ) (n number : ℕ) (bytes : List ℕ) → n ≡ number
      → RecordsBecome m ring (slice_set (cyclic_body_records m ring) (n - 1) bytes) after
      → LinearBecomes m body (slice_set (linear_body_records m body) (number - 1) bytes) after
  taken_put after n number bytes at becomes =
      let long = length-set (linear_body_records m body) (number - 1) bytes in
      let many = length-linear m body is in
      let most = is.number in
      taken_becomes after (slice_set (linear_body_records m body) (number - 1) bytes) (omega (arith, long, many, most))
      (subst (λ (l : List (List ℕ)). RecordsBecome m ring l after)
      (ap₂ (λ (l : List (List ℕ)) (k : ℕ). slice_set l (k - 1) bytes) taken_records at) becomes)

  pub taken_added : (after : List ℕ) (bytes : List ℕ) → ring.records < ring.capacity
      → RecordsBecome m ring (cyclic_body_records m ring ++ bytes ∷ []) after
      → LinearBecomes m body (linear_body_records m body ++ bytes ∷ []) after
  taken_added after bytes room becomes =
      let long = length-append (linear_body_records m body) (bytes ∷ []) in
      let many = length-linear m body is in
      let records : ring.records ≡ body.records = ap (λ (r : Cyclic). r.records) same in
      let capacity : ring.capacity ≡ body.capacity = ap (λ (r : Cyclic). r.capacity) same in
      taken_becomes after (linear_body_records m body ++ bytes
      ∷ []) (omega (arith, long, many, room, records, capacity))
      (subst (λ (l : List (List ℕ)). RecordsBecome m ring (l ++ bytes ∷ []) after) taken_records becomes)
