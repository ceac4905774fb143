-- Bodies of record EFs in a store: what calls that read or change them require.
use Rattle.std.specs.Prelude.{◌≡◌, ℕ, List, length, ◌≤◌, ◌+◌}
use Rattle.undo_journal.specs.Memory.{Memory, committed, IsReady}
use Rattle.ef_body.specs.declared.cyclic.Cyclic.{Cyclic}
use Rattle.ef_body.specs.Bodies.{IsCyclic}

-- The store is ready, and its words have these records.
pub record HasRecords (m : Memory) (ring : Cyclic) : Type 0 where
  pub ready : IsReady m
  pub body : IsCyclic (committed m) ring

-- The same, with a record of the right length to store.
pub record TakesRecord (m : Memory) (ring : Cyclic) (bytes : List ℕ) : Type 0 where
  pub ready : IsReady m
  pub body : IsCyclic (committed m) ring
  pub size : length bytes ≡ ring.record_length

-- The store takes a record, and `records` is the number of records of a cyclic EF with it in front.
pub record TakesFront (m : Memory) (ring : Cyclic) (bytes : List ℕ) (records : ℕ) : Type 0 where
  pub body : TakesRecord m ring bytes
  pub some : 1 ≤ records
  pub most : records ≤ ring.capacity
  pub more : records ≤ ring.records + 1

-- An amount of `count` bytes can be added to a record. None is shorter than it, or longer than a buffer of `most`
-- bytes.
pub record CanIncrease (m : Memory) (ring : Cyclic) (count most : ℕ) : Type 0 where
  pub body : HasRecords m ring
  pub sent : count ≤ ring.record_length
  pub room : ring.record_length ≤ most
