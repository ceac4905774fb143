-- The postconditions of calls on a ring of slots: a lookup, and the sum of INCREASE.
use Rattle.std.specs.Prelude.{◌≡◌, ◌⊎◌, ℕ, List, [], length, Result, IfOk, OnOk}
use Rattle.std.specs.Result.{result_err}
use Rattle.card_model.specs.declared.status.Sw.{Sw}
use Rattle.block_chain.specs.ChainChanges.{AppendsSome}
use Rattle.ef_body.specs.declared.cyclic.Cyclic.{Cyclic}
use Rattle.ef_contents.specs.declared.error.BodyErr.{BodyErr}
use Rattle.ef_body.specs.declared.slot.RecordSlot.{RecordSlot}
use Rattle.card_model.specs.RecordLists.{spelled, record_of, raised_number}
use Rattle.ef_contents.specs.Refusals.{missing_record, unraised, DecidesUnlessFailed, WhereRefused}

-- The lookup of a record in a ring finds it, unless there is none.
pub record FindsRecord (ring : Cyclic) (number : ℕ) (result : Result RecordSlot Sw) : Type 0 where
  pub found : IfOk result (λ slot. (slot.ring ≡ ring) × (slot.number ≡ number))
  pub refusal : (records : List (List ℕ)) → length records ≡ ring.records
      → missing_record records number ≡ result_err result

-- The buffer gets the sum of record 1 and the sent number, in `size` bytes. It is empty if there is no record, or the
-- sum doesn't fit. If the store fails, it has a first part of record 1, or the sum.
pub record ReceivesSum {T : Type 0} (size : ℕ) (records : List (List ℕ)) (sent buffer_now : List ℕ)
    (result : Result T BodyErr) : Type 0 where
  pub bytes : OnOk result (buffer_now ≡ spelled size (raised_number records sent))
  pub emptied : WhereRefused (result_err result) (buffer_now ≡ [])
  pub buffer : AppendsSome [] (record_of records 1) buffer_now
      ⊎ (buffer_now ≡ spelled size (raised_number records sent))
  pub refusal : DecidesUnlessFailed (unraised size records sent) (result_err result)
