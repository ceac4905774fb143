-- The record that INCREASE stores, and what it makes of a body.
use Rattle.std.proofs.Common.{refl, sym, ◌∙◌, ap, ap₂, arith, inl, inr, subst, ⊎_elim}
use Rattle.std.proofs.lemmas.Bool.{cases_lt, le-leb, lt-leb}
use Rattle.std.proofs.lemmas.List.{take_all}
use Rattle.std.specs.Prelude.{◌≡◌, ◌<◌, ◌≤◌, ◌+◌, ◌^◌, ℕ, Bool, true, false, List, ◌∷◌}
use Rattle.std.specs.Prelude.{[], length, All, Option, Some, None, option_map, if◌then◌else◌, nat_le, min}
use Rattle.std.specs.Prelude.{Result, Ok, Err, IsErrAnd}
use Rattle.std.specs.Result.{result_err}
use Rattle.card_model.specs.declared.status.Sw.{Sw}
use Rattle.card_model.specs.declared.status.TheConstants.Sw.{RECORD_NOT_FOUND, MAXIMUM_REACHED}
use Rattle.undo_journal.specs.declared.error.StoreErr.{StoreErr}
use Rattle.undo_journal.specs.laws.Exits.{ok_anyway}
use Rattle.block_chain.specs.ChainChanges.{AppendsSome}
use Rattle.ef_contents.specs.declared.error.BodyErr.{BodyErr}
use Rattle.ef_contents.specs.declared.error.BodyErr.TheVariants.{Store}
use Rattle.ef_body.specs.declared.cyclic.Cyclic.{Cyclic}
use Rattle.ef_body.specs.Bodies.{cyclic_body_records}
use Rattle.ef_body.specs.RingCalls.{ReceivesSum}
use Rattle.ef_body.specs.BodyChanges.{CyclicBecomes, Increases}
use Rattle.card_model.specs.RecordLists.{has_record, record_of, front, number_of, spelled, raised_number}
use Rattle.ef_contents.specs.Refusals.{missing_record, unraised, DecidesUnlessFailed}
use Rattle.card_model.specs.laws.Numbers.{number-small, spelled-number}
use Rattle.ef_contents.specs.laws.Refusing.{store_refuses, there}

-- at most as many records as there is room for
pub front-most : (k capacity : ℕ) (new : List ℕ) (records : List (List ℕ)) → k ≡ min (length records + 1) capacity
    → front k new records ≡ front capacity new records
front-most k capacity new records is = ⊎_elim
    (λ (room : length records < capacity).
    let all : length (new ∷ records) ≤ k = omega (arith, is, room) in
    let more : length (new ∷ records) ≤ capacity = omega (arith, room) in
    take_all k (new ∷ records) all ∙ sym (take_all capacity (new ∷ records) more))
    (λ (none : capacity ≤ length records).
    let same : k ≡ capacity = omega (arith, is, none) in ap (λ (n : ℕ). front n new records) same)
    (cases_lt (length records) capacity)

-- there is no record to raise, as a look tells it
pub unraised_unfound : (size : ℕ) (records : List (List ℕ)) (sent : List ℕ) (status : Sw)
    → missing_record records 1 ≡ Some status → unraised size records sent ≡ Some status
unraised_unfound size records sent status is =
    by_test (has_record records 1)
    (if nat_le (256 ^ size) (raised_number records sent) then Some MAXIMUM_REACHED else None) is
  where
    by_test : (h : Bool) (raised : Option Sw)
        → (let missing : Option Sw = if h then None else Some RECORD_NOT_FOUND in missing) ≡ Some status
        → (let status : Option Sw = if h then raised else Some RECORD_NOT_FOUND in status) ≡ Some status
    by_test true raised is = cc
    by_test false raised is = is

-- there is one
pub unraised_there : (size : ℕ) (records : List (List ℕ)) (sent : List ℕ) (high : Bool) → has_record records 1 ≡ true
    → nat_le (256 ^ size) (raised_number records sent) ≡ high
    → unraised size records sent ≡ (if high then Some MAXIMUM_REACHED else None)
unraised_there size records sent high some is =
    ap₂ (λ (h k : Bool). let status : Option Sw = if h then (if k then Some MAXIMUM_REACHED else None)
    else Some RECORD_NOT_FOUND in status) some is

-- the sum, and whether it is too high
module _ (size : ℕ) (records : List (List ℕ)) (sent old now : List ℕ) (high : Bool) (many : 1 ≤ length records)
    (read : old ≡ record_of records 1) (long : length old ≡ size) (same : length now ≡ length old)
    (digits : All (λ b. b < 256) now)
    (sum : number_of now + (if high then 256 ^ length old else 0) ≡ number_of old + number_of sent) where
  some : has_record records 1 ≡ true
  some = there records (length records) 1 refl (omega arith) many

  below : number_of now < 256 ^ size
  below =
      let small = number-small now digits in
      let power : 256 ^ length now ≡ 256 ^ size = ap (λ (k : ℕ). 256 ^ k) (same ∙ long) in
      omega (arith, small, power)

  raised : number_of old + number_of sent ≡ raised_number records sent
  raised = ap (λ (l : List ℕ). number_of l + number_of sent) read

  power_old : 256 ^ length old ≡ 256 ^ size
  power_old = ap (λ (k : ℕ). 256 ^ k) long

  pub too_high : high ≡ true → unraised size records sent ≡ Some MAXIMUM_REACHED
  too_high is =
      let e : (if high then 256 ^ length old else 0) ≡ 256 ^ size =
      ap (λ (b : Bool). if b then 256 ^ length old else 0) is ∙ power_old in
      let above : 256 ^ size ≤ raised_number records sent = omega (arith, e, sum, raised) in
      unraised_there size records sent true some (le-leb (256 ^ size) (raised_number records sent) above)

  exact : high ≡ false → number_of now ≡ raised_number records sent
  exact is =
      let e : (if high then 256 ^ length old else 0) ≡ 0 = ap (λ (b : Bool). if b then 256 ^ length old else 0) is in
      omega (arith, e, sum, raised)

  pub not_too_high : high ≡ false → unraised size records sent ≡ None
  not_too_high is =
      let e = exact is in
      let low : raised_number records sent < 256 ^ size = omega (arith, e, below) in
      unraised_there size records sent false some (lt-leb (256 ^ size) (raised_number records sent) low)

  pub is_sum : high ≡ false → now ≡ spelled size (raised_number records sent)
  is_sum is =
      sym (spelled-number now digits) ∙ ap₂ spelled (same ∙ long) (exact is)

-- the store failed before the sum was made
pub failed_sum : {T : Type 0} (r : Result T BodyErr) (e : BodyErr) → IsErrAnd r (λ b. b ≡ e) → (told : Option StoreErr)
    → Some e ≡ option_map Store told → (size : ℕ) (records : List (List ℕ)) (sent buffer : List ℕ)
    → AppendsSome [] (record_of records 1) buffer → ReceivesSum size records sent buffer r
failed_sum (Ok v) e is told from size records sent buffer some = absurd is
failed_sum (Err b) e is None from size records sent buffer some = cc
failed_sum {T} (Err b) e is (Some f) from size records sent buffer some =
    let same : b ≡ Store f = cc in
    subst (λ (b : BodyErr). let r : Result T BodyErr = Err b in ReceivesSum size records sent buffer r) (sym same)
    (record { bytes = tt; emptied = tt; buffer = inl some; refusal = tt })

-- what a failed sum tells, of the result that hands its failure on
pub handed_sum : {T U : Type 0} (r : Result U BodyErr) (e : BodyErr) → IsErrAnd r (λ b. b ≡ e) → (size : ℕ)
    (records : List (List ℕ)) (sent buffer : List ℕ)
    → (let failed : Result T BodyErr = Err e in ReceivesSum size records sent buffer failed)
    → ReceivesSum size records sent buffer r
handed_sum (Ok v) e is size records sent buffer sum = absurd is
handed_sum {T} {U} (Err b) e is size records sent buffer sum =
    subst (λ (b : BodyErr). let r : Result U BodyErr = Err b in ReceivesSum size records sent buffer r) (sym is)
    (record { bytes = tt; emptied = sum.emptied; buffer = sum.buffer; refusal = sum.refusal })

-- the sum is made, and the store answers
pub stored_sum : {T U : Type 0} (r : Result T StoreErr) (s : Result U BodyErr)
    → result_err s ≡ option_map Store (result_err r) → (size : ℕ) (records : List (List ℕ)) (sent buffer : List ℕ)
    → buffer ≡ spelled size (raised_number records sent) → unraised size records sent ≡ None
    → ReceivesSum size records sent buffer s
stored_sum r s is size records sent buffer sum none = record {
  bytes = ok_anyway _ s sum;
  emptied = store_refuses r s is _;
  buffer = inr sum;
  refusal = subst (λ (answer : Option BodyErr). DecidesUnlessFailed (unraised size records sent) answer) (sym is)
      (decides (result_err r));
}
  where
    decides : (told : Option StoreErr) → DecidesUnlessFailed (unraised size records sent) (option_map Store told)
    decides None = none
    decides (Some e) = tt

-- the sum in front, where the words and the ring are those before
pub increases : (m now after : List ℕ) (body ring : Cyclic) (sent sum : List ℕ) → now ≡ m → ring ≡ body
    → sum ≡ spelled body.record_length (raised_number (cyclic_body_records m body) sent)
    → CyclicBecomes now ring (front (length (cyclic_body_records now ring)) sum (cyclic_body_records now ring)) after
    → Increases m body sent after
increases m now after body ring sent sum same is made becomes =
    let here = subst (λ (k : List ℕ). CyclicBecomes k ring (front (length (cyclic_body_records k ring)) sum
    (cyclic_body_records k ring)) after) same becomes in
    let own = subst (λ (r : Cyclic). CyclicBecomes m r (front (length (cyclic_body_records m r)) sum
    (cyclic_body_records m r)) after) is here in
    subst (λ (l : List ℕ). CyclicBecomes m body (front (length (cyclic_body_records m body)) l
    (cyclic_body_records m body)) after) made own
