-- The refusals of calls on bodies, and their relation to the result.
use Rattle.std.specs.Prelude.{◌≡◌, Option, None, Some, ◌+◌, ◌^◌, ℕ, List, length, nat_le, nat_lt, if◌then◌else◌}
use Rattle.card_model.specs.declared.status.Sw.{Sw}
use Rattle.undo_journal.specs.declared.error.StoreErr.{StoreErr}
use Rattle.ef_contents.specs.declared.error.BodyErr.{BodyErr}
use Rattle.ef_contents.specs.declared.error.BodyErr.TheVariants.{Refused, Store}
use Rattle.card_model.specs.declared.status.TheConstants.Sw.{RECORD_NOT_FOUND, NO_ROOM, WRONG_OFFSET, MAXIMUM_REACHED}
use Rattle.card_model.specs.RecordLists.{has_record, raised_number}

-- The result is a refusal with this status word exactly if the refusal applies.
abbrev pub Decides : Option Sw → Option BodyErr → Type 0
Decides refusal None = refusal ≡ None
Decides refusal (Some (Refused status)) = refusal ≡ Some status
Decides refusal (Some (Store e)) = refusal ≡ None

-- The same for a call that reads the store to find out: it may fail in that.
abbrev pub DecidesUnlessFailed : Option Sw → Option BodyErr → Type 0
DecidesUnlessFailed refusal None = refusal ≡ None
DecidesUnlessFailed refusal (Some (Refused status)) = refusal ≡ Some status
DecidesUnlessFailed refusal (Some (Store e)) = Unit {0}

-- A fact that holds if the call is refused.
abbrev pub WhereRefused : Option BodyErr → Type 0 → Type 0
WhereRefused None fact = Unit {0}
WhereRefused (Some (Refused status)) fact = fact
WhereRefused (Some (Store e)) fact = Unit {0}

-- The store's failure in a result. A refusal is none.
abbrev pub why_failed : Option BodyErr → Option StoreErr
why_failed None = None
why_failed (Some (Refused status)) = None
why_failed (Some (Store e)) = Some e

-- There is no record of this number.
abbrev pub missing_record : List (List ℕ) → ℕ → Option Sw
missing_record records number = if has_record records number then None else Some RECORD_NOT_FOUND

-- A linear EF has as many records as its capacity.
abbrev pub full : ℕ → List (List ℕ) → Option Sw
full capacity records = if nat_le capacity (length records) then Some NO_ROOM else None

-- There is no record, or the sum doesn't fit in a record.
abbrev pub unraised : ℕ → List (List ℕ) → List ℕ → Option Sw
unraised size records sent =
    if has_record records 1
    then (if nat_le (256 ^ size) (raised_number records sent) then Some MAXIMUM_REACHED else None)
    else Some RECORD_NOT_FOUND

-- The offset is at the end of the bytes or past it.
abbrev pub past_end : List ℕ → ℕ → Option Sw
past_end bytes offset = if nat_le (length bytes) offset then Some WRONG_OFFSET else None

-- The same, or the new bytes would extend past the end.
abbrev pub overlong : List ℕ → ℕ → List ℕ → Option Sw
overlong bytes offset new =
    if nat_le (length bytes) offset then Some WRONG_OFFSET else
    if nat_lt (length bytes) (offset + length new) then Some NO_ROOM else None
