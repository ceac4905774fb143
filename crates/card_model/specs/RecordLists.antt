-- Records: lists of records, numbers as bytes, and the hits of SEARCH RECORD (ETSI TS 102 221, 8.2.2; ISO/IEC 7816-4,
-- 11.4.7).
use Rattle.std.specs.Prelude.{◌-◌, ◌&&◌, ℕ, Bool, List, [], ◌∷◌, length, take, nat_le, slice_index_or, zero, suc, ◌+◌}
use Rattle.std.specs.Prelude.{◌*◌, ◌/◌, ◌%◌, ◌^◌, drop, reverse, nat_eq}
use Rattle.std.specs.List.{filter, list_any, range_with_len, starts_with}
use Rattle.card_model.specs.declared.direction.Direction.{Direction}
use Rattle.card_model.specs.declared.direction.Direction.TheVariants.{Forward, Backward}

-- Lists of records (ETSI TS 102 221, 8.2.2).

-- The list with a new record in front, cut to its first `n` records.
abbrev pub front : ℕ → List ℕ → List (List ℕ) → List (List ℕ)
front n newest records = take n (newest ∷ records)

-- True if there is a record of this number. Numbers begin at 1.
abbrev pub has_record : List (List ℕ) → ℕ → Bool
has_record records number = nat_le 1 number && nat_le number (length records)

-- The record of this number, empty if there is none. For number 0 it is record 1.
abbrev pub record_of : List (List ℕ) → ℕ → List ℕ
record_of records number = slice_index_or records (number - 1) []

-- Numbers as bytes, the most significant byte first.

-- The number that the bytes encode.
unfoldable pub number_of : List ℕ → ℕ
number_of [] = 0
number_of (byte ∷ bytes) = byte * 256 ^ length bytes + number_of bytes

-- The encoding of a number in a given number of bytes.
unfoldable pub spelled : ℕ → ℕ → List ℕ
spelled zero n = []
spelled (suc size) n = n / 256 ^ size % 256 ∷ spelled size (n % 256 ^ size)

-- The sum that INCREASE stores.

-- Record 1 as a number plus the number in the command's data.
abbrev pub raised_number : List (List ℕ) → List ℕ → ℕ
raised_number records sent = number_of (record_of records 1) + number_of sent

-- SEARCH RECORD: the records that contain a search string (ISO/IEC 7816-4, 11.4.7).

-- True if the string occurs anywhere in the record.
abbrev pub stands_in : List ℕ → List ℕ → Bool
stands_in text bytes = list_any (λ at. starts_with nat_eq (drop at bytes) text) (range_with_len 0 (length bytes))

-- The record numbers in search order: from the first one up to the last record, or down to 1.
abbrev pub numbers_on : Direction → ℕ → ℕ → List ℕ
numbers_on Forward first last = range_with_len first (last + 1 - first)
numbers_on Backward first last = reverse (range_with_len 1 first)

-- The numbers of the records that contain the string, in search order. The search doesn't wrap around.
abbrev pub records_found : Direction → ℕ → List ℕ → List (List ℕ) → List ℕ
records_found direction first text records =
    filter (λ number. stands_in text (record_of records number)) (numbers_on direction first (length records))
