-- Records in slots (ETSI TS 102 221, 8.2.2). A slot is as long as a record, and slots are adjacent.
use Rattle.std.specs.Prelude.{◌+◌, ◌*◌, ◌%◌, ℕ, List, map}
use Rattle.std.specs.Prelude.{slice_range}
use Rattle.std.specs.List.{range_with_len}

-- The record in slot `i` of these bytes.
abbrev pub slot_record : ℕ → List ℕ → ℕ → List ℕ
slot_record size bytes i = slice_range bytes (i * size) (i * size + size)

-- The records of a linear EF, in number order. Record 1 is in slot 0.
unfoldable pub linear_order : ℕ → List ℕ → ℕ → List (List ℕ)
linear_order size bytes number = map (slot_record size bytes) (range_with_len 0 number)

-- The records of a cyclic EF, the newest first. Record 1 is in the start slot, and the first slot follows the last
-- one.
unfoldable pub newest_first : ℕ → ℕ → List ℕ → ℕ → ℕ → List (List ℕ)
newest_first size capacity bytes start number =
    map (λ i. slot_record size bytes ((start + i) % capacity)) (range_with_len 0 number)
