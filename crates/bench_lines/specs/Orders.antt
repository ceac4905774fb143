-- The script language: the order of each line.
use Rattle.std.specs.Prelude.{ℕ, ◌+◌, ◌-◌, ◌*◌, ◌≤◌, ◌==◌, ◌&&◌, ◌||◌, nat_le, nat_lt, nat_eq, Bool, List, [], ◌∷◌}
use Rattle.std.specs.Prelude.{length, drop, take}
use Rattle.std.specs.Prelude.{codes, slice_index, Option, Some, None, Result, Ok, Err, option_map, if◌then◌else◌}
use Rattle.std.specs.Char.{is_ascii_digit}
use Rattle.std.specs.Cmp.Lexicographic.{pointwise}
use Rattle.std.specs.List.{list_all}
use Rattle.std.specs.Str.Parse.{digits_value}
use Rattle.hex.specs.Hex.{decode_of}
use Rattle.hex.specs.declared.error.FromHexError.{FromHexError}
use Rattle.bench_lines.specs.declared.order.TheConstants.{LINE_LIMIT, COMMAND_LIMIT, BLOCK_LIMIT, NUMBER_DIGITS}

-- The order of a line: nothing; power on; power off; print the free space; send a command; send a block; cut a device
-- write, with these words of it new; or lose, or garble, a block.
pub data Order : Type 0 where
  Nothing : Order
  On : Order
  Off : Order
  Free : Order
  Apdu : List ℕ → Order
  Block : List ℕ → Order
  Cut : ℕ → ℕ → Order
  Lose : ℕ → Order
  Garble : ℕ → Order

-- these bytes, if there are 1 to `limit`
abbrev pub within_limit : ℕ → Result (List ℕ) FromHexError → Option (List ℕ)
within_limit limit (Ok bytes) = if nat_le 1 (length bytes) && nat_le (length bytes) limit then Some bytes else None
within_limit limit (Err error) = None

-- the bytes that hexadecimal digits of either case spell, if there are 1 to `limit`
abbrev pub bytes_in : List ℕ → ℕ → Option (List ℕ)
bytes_in digits limit = within_limit limit (decode_of digits)

-- true if these are 1 to 6 decimal digits
abbrev pub is_decimal : List ℕ → Bool
is_decimal digits = (nat_le 1 (length digits) && nat_le (length digits) NUMBER_DIGITS) && list_all is_ascii_digit digits

-- the number that 1 to 6 decimal digits spell, if it is at least 1
abbrev pub number_in : List ℕ → Option ℕ
number_in digits = if is_decimal digits
    && nat_le 1 (digits_value 10 digits) then Some (digits_value 10 digits) else None

-- the 16-bit number that four hexadecimal digits of either case spell
abbrev pub mask_by : Result (List ℕ) FromHexError → Option ℕ
mask_by (Ok (high ∷ low ∷ [])) = Some (256 * high + low)
mask_by (Ok bytes) = None
mask_by (Err error) = None

-- the arguments of a cut: a number, a space (32), and four hexadecimal digits
abbrev pub cut_by : Option ℕ → Option ℕ → Option Order
cut_by (Some number) (Some mask) = Some (Cut number mask)
cut_by number mask = None

abbrev pub cut_in : List ℕ → Option Order
cut_in words =
    let digits = length words - 5 in
    if nat_le 5 (length words) && (slice_index words digits == 32)
    then cut_by (number_in (take digits words)) (mask_by (decode_of (drop (digits + 1) words)))
    else None

-- true if a line begins with a word
abbrev pub begins_with : List ℕ → List ℕ → Bool
begins_with line word = pointwise nat_eq (take (length word) line) word

-- The order of a line; None: a bad line. A line has at most 1,024 bytes. An empty line and one that begins with # (35)
-- order nothing.
unfoldable pub order_of : List ℕ → Option Order
order_of line =
    if nat_lt LINE_LIMIT (length line) then None else
    if length line == 0 || slice_index line 0 == 35 then Some Nothing else
    if pointwise nat_eq line (codes "on") then Some On else
    if pointwise nat_eq line (codes "off") then Some Off else
    if pointwise nat_eq line (codes "free") then Some Free else
    if begins_with line (codes "apdu ") then option_map Apdu (bytes_in (drop 5 line) COMMAND_LIMIT) else
    if begins_with line (codes "block ") then option_map Block (bytes_in (drop 6 line) BLOCK_LIMIT) else
    if begins_with line (codes "cut ") then cut_in (drop 4 line) else
    if begins_with line (codes "lose ") then option_map Lose (number_in (drop 5 line)) else
    if begins_with line (codes "garble ") then option_map Garble (number_in (drop 7 line)) else
    None

-- a command has 1 to 261 bytes, a block 1 to 300, and a number is 1 to 999,999
abbrev pub IsOrderSized : Order → Type 0
IsOrderSized Nothing = Unit {0}
IsOrderSized On = Unit {0}
IsOrderSized Off = Unit {0}
IsOrderSized Free = Unit {0}
IsOrderSized (Apdu bytes) = (1 ≤ length bytes) × (length bytes ≤ COMMAND_LIMIT)
IsOrderSized (Block bytes) = (1 ≤ length bytes) × (length bytes ≤ BLOCK_LIMIT)
IsOrderSized (Cut number mask) = (1 ≤ number) × (number ≤ 999999)
IsOrderSized (Lose number) = (1 ≤ number) × (number ≤ 999999)
IsOrderSized (Garble number) = (1 ≤ number) × (number ≤ 999999)
