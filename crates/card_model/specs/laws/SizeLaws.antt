-- What a command names or sends is of the size that the table of commands allows.
use Rattle.std.specs.Prelude.{◌≡◌, ◌≤◌, ◌==◌, ◌%◌, ℕ, Bool, true, false, ◌&&◌, ◌||◌, nat_le, not, List, [], ◌∷◌, length}
use Rattle.std.specs.Prelude.{take, drop, IfSome, if◌then◌else◌}
use Rattle.std.proofs.lemmas.Bool.{leb-true, eqb-true, and_parts, or_cases}
use Rattle.std.proofs.Common.{arith, length-take, length-drop}
use Rattle.card_model.specs.Requests.{parent, name, path_from_master, path_from_current, identifiers, is_path}
use Rattle.card_model.specs.Requests.{HasBetween, IsPinValue, IsSizedName}
use Rattle.card_model.specs.CommandTable.{by_identifier, shown_value, shown_values}
use Rattle.card_model.specs.laws.Identifiers.{identifiers_counted}

-- a number that is tested to be between two others is
between : (least most n : ℕ) → (nat_le least n && nat_le n most) ≡ true → (least ≤ n) × (n ≤ most)
between least most n e =
    (leb-true least n (and_parts (nat_le least n) _ e).0, leb-true n most (and_parts (nat_le least n) _ e).1)

path-sized : (sent : List ℕ) → is_path (length sent) ≡ true → HasBetween 1 7 (identifiers sent)
path-sized sent e =
    let counted = identifiers_counted sent in
    let sent_length = length sent in
    let parts = and_parts ((sent_length % 2 == 0) && nat_le 2 sent_length) (nat_le sent_length 14) e in
    let least = leb-true 2 sent_length (and_parts (sent_length % 2 == 0) (nat_le 2 sent_length) parts.0).1 in
    let most = leb-true sent_length 14 parts.1 in
    (omega (arith, counted, least), omega (arith, counted, most))

by_identifier-sized : (sent : List ℕ) → IsSizedName (by_identifier sent)
by_identifier-sized [] = tt
by_identifier-sized (high ∷ bytes) = tt

-- the file that is named, by the answers of the tests of P1
pub named-sized : (is_00 is_03 is_04 is_08 : Bool) (sent : List ℕ)
    → (if is_00 then (length sent == 0) || (length sent == 2) else if is_03 then length sent == 0 else
    if is_04 then nat_le 1 (length sent) && nat_le (length sent) 16 else is_path (length sent)) ≡ true
    → IsSizedName (if is_00 then by_identifier sent else if is_03 then parent else if is_04 then name sent else
    if is_08 then path_from_master (identifiers sent) else path_from_current (identifiers sent))
named-sized true is_03 is_04 is_08 sent e = by_identifier-sized sent
named-sized false true is_04 is_08 sent e = tt
named-sized false false true is_08 sent e = between 1 16 (length sent) e
named-sized false false false true sent e = path-sized sent e
named-sized false false false false sent e = path-sized sent e

-- 1 to 255 bytes with no Le
pub sent-sized : (sent : List ℕ) (le : Bool) → (nat_le 1 (length sent) && nat_le (length sent) 255 && not le) ≡ true
    → HasBetween 1 255 sent
sent-sized sent le e =
    between 1 255 (length sent) (and_parts (nat_le 1 (length sent) && nat_le (length sent) 255) (not le) e).0

-- 1 to 255 bytes
pub text-sized : (sent : List ℕ) → (nat_le 1 (length sent) && nat_le (length sent) 255) ≡ true → HasBetween 1 255 sent
text-sized sent e = between 1 255 (length sent) e

-- some bytes, where none or so many are allowed, are so many
not-none : (byte : ℕ) (bytes : List ℕ) (n : ℕ) (le : Bool)
    → (((length (byte ∷ bytes) == 0) || (length (byte ∷ bytes) == n)) && not le) ≡ true → length (byte ∷ bytes) ≡ n
not-none byte bytes n le e =
    let sent_length = length (byte ∷ bytes) in
    let some : 1 ≤ sent_length = omega arith in
    let none : sent_length == 0 ≡ true → sent_length ≡ 0 = eqb-true sent_length 0 in
    let so_many : sent_length == n ≡ true → sent_length ≡ n = eqb-true sent_length n in
    let either = or_cases (sent_length == 0) (sent_length == n) (and_parts _ (not le) e).0 in
    grind (arith, some, none, so_many, either)

-- none or 8 bytes
pub value-sized : (sent : List ℕ) (le : Bool) → (((length sent == 0) || (length sent == 8)) && not le) ≡ true
    → IfSome (shown_value sent) IsPinValue
value-sized [] le e = tt
value-sized (byte ∷ bytes) le e = not-none byte bytes 8 le e

-- both halves of 16 bytes
halves-sized : (sent : List ℕ) → length sent ≡ 16 → IsPinValue (take 8 sent) × IsPinValue (drop 8 sent)
halves-sized sent e =
    let first = length-take 8 sent in
    let second = length-drop 8 sent in
    (omega (arith, first, e), omega (arith, second, e))

pub change-sized : (sent : List ℕ) (le : Bool) → ((length sent == 16) && not le) ≡ true
    → IsPinValue (take 8 sent) × IsPinValue (drop 8 sent)
change-sized sent le e = halves-sized sent (eqb-true (length sent) 16 (and_parts (length sent == 16) (not le) e).0)

-- none or 16 bytes
pub values-sized : (sent : List ℕ) (le : Bool) → (((length sent == 0) || (length sent == 16)) && not le) ≡ true
    → IfSome (shown_values sent) (λ values. IsPinValue values.0 × IsPinValue values.1)
values-sized [] le e = tt
values-sized (byte ∷ bytes) le e = halves-sized (byte ∷ bytes) (not-none byte bytes 16 le e)

-- 8 bytes
pub one-value-sized : (sent : List ℕ) (le : Bool) → ((length sent == 8) && not le) ≡ true → IsPinValue sent
one-value-sized sent le e = eqb-true (length sent) 8 (and_parts (length sent == 8) (not le) e).0
