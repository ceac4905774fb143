-- What bytes name and send is of bytes.
use Rattle.std.specs.Prelude.{◌≡◌, ◌<◌, ◌==◌, ◌+◌, ℕ, zero, suc, true, nat_lt, List, [], ◌∷◌}
use Rattle.std.specs.Prelude.{length, take, drop, slice_index}
use Rattle.std.specs.Prelude.{Option, Some, None, unwrap_or, IfSome}
use Rattle.std.specs.List.{list_all}
use Rattle.std.proofs.lemmas.Bool.{ltb-true, and_parts}
use Rattle.std.proofs.Common.{arith, subst, sym, get_or-take, length-take}
use Rattle.card_model.specs.CommandTable.{SentBody, sent_body, by_identifier, named_file, shown_value, shown_values}
use Rattle.card_model.specs.Requests.{two_bytes, identifiers, parent, name, path_from_master, path_from_current}
use Rattle.card_model.specs.Requests.{AreBytes, AreIdentifiers, IsNamedByBytes}
use Rattle.card_model.specs.laws.ProperLaws.{either-if}

-- a body of bytes
pub record IsBodyOfBytes (body : SentBody) : Type 0 where
  pub sent : AreBytes body.sent
  pub expected : unwrap_or body.expected 0 < 256

pub bytes-rest : (byte : ℕ) (bytes : List ℕ) → AreBytes (byte ∷ bytes) → AreBytes bytes
bytes-rest byte bytes all k d lt = all (suc k) d (let below : suc k < length (byte ∷ bytes) = omega (arith, lt) in
    below)

pub bytes-take : (n : ℕ) (bytes : List ℕ) → AreBytes bytes → AreBytes (take n bytes)
bytes-take n bytes all k d lt =
    let some = length-take n bytes in
    let taken : k < n = omega (arith, lt, some) in
    let below : k < length bytes = omega (arith, lt, some) in
    subst (λ (byte : ℕ). byte < 256) (sym (get_or-take n bytes k d taken)) (all k d below)

-- each of some bytes, and 0 past their end, is below 256
pub byte-at : (bytes : List ℕ) (i : ℕ) → AreBytes bytes → slice_index bytes i < 256
byte-at [] i all = omega arith
byte-at (byte ∷ bytes) zero all = all 0 0 (let some : 0 < length (byte ∷ bytes) = omega arith in some)
byte-at (byte ∷ bytes) (suc i) all = byte-at bytes i (bytes-rest byte bytes all)

pub body-of_bytes : (bytes : List ℕ) → AreBytes bytes → IfSome (sent_body bytes) IsBodyOfBytes
body-of_bytes [] all = record { sent = all; expected = omega arith }
body-of_bytes (le ∷ []) all = record { sent = bytes-rest le [] all; expected = byte-at (le ∷ []) 0 all }
body-of_bytes (lc ∷ byte ∷ bytes) all =
    let rest = byte ∷ bytes in
    let rest_bytes : AreBytes rest = bytes-rest lc rest all in
    let whole : Option SentBody = Some (record { sent = rest; expected = None }) in
    let with_le : Option SentBody = Some (record { sent = take lc rest; expected = Some (slice_index rest lc) }) in
    let holds : Option SentBody → Type 0 = λ body. IfSome body IsBodyOfBytes in
    either-if holds (lc == 0) None _ tt
    (either-if holds (length rest == lc) whole _ (record { sent = rest_bytes; expected = omega arith })
    (either-if holds (length rest == lc + 1) with_le None
    (record { sent = bytes-take lc rest rest_bytes; expected = byte-at rest lc rest_bytes }) tt))

-- two bytes are below 65,536
two_bytes-below : (high low : ℕ) → high < 256 → low < 256 → two_bytes high low < 65536
two_bytes-below high low h l = omega (arith, h, l)

-- identifiers of bytes
identifiers-of_bytes : (bytes : List ℕ) → AreBytes bytes → AreIdentifiers (identifiers bytes)
identifiers-of_bytes [] all k d lt = absurd (omega (arith, lt))
identifiers-of_bytes (byte ∷ []) all k d lt = absurd (omega (arith, lt))
identifiers-of_bytes (high ∷ low ∷ bytes) all zero d lt =
    two_bytes-below high low (byte-at (high ∷ low ∷ bytes) 0 all) (byte-at (high ∷ low ∷ bytes) 1 all)
identifiers-of_bytes (high ∷ low ∷ bytes) all (suc k) d lt =
    identifiers-of_bytes bytes (bytes-rest low bytes (bytes-rest high (low ∷ bytes) all)) k d
    (let below : k < length (identifiers bytes) = omega (arith, lt) in below)

-- a file that is named by an identifier
by_identifier-of_bytes : (sent : List ℕ) → AreBytes sent → IsNamedByBytes (by_identifier sent)
by_identifier-of_bytes [] all = tt
by_identifier-of_bytes (high ∷ bytes) all =
    two_bytes-below high (slice_index bytes 0) (byte-at (high ∷ bytes) 0 all)
    (byte-at bytes 0 (bytes-rest high bytes all))

-- a file that is named in any way
pub named_file-of_bytes : (p1 : ℕ) (sent : List ℕ) → AreBytes sent → IsNamedByBytes (named_file p1 sent)
named_file-of_bytes p1 sent all =
    let path = identifiers-of_bytes sent all in
    either-if IsNamedByBytes (p1 == 0x00) (by_identifier sent) _ (by_identifier-of_bytes sent all)
    (either-if IsNamedByBytes (p1 == 0x03) parent _ tt
    (either-if IsNamedByBytes (p1 == 0x04) (name sent) _ all
    (either-if IsNamedByBytes (p1 == 0x08) (path_from_master (identifiers sent)) (path_from_current (identifiers sent))
    path path)))

pub bytes-drop : (n : ℕ) (bytes : List ℕ) → AreBytes bytes → AreBytes (drop n bytes)
bytes-drop zero bytes all = all
bytes-drop (suc n) [] all = all
bytes-drop (suc n) (byte ∷ bytes) all = bytes-drop n bytes (bytes-rest byte bytes all)

pub shown_value-of_bytes : (sent : List ℕ) → AreBytes sent → IfSome (shown_value sent) AreBytes
shown_value-of_bytes [] all = tt
shown_value-of_bytes (byte ∷ bytes) all = all

pub shown_values-of_bytes : (sent : List ℕ) → AreBytes sent
    → IfSome (shown_values sent) (λ values. AreBytes values.0 × AreBytes values.1)
shown_values-of_bytes [] all = tt
shown_values-of_bytes (byte ∷ bytes) all = (bytes-take 8 (byte ∷ bytes) all, bytes-drop 8 (byte ∷ bytes) all)

-- numbers that are tested to be bytes are bytes
pub are_bytes-tell : (numbers : List ℕ) → list_all (λ number. nat_lt number 256) numbers ≡ true → AreBytes numbers
are_bytes-tell [] e k d lt = absurd (omega arith)
are_bytes-tell (number ∷ numbers) e zero d lt = ltb-true number 256 (and_parts (nat_lt number 256) _ e).0
are_bytes-tell (number ∷ numbers) e (suc k) d lt =
    are_bytes-tell numbers (and_parts (nat_lt number 256) _ e).1 k d (let below : k < length numbers = omega arith in
    below)
