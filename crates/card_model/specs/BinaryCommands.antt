-- READ BINARY and UPDATE BINARY: the bytes of a transparent EF (ISO/IEC 7816-4, 11.3).
use Rattle.std.specs.Prelude.{ℕ, ◌+◌, ◌==◌, nat_lt, nat_le, List, [], ◌∷◌, length, take, drop, if◌then◌else◌}
use Rattle.card_model.specs.declared.access_mode.AccessBit.TheVariants.{Read, Update}
use Rattle.card_model.specs.declared.status.Sw.{Sw}
use Rattle.card_model.specs.declared.status.TheConstants.Sw.{DONE, END_REACHED, NO_ROOM, WRONG_OFFSET}
use Rattle.card_model.specs.declared.requests.Target.{Target}
use Rattle.card_model.specs.Behaviours.{Behaviour, changes, looks, Outcome, Refusal, Refusals, Response, only_status}
use Rattle.card_model.specs.Cards.{Card, is_transparent, file_bytes, overwrite, with_content}
use Rattle.card_model.specs.Guards.{file_refusals, naming, target_kind, target_path, with_limits}
use Rattle.card_model.specs.Sessions.{Session}

-- The bytes of the target.
abbrev pub target_bytes : Card → Session → Target → List ℕ
target_bytes c s target = file_bytes (target_kind c s target)

-- Two refusals: an offset at or past the end of the bytes, and data that would extend past the end.
abbrev pub is_past : Card → Session → Target → ℕ → Refusal
is_past c s target offset = record { applies = nat_le (length (target_bytes c s target)) offset; status = WRONG_OFFSET }

abbrev pub is_too_long : Card → Session → Target → ℕ → List ℕ → Refusal
is_too_long c s target offset bytes = record {
  applies = nat_lt (length (target_bytes c s target)) (offset + length bytes);
  status = NO_ROOM;
}

-- The refusals of READ BINARY and of UPDATE BINARY.
abbrev pub read_refusals : Card → Session → Target → ℕ → Refusals
read_refusals c s target offset = with_limits (file_refusals c s target is_transparent Read)
    (is_past c s target offset ∷ [])

abbrev pub update_refusals : Card → Session → Target → ℕ → List ℕ → Refusals
update_refusals c s target offset bytes =
    with_limits (file_refusals c s target is_transparent Update)
    (is_past c s target offset ∷ is_too_long c s target offset bytes ∷ [])

-- The response for the bytes from the offset on. Le 00 returns all, at most 256. A larger Le than there are bytes
-- returns them all, with 6282.
abbrev pub read_response : List ℕ → ℕ → Response
read_response rest expected =
    if expected == 0 then record { text = take 256 rest; status = DONE } else
    if nat_lt (length rest) expected then record { text = rest; status = END_REACHED } else
    record { text = take expected rest; status = DONE }

-- The status word: 6282 if Le is larger than the number of bytes left.
abbrev pub end_status : ℕ → ℕ → Sw
end_status rest expected = if nat_lt rest expected then END_REACHED else DONE

-- The effect of READ BINARY.
abbrev pub binary_read : Card → Session → Target → ℕ → ℕ → Outcome
binary_read c s target offset expected = record {
  card = c;
  session = naming s target (target_path c s target);
  response = read_response (drop offset (target_bytes c s target)) expected;
}

-- The card with the bytes written over those from the offset on.
abbrev pub updated_card : Card → Session → Target → ℕ → List ℕ → Card
updated_card c s target offset bytes =
    with_content c (target_path c s target) (overwrite (target_bytes c s target) offset bytes)

-- The effect of UPDATE BINARY.
abbrev pub binary_updated : Card → Session → Target → ℕ → List ℕ → Outcome
binary_updated c s target offset bytes = record {
  card = updated_card c s target offset bytes;
  session = naming s target (target_path c s target);
  response = only_status DONE;
}

abbrev pub on_read_binary : Target → ℕ → ℕ → Behaviour
on_read_binary target offset expected =
    looks (λ c s. read_refusals c s target offset) (λ c s. binary_read c s target offset expected)

abbrev pub on_update_binary : Target → ℕ → List ℕ → Behaviour
on_update_binary target offset bytes =
    changes (λ c s. update_refusals c s target offset bytes) (λ c s. binary_updated c s target offset bytes)
