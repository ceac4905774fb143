-- The session: what the card remembers from power-on to power-off (ISO/IEC 7816-4, 7.1; ETSI TS 102 221, 8.4).
use Rattle.std.specs.Prelude.{ℕ, Bool, List, [], map, Option, Some, None, refl}
use Rattle.std.specs.Ordering.{nat_cmp}
use Rattle.std.specs.Coded.{Coded, code_by, coded×, coded_ℕ, coded_list, coded_option}
use Rattle.std.specs.FinSet.{FinSet, contains, empty, from_list, code}
use Rattle.std.specs.List.{filter, range_with_len}
use Rattle.card_model.specs.Pins.{has_pin}
use Rattle.card_model.specs.Cards.{Path}

-- The current DF and, if there is one, the identifier of the current EF, a child of it. The record pointer, if it is
-- set. The numbers of the verified PINs.
pub record Session : Type 0 where
  pub current_df : Path
  pub current_ef : Option ℕ
  pub pointer : Option ℕ
  pub verified : FinSet nat_cmp

-- For PIN 1 to 8 in order, true if the PIN is verified.
abbrev pub marks_of : FinSet nat_cmp → List Bool
marks_of verified = map (λ n. contains verified n) (range_with_len 1 8)

-- The set of PINs, 1 to 8, whose mark is true.
abbrev pub marked : List Bool → FinSet nat_cmp
marked marks = from_list (filter (has_pin marks) (range_with_len 1 8))

-- The encoding of a session as the tuple of its fields.
abbrev pub session_code : Coded Session
session_code =
    code_by (Path × (Option ℕ × (Option ℕ × FinSet nat_cmp)))
    (coded× (coded_list coded_ℕ) (coded× (coded_option coded_ℕ) (coded× (coded_option coded_ℕ) (code coded_ℕ))))
    (λ s. (s.current_df, (s.current_ef, (s.pointer, s.verified))))
    (λ p. record { current_df = p.0; current_ef = p.1.0; pointer = p.1.1.0; verified = p.1.1.1 })
    (λ _. refl)

-- The session at power-on.
abbrev pub fresh_session : Session
fresh_session = record { current_df = []; current_ef = None; pointer = None; verified = empty }

-- A DF becomes current. There is no current EF then.
abbrev pub at_dedicated_file : Session → Path → Session
at_dedicated_file s path = record s { current_df = path; current_ef = None; pointer = None }

-- An EF becomes current, and its parent the current DF. The pointer is unset.
abbrev pub at_elementary_file : Session → Path → ℕ → Session
at_elementary_file s above id = record s { current_df = above; current_ef = Some id; pointer = None }
