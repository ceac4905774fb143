-- Refusals that several commands share: by life cycle, access rule and structure of the file, and by Le (ISO/IEC
-- 7816-4, 5.1, 7.3.1, 7.4.10 and 9.3.3).
use Rattle.std.specs.Prelude.{Bool, List, map, not, is_none, [], ◌∷◌, unwrap_or, ◌≡◌, ◌≤◌, ℕ, ◌==◌, nat_lt}
use Rattle.std.specs.Prelude.{true, false, ◌&&◌, length, Option, Some, None}
use Rattle.card_model.specs.declared.access_mode.AccessBit.{AccessBit}
use Rattle.card_model.specs.declared.life_cycle.LifeCycleCommand.{LifeCycleCommand}
use Rattle.card_model.specs.declared.status.TheConstants.Sw.{ACCESS_DENIED, CONDITIONS_NOT_SATISFIED, FILE_NOT_FOUND}
use Rattle.card_model.specs.declared.status.TheConstants.Sw.{NO_CURRENT_EF, WRONG_STRUCTURE}
use Rattle.card_model.specs.FileLives.{has_barred_above, is_allowed, is_barred, next_life}
use Rattle.card_model.specs.Cards.{Card, Path, Kind, file_at, identifier, parent}
use Rattle.card_model.specs.Behaviours.{Refusal, Refusals, no_refusals}
use Rattle.card_model.specs.Sessions.{Session, marks_of, at_elementary_file}
use Rattle.card_model.specs.declared.status.Sw.{Sw}
use Rattle.card_model.specs.StatusWords.{length_status}
use Rattle.card_model.specs.declared.requests.Target.{Target}
use Rattle.card_model.specs.declared.requests.Target.TheVariants.{Current, Short}
use Rattle.card_model.specs.Reaching.{target_of}

-- Refusals by the life cycle and the access rule of a file (ISO/IEC 7816-4, 7.4.10 and 9.3.3).

-- The file is barred: it or an ancestor is deactivated or terminated.
abbrev pub barred_file : Card → Path → Refusal
barred_file c path = record { applies = is_barred c.tree path; status = CONDITIONS_NOT_SATISFIED }

-- An ancestor is deactivated or terminated.
abbrev pub barred_above : Card → Path → Refusal
barred_above c path = record { applies = has_barred_above c.tree path; status = CONDITIONS_NOT_SATISFIED }

-- An ancestor is deactivated or terminated, or the file's own state doesn't allow the life cycle command.
abbrev pub no_next_life : Card → Path → LifeCycleCommand → Refusal
no_next_life c path command = record {
  applies = is_none (next_life c.tree path command);
  status = CONDITIONS_NOT_SATISFIED;
}

-- For each PIN in order, true if it is disabled.
abbrev pub disabled_of : Card → List Bool
disabled_of c = map (λ pin. not pin.enabled) c.pins

-- True if the rule of the file allows an operation in the file's state, with the session's verified PINs and the
-- card's disabled ones.
abbrev pub allowed : Card → Session → Path → AccessBit → Bool
allowed c s path bit = is_allowed c.tree path bit (marks_of s.verified) (disabled_of c)

abbrev pub unless_allowed : Bool → Refusal
unless_allowed allowed = record { applies = not allowed; status = ACCESS_DENIED }

abbrev pub denied : Card → Session → Path → AccessBit → Refusal
denied c s path bit = unless_allowed (allowed c s path bit)

-- The EF that a command on contents works on, and the refusals that all these commands share (ISO/IEC 7816-4, 7.3.1,
-- 7.4.10 and 9.3.3).

-- The path of the target. If there is no such EF the command is refused, whatever the path.
abbrev pub target_path : Card → Session → Target → Path
target_path c s target = unwrap_or (target_of c.tree s target) []

-- The kind and the content of the target.
abbrev pub target_kind : Card → Session → Target → Kind
target_kind c s target = (file_at c.tree (target_path c s target)).kind

-- The status word if there is no such EF.
abbrev pub missing : Target → Sw
missing Current = NO_CURRENT_EF
missing (Short n) = FILE_NOT_FOUND

-- The refusals of each command on contents by its file. There is no such file. It is barred. Its structure isn't one
-- that the command works on. Its rule doesn't allow the operation.
abbrev pub file_refusals : Card → Session → Target → (Kind → Bool) → AccessBit → Refusals
file_refusals c s target fits bit = record no_refusals {
  target = record { applies = is_none (target_of c.tree s target); status = missing target } ∷ [];
  life_cycle = barred_file c (target_path c s target) ∷ [];
  structure = record { applies = not (fits (target_kind c s target)); status = WRONG_STRUCTURE } ∷ [];
  access = denied c s (target_path c s target) bit ∷ [];
}

-- The same refusals with further ones that depend on the content.
abbrev pub with_limits : Refusals → List Refusal → Refusals
with_limits refusals limits = record refusals { limits = limits }

-- An EF named by its short identifier becomes current anew. For the current EF the session is unchanged.
abbrev pub naming : Session → Target → Path → Session
naming s Current path = s
naming s (Short n) path = at_elementary_file s (parent path) (identifier path)

-- The data that a command returns, by its Le (ISO/IEC 7816-4, 5.1).

-- Without Le the command returns no data. With Le, unless it is refused, it returns all.
abbrev pub given : Option ℕ → List ℕ → List ℕ
given None found = []
given (Some le) found = found

-- True if Le is less than the length of the data. Le 00 is never less.
abbrev pub asks_less : Option ℕ → List ℕ → Bool
asks_less None found = false
asks_less (Some le) found = not (le == 0) && nat_lt le (length found)

-- The status word 6CXX with the length of the data.
abbrev pub right_length : List ℕ → Sw
right_length found = length_status (length found)

-- The refusal of an Le that is too small, with the right length.
abbrev pub length_refusal : Option ℕ → List ℕ → Refusal
length_refusal expected found = record { applies = asks_less expected found; status = right_length found }

-- An answer that was empty before: without a refusal it holds the data that Le asks for. If Le is too small, it is
-- empty and the refusal gives the right length.
abbrev pub IsGiven : Option ℕ → List ℕ → List ℕ → Option Sw → Type 0
IsGiven expected found text None =
    (asks_less expected found ≡ false) × (text ≡ given expected found) × (length text ≤ 256)
IsGiven expected found text (Some refusal) =
    (asks_less expected found ≡ true) × (text ≡ []) × (refusal ≡ right_length found)
