-- A command whose instruction is none of a PIN's shows no secret, by the table of commands.
use Rattle.std.specs.Prelude.{◌≡◌, ◌<◌, ◌==◌, ◌&&◌, ℕ, Bool, true, IsTrue, List, [], ◌∷◌, Option, None, Some, IfSome}
use Rattle.std.specs.Prelude.{Result, Ok, Err, find, is_some, length}
use Rattle.std.proofs.Common.{arith, refl, subst}
use Rattle.std.proofs.lemmas.Bool.{and_parts, eqb-true}
use Rattle.card_model.specs.declared.status.Sw.{Sw}
use Rattle.card_model.specs.declared.status.TheConstants.Sw.{UNKNOWN_CLASS, WRONG_LENGTH, WRONG_PARAMETERS}
use Rattle.card_model.specs.Behaviours.{Attempt}
use Rattle.card_model.specs.Cards.{Card}
use Rattle.card_model.specs.CommandTable.{Row, SentBody, asked, asked_by_body, asked_by_row, binary_rows, command_table}
use Rattle.card_model.specs.CommandTable.{change_reference_data_row, requirement_row, reset_retry_counter_row}
use Rattle.card_model.specs.CommandTable.{verify_row}
use Rattle.card_model.specs.declared.requests.RequirementChange.TheVariants.{Disable, Enable}
use Rattle.card_model.specs.CommandTable.{file_rows, is_class, life_cycle_rows, pin_rows, record_rows, row_of}
use Rattle.card_model.specs.CommandTable.{select_rows, sent_body}
use Rattle.card_model.specs.Requests.{Request}
use Rattle.card_model.specs.Steps.{attempt_of}
use Rattle.card_model.specs.laws.TableLaws.{EachRow, choose, each_group}
use Rattle.nvm_board.specs.Facts.{Facts}
use Rattle.command_base.specs.Comparing.{ComparesAsked, ComparesShown, comparisons}
use Rattle.bench_lines.specs.Orders.{Apdu}
use Rattle.card_bench.specs.Charges.{MayCompare, is_pin_instruction}

-- a request that shows no secret, or none at all
abbrev pub ShowsNone : Result Request Sw → Type 0
ShowsNone (Ok request) = attempt_of request ≡ None
ShowsNone (Err status) = Unit {0}

-- then nothing is compared
pub compares-nothing : (wanted : Result Request Sw) (c d : Card) (old new : Facts) → ShowsNone wanted
    → ComparesAsked wanted c old d new → comparisons new ≡ comparisons old
compares-nothing (Ok request) c d old new none compares =
    subst (λ (a : Option Attempt). ComparesShown a c old d new) none compares
compares-nothing (Err status) c d old new none compares = compares

-- each meaning of a row shows no secret
abbrev Plain : Row → Type 0
Plain row = (p1 p2 : ℕ) (body : SentBody) → attempt_of (row.meaning p1 p2 body) ≡ None

-- a row of a class and an instruction
abbrev is_row : ℕ → ℕ → Row → Bool
is_row class instruction row = (row.class == class) && (row.instruction == instruction)

-- a row that is found is one of the list
found-plain : (test : Row → Bool) (rows : List Row) → EachRow (λ row. test row ≡ true → Plain row) rows
    → IfSome (find test rows) Plain
found-plain test [] all = tt
found-plain test (row ∷ rows) all =
    choose (λ (found : Option Row). IfSome found Plain) (test row) (Some row) _ all.0 (found-plain test rows all.1)

module _ (class instruction : ℕ) (plain : ¬ IsTrue (is_pin_instruction instruction)) where
  -- the row of an instruction of a PIN isn't found
  not-of : (number other : ℕ) → is_pin_instruction number ≡ true
      → ((other == class) && (number == instruction)) ≡ true → ⊥
  not-of number other of found =
      let same = eqb-true number instruction (and_parts (other == class) (number == instruction) found).1 in
      plain (subst (λ (n : ℕ). is_pin_instruction n ≡ true) same of)

  abbrev PlainFound : Row → Type 0
  PlainFound row = is_row class instruction row ≡ true → Plain row

  -- a row of a command on PINs
  pin : (row : Row) (number : ℕ) → is_pin_instruction number ≡ true → row.instruction ≡ number → PlainFound row
  pin row number of is = λ found. absurd (not-of number row.class of (subst (λ (n : ℕ).
      ((row.class == class) && (n == instruction)) ≡ true) is found))

  selects : EachRow PlainFound select_rows
  selects = ((λ found p1 p2 body. refl), tt)

  binaries : EachRow PlainFound binary_rows
  binaries = ((λ found p1 p2 body. refl), ((λ found p1 p2 body. refl), tt))

  files : EachRow PlainFound file_rows
  files = ((λ found p1 p2 body. refl), ((λ found p1 p2 body. refl), tt))

  records : EachRow PlainFound record_rows
  records = (
    (λ found p1 p2 body. refl),
    (
      (λ found p1 p2 body. refl),
      (
        (λ found p1 p2 body. refl),
        ((λ found p1 p2 body. refl), ((λ found p1 p2 body. refl), tt)),
      ),
    ),
  )

  life_cycles : EachRow PlainFound life_cycle_rows
  life_cycles = (
    (λ found p1 p2 body. refl),
    (
      (λ found p1 p2 body. refl),
      (
        (λ found p1 p2 body. refl),
        ((λ found p1 p2 body. refl), ((λ found p1 p2 body. refl), tt)),
      ),
    ),
  )

  pins : EachRow PlainFound pin_rows
  pins = (
    pin verify_row 0x20 refl refl,
    (
      pin change_reference_data_row 0x24 refl refl,
      (
        pin reset_retry_counter_row 0x2C refl refl,
        (pin (requirement_row Disable) 0x26 refl refl, (pin (requirement_row Enable) 0x28 refl refl, tt)),
      ),
    ),
  )

  plain-row : IfSome (row_of class instruction) Plain
  plain-row =
      found-plain (is_row class instruction) command_table
      (each_group PlainFound selects binaries files records life_cycles pins)

body-plain : (row : Row) (p1 p2 : ℕ) (body : Option SentBody) → Plain row → ShowsNone (asked_by_body row p1 p2 body)
body-plain row p1 p2 None plain = tt
body-plain row p1 p2 (Some body) plain =
    choose ShowsNone (row.lengths p1 p2 (length body.sent) (is_some body.expected)) (Ok (row.meaning p1 p2 body))
    (Err WRONG_LENGTH) (λ fits. plain p1 p2 body) tt

row-plain : (row : Option Row) (p1 p2 : ℕ) (bytes : List ℕ) → IfSome row Plain
    → ShowsNone (asked_by_row row p1 p2 bytes)
row-plain None p1 p2 bytes plain = tt
row-plain (Some row) p1 p2 bytes plain =
    choose ShowsNone (row.parameters p1 p2) (asked_by_body row p1 p2 (sent_body bytes)) (Err WRONG_PARAMETERS)
    (λ known. body-plain row p1 p2 (sent_body bytes) plain) tt

-- a command that can't compare a PIN
pub plain-asked : (command : List ℕ) → ¬ MayCompare (Apdu command) → ShowsNone (asked command)
plain-asked [] plain = tt
plain-asked (class ∷ []) plain = tt
plain-asked (class ∷ instruction ∷ []) plain = tt
plain-asked (class ∷ instruction ∷ p1 ∷ []) plain = tt
plain-asked (class ∷ instruction ∷ p1 ∷ p2 ∷ bytes) plain =
    choose ShowsNone (is_class class) (asked_by_row (row_of class instruction) p1 p2 bytes) (Err UNKNOWN_CLASS)
    (λ known. row-plain (row_of class instruction) p1 p2 bytes
    (plain-row class instruction (λ of. plain (let more : 1 < length (class ∷ instruction ∷ p1 ∷ p2 ∷ bytes) =
    omega arith in (more, of))))) tt
