-- Every row of the table of commands is lawful: one record of laws for each, and what follows of commands.
use Rattle.std.specs.Prelude.{◌≡◌, ◌==◌, ℕ, true, ◌&&◌, List, [], ◌∷◌, length}
use Rattle.std.specs.Prelude.{Option, Some, None, is_some, Result, Ok, Err, MatchResult, IfOk, IfSome}
use Rattle.std.proofs.Common.{lit<}
use Rattle.card_model.specs.declared.status.Sw.{Sw}
use Rattle.card_model.specs.declared.status.TheConstants.Sw.{WRONG_LENGTH, WRONG_PARAMETERS, UNKNOWN_CLASS}
use Rattle.card_model.specs.CommandTable.{SentBody, sent_body, Row, asked, asked_by_body, asked_by_row, command_table}
use Rattle.card_model.specs.CommandTable.{is_class, row_of, select_rows, binary_rows, file_rows, record_rows}
use Rattle.card_model.specs.CommandTable.{life_cycle_rows, pin_rows}
use Rattle.card_model.specs.Requests.{Request, IsOfBytes, IsSized, AreBytes, IsStatusWord}
use Rattle.card_model.specs.laws.ByteLaws.{IsBodyOfBytes, body-of_bytes, bytes-drop, bytes-rest, bytes-take}
use Rattle.card_model.specs.laws.ByteLaws.{named_file-of_bytes, shown_value-of_bytes, shown_values-of_bytes}
use Rattle.card_model.specs.laws.SizeLaws.{change-sized, named-sized, one-value-sized, sent-sized}
use Rattle.card_model.specs.laws.SizeLaws.{text-sized, value-sized, values-sized}
use Rattle.card_model.specs.laws.TableLaws.{EachRow, choose, each_found, each_group}

-- Of a row: under a body of bytes it asks for a request of bytes; and each body that it allows is of a good size.
record IsLawful (row : Row) : Type 0 where
  of_bytes : (p1 p2 : ℕ) (body : SentBody) → IsBodyOfBytes body → IsOfBytes (row.meaning p1 p2 body)
  sized : (p1 p2 : ℕ) (body : SentBody) → row.lengths p1 p2 (length body.sent) (is_some body.expected) ≡ true
      → IsSized (row.meaning p1 p2 body)

selects : EachRow IsLawful select_rows
selects = (
  record {
    of_bytes = λ p1 p2 body of. (named_file-of_bytes p1 body.sent of.sent, of.expected);
    sized = λ p1 p2 body fits. named-sized (p1 == 0x00) (p1 == 0x03) (p1 == 0x04) (p1 == 0x08) body.sent fits;
  },
  tt,
)

binaries : EachRow IsLawful binary_rows
binaries = (
  record { of_bytes = λ p1 p2 body of. of.expected; sized = λ p1 p2 body fits. tt },
  (
    record {
      of_bytes = λ p1 p2 body of. of.sent;
      sized = λ p1 p2 body fits. sent-sized body.sent (is_some body.expected) fits;
    },
    tt,
  ),
)

files : EachRow IsLawful file_rows
files = (
  record {
    of_bytes = λ p1 p2 body of. of.sent;
    sized = λ p1 p2 body fits. sent-sized body.sent (is_some body.expected) fits;
  },
  (record { of_bytes = λ p1 p2 body of. tt; sized = λ p1 p2 body fits. tt }, tt),
)

records : EachRow IsLawful record_rows
records = (
  record { of_bytes = λ p1 p2 body of. of.expected; sized = λ p1 p2 body fits. tt },
  (
    record {
      of_bytes = λ p1 p2 body of. of.sent;
      sized = λ p1 p2 body fits. sent-sized body.sent (is_some body.expected) fits;
    },
    (
      record {
        of_bytes = λ p1 p2 body of. of.sent;
        sized = λ p1 p2 body fits. sent-sized body.sent (is_some body.expected) fits;
      },
      (
        record {
          of_bytes = λ p1 p2 body of. (of.sent, of.expected);
          sized = λ p1 p2 body fits. text-sized body.sent fits;
        },
        (
          record {
            of_bytes = λ p1 p2 body of. (of.sent, of.expected);
            sized = λ p1 p2 body fits. text-sized body.sent fits;
          },
          tt,
        ),
      ),
    ),
  ),
)

life_cycles : EachRow IsLawful life_cycle_rows
life_cycles = (
  record { of_bytes = λ p1 p2 body of. tt; sized = λ p1 p2 body fits. tt },
  (
    record { of_bytes = λ p1 p2 body of. tt; sized = λ p1 p2 body fits. tt },
    (
      record { of_bytes = λ p1 p2 body of. tt; sized = λ p1 p2 body fits. tt },
      (
        record { of_bytes = λ p1 p2 body of. tt; sized = λ p1 p2 body fits. tt },
        (record { of_bytes = λ p1 p2 body of. tt; sized = λ p1 p2 body fits. tt }, tt),
      ),
    ),
  ),
)

pins : EachRow IsLawful pin_rows
pins = (
  record {
    of_bytes = λ p1 p2 body of. shown_value-of_bytes body.sent of.sent;
    sized = λ p1 p2 body fits. value-sized body.sent (is_some body.expected) fits;
  },
  (
    record {
      of_bytes = λ p1 p2 body of. (bytes-take 8 body.sent of.sent, bytes-drop 8 body.sent of.sent);
      sized = λ p1 p2 body fits. change-sized body.sent (is_some body.expected) fits;
    },
    (
      record {
        of_bytes = λ p1 p2 body of. shown_values-of_bytes body.sent of.sent;
        sized = λ p1 p2 body fits. values-sized body.sent (is_some body.expected) fits;
      },
      (
        record {
          of_bytes = λ p1 p2 body of. of.sent;
          sized = λ p1 p2 body fits. one-value-sized body.sent (is_some body.expected) fits;
        },
        (
          record {
            of_bytes = λ p1 p2 body of. of.sent;
            sized = λ p1 p2 body fits. one-value-sized body.sent (is_some body.expected) fits;
          },
          tt,
        ),
      ),
    ),
  ),
)

-- the row of an instruction, if there is one
lawful-row : (class instruction : ℕ) → IfSome (row_of class instruction) IsLawful
lawful-row class instruction =
    each_found IsLawful (λ row. (row.class == class) && (row.instruction == instruction)) command_table
    (each_group IsLawful selects binaries files records life_cycles pins)

-- what a row makes of a body of bytes
body-asked : (row : Row) (p1 p2 : ℕ) (body : Option SentBody) → IsLawful row → IfSome body IsBodyOfBytes
    → MatchResult (asked_by_body row p1 p2 body) IsOfBytes IsStatusWord
body-asked row p1 p2 None lawful of = lit< tt
body-asked row p1 p2 (Some body) lawful of =
    choose (λ (asked : Result Request Sw). MatchResult asked IsOfBytes IsStatusWord)
    (row.lengths p1 p2 (length body.sent) (is_some body.expected)) (Ok (row.meaning p1 p2 body)) (Err WRONG_LENGTH)
    (λ fits. lawful.of_bytes p1 p2 body of) (lit< tt)

row-asked : (row : Option Row) (p1 p2 : ℕ) (bytes : List ℕ) → IfSome row IsLawful → AreBytes bytes
    → MatchResult (asked_by_row row p1 p2 bytes) IsOfBytes IsStatusWord
row-asked None p1 p2 bytes lawful all = lit< tt
row-asked (Some row) p1 p2 bytes lawful all =
    choose (λ (asked : Result Request Sw). MatchResult asked IsOfBytes IsStatusWord)
    (row.parameters p1 p2) (asked_by_body row p1 p2 (sent_body bytes)) (Err WRONG_PARAMETERS)
    (λ known. body-asked row p1 p2 (sent_body bytes) lawful (body-of_bytes bytes all)) (lit< tt)

-- a command of bytes asks for a request of bytes, or is refused by a status word of two bytes
pub asked-of_bytes : (command : List ℕ) → AreBytes command → MatchResult (asked command) IsOfBytes IsStatusWord
asked-of_bytes [] all = lit< tt
asked-of_bytes (class ∷ []) all = lit< tt
asked-of_bytes (class ∷ instruction ∷ []) all = lit< tt
asked-of_bytes (class ∷ instruction ∷ p1 ∷ []) all = lit< tt
asked-of_bytes (class ∷ instruction ∷ p1 ∷ p2 ∷ bytes) all =
    let rest : AreBytes bytes =
    bytes-rest p2 bytes (bytes-rest p1 (p2 ∷ bytes) (bytes-rest instruction (p1 ∷ p2 ∷ bytes) (bytes-rest class
    (instruction ∷ p1 ∷ p2 ∷ bytes) all))) in
    choose (λ (asked : Result Request Sw). MatchResult asked IsOfBytes IsStatusWord)
    (is_class class) (asked_by_row (row_of class instruction) p1 p2 bytes) (Err UNKNOWN_CLASS)
    (λ known. row-asked (row_of class instruction) p1 p2 bytes (lawful-row class instruction) rest) (lit< tt)

-- how much a row lets through
body-sized : (row : Row) (p1 p2 : ℕ) (body : Option SentBody) → IsLawful row
    → IfOk (asked_by_body row p1 p2 body) IsSized
body-sized row p1 p2 None lawful = tt
body-sized row p1 p2 (Some body) lawful =
    choose (λ (asked : Result Request Sw). IfOk asked IsSized)
    (row.lengths p1 p2 (length body.sent) (is_some body.expected)) (Ok (row.meaning p1 p2 body)) (Err WRONG_LENGTH)
    (lawful.sized p1 p2 body) tt

row-sized : (row : Option Row) (p1 p2 : ℕ) (bytes : List ℕ) → IfSome row IsLawful
    → IfOk (asked_by_row row p1 p2 bytes) IsSized
row-sized None p1 p2 bytes lawful = tt
row-sized (Some row) p1 p2 bytes lawful =
    choose (λ (asked : Result Request Sw). IfOk asked IsSized)
    (row.parameters p1 p2) (asked_by_body row p1 p2 (sent_body bytes)) (Err WRONG_PARAMETERS)
    (λ known. body-sized row p1 p2 (sent_body bytes) lawful) tt

-- a command names and sends no more than the table of commands allows
pub asked-sized : (command : List ℕ) → IfOk (asked command) IsSized
asked-sized [] = tt
asked-sized (class ∷ []) = tt
asked-sized (class ∷ instruction ∷ []) = tt
asked-sized (class ∷ instruction ∷ p1 ∷ []) = tt
asked-sized (class ∷ instruction ∷ p1 ∷ p2 ∷ bytes) =
    choose (λ (asked : Result Request Sw). IfOk asked IsSized) (is_class class)
    (asked_by_row (row_of class instruction) p1 p2 bytes) (Err UNKNOWN_CLASS)
    (λ known. row-sized (row_of class instruction) p1 p2 bytes (lawful-row class instruction)) tt
